use Rattle.std.proofs.Common.{ℕ, ◌<◌, Bool}
use Rattle.lexlook_specs.specs.Placing.{MeetsAfter}
use Rattle.lexlook_specs.proofs.words.starting.first_start.Given as goal

abbrev pub invariant-loop-condition : goal.invariant-loop-condition
invariant-loop-condition l = (c : ℕ) (line : Bool) → c < l.condition → MeetsAfter l.dfa.parts l.rejects l.text l.wish c line → ⊥
