use Rattle.std.proofs.Common.{ℕ, ◌<◌, Bool}
use Rattle.lexlook_suites.specs.Texts.{LeadsFrom}
use Rattle.lexlook_suites.proofs.texts.first_start.Given as goal

abbrev pub invariant-loop-condition : goal.invariant-loop-condition
invariant-loop-condition l = (c : ℕ) (line : Bool) → c < l.condition → LeadsFrom l.dfa.parts l.state l.word c line → ⊥
