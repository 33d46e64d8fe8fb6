use Rattle.std.proofs.Common.{◌≡◌, ◌<◌, ◌↔◌, ℕ, false, length}
use Rattle.lex_semantics.specs.Text.{flag}
use Rattle.lexlook_specs.specs.Placing.{TakesBelow}
use Rattle.lexlook_specs.proofs.words.placing.takers.Given as goal

abbrev pub invariant-loop-state : goal.invariant-loop-state
invariant-loop-state l = record {
  len : length l.free.items ≡ length l.rejects;
  cleared : (j : ℕ) → ((j < length l.free.items) × (flag l.free.items j ≡ false)) ↔ TakesBelow l.dfa.parts l.rejects l.places l.state l.rule j;
}
