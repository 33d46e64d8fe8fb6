use Rattle.std.proofs.Common.{◌≡◌, ◌↔◌, ℕ, true, length}
use Rattle.lex_semantics.specs.Text.{flag}
use Rattle.lexauto_dfa.specs.Accepted.{AcceptsBelow}
use Rattle.lexauto_dfa.proofs.accepted.accepted_rules.Given as goal

abbrev pub invariant-loop-state : goal.invariant-loop-state
invariant-loop-state l = record {
  len : length l.accepted.items ≡ l.rules;
  flags : (i : ℕ) → (flag l.accepted.items i ≡ true) ↔ AcceptsBelow l.dfa l.state i;
}
