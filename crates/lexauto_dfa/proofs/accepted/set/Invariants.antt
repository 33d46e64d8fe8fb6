use Rattle.std.proofs.Common.{◌≡◌, ◌⊎◌, ◌↔◌, ℕ, true, length, take}
use Rattle.lex_semantics.specs.Text.{Among, flag}
use Rattle.lexauto_dfa.proofs.accepted.set.Given as goal

abbrev pub invariant-loop-rule : goal.invariant-loop-rule
invariant-loop-rule l = record {
  len : length l.flags ≡ length l.fn.flags;
  flags : (i : ℕ) → (flag l.flags i ≡ true) ↔ ((flag l.fn.flags i ≡ true) ⊎ Among (take l.rule-index l.rules) i);
}
