use Rattle.std.proofs.Common.{◌≡◌, ◌<◌, ◌↔◌, ℕ, false}
use Rattle.lex_semantics.specs.Text.{Among, Ascending, flag}
use Rattle.lexauto_dfa.proofs.accepted.unset.Given as goal

abbrev pub invariant-loop-place : goal.invariant-loop-place
invariant-loop-place l = record {
  ascending : Ascending l.places.items;
  unset : (i : ℕ) → Among l.places.items i ↔ ((i < l.place) × (flag l.flags i ≡ false));
}
