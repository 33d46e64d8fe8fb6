use Rattle.std.proofs.Common.{◌≡◌, ℕ, ◌-◌, ◌<◌, ◌≤◌, false, length}
use Rattle.std.specs.Prelude.{slice_index_or}
use Rattle.lex_semantics.specs.ByteSets.{has, empty_set}
use Rattle.lexauto.proofs.changing.changes_of.Given as goal

abbrev pub invariant-loop-set : goal.invariant-loop-set
invariant-loop-set l = record {
  len : length l.all.items ≡ l.set-index;
  told : (q b : ℕ) → q < l.set-index → 1 ≤ b → b < 256 → has (slice_index_or l.all.items q empty_set) b ≡ false
      → has (slice_index_or l.letters q empty_set) (b - 1) ≡ has (slice_index_or l.letters q empty_set) b;
}
