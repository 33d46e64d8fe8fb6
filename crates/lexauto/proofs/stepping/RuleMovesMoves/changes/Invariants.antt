use Rattle.std.proofs.Common.{◌≡◌, ℕ, ◌<◌, false, length}
use Rattle.std.specs.Prelude.{slice_index, slice_index_or}
use Rattle.lex_semantics.specs.ByteSets.{has, empty_set}
use Rattle.lexauto.specs.Moving.{place_at}
use Rattle.lexauto.proofs.stepping.RuleMovesMoves.changes.Given as goal

abbrev pub invariant-loop-position : goal.invariant-loop-position
invariant-loop-position l = record {
  told : (j b : ℕ) → j < l.position-index → b < 256 → has l.changes b ≡ false
      → has (slice_index_or l.self.changes.items (place_at l.self.places.items (length l.self.changes.items) (slice_index l.followers j)) empty_set) b ≡ false;
  last : (b : ℕ) → b < 256 → has l.changes b ≡ false → has (slice_index_or l.self.changes.items l.last empty_set) b ≡ false;
}
