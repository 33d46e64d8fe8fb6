use Rattle.std.proofs.Common.{◌≡◌, ℕ, suc, ◌≤◌, slice_index}
use Rattle.lexauto_dfa.specs.Arranged.{Arranged, states}
use Rattle.lexauto_dfa.specs.Marked.{Marks, Notes}
use Rattle.lexauto_dfa.proofs.least.marking.mark_sources.Given as goal

abbrev pub invariant-chain : goal.invariant-chain
invariant-chain l = record {
  arranged : Arranged l.blocks;
  notes : Notes l.touched.items l.blocks;
  low : l.next ≤ states l.fn.blocks;
  here : (z : ℕ) → l.next ≡ suc z → slice_index l.letter.row.items z ≡ l.target;
  marks : Marks l.fn.blocks (λ x. (slice_index l.letter.row.items x ≡ l.target) × (l.next ≤ x)) l.blocks;
}

abbrev pub decreases-chain : goal.decreases-chain
decreases-chain l = l.next
