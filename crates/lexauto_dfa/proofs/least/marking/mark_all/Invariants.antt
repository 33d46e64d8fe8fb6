use Rattle.std.proofs.Common.{slice_index}
use Rattle.lexauto_dfa.specs.Arranged.{Arranged}
use Rattle.lexauto_dfa.specs.Marked.{Marks, Notes}
use Rattle.lexauto_dfa.specs.Sources.{HasBelow}
use Rattle.lexauto_dfa.proofs.least.marking.mark_all.Given as goal

abbrev pub invariant-loop-target : goal.invariant-loop-target
invariant-loop-target l = record {
  arranged : Arranged l.blocks;
  notes : Notes l.touched.items l.blocks;
  marks : Marks l.fn.blocks (λ x. HasBelow l.targets l.target-index (slice_index l.letter.row.items x)) l.blocks;
}
