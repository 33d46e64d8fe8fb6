use Rattle.std.proofs.Common.{◌≡◌, ◌+◌, ◌++◌, drop, map}
use Rattle.lex_semantics.specs.Tree.{trees, Cat, Alt}
use Rattle.lex_semantics.specs.Shapes.{AreSoundTrees}
use Rattle.lex_semantics.specs.Positions.{positions_of}
use Rattle.lexre.specs.Views.{tree_of}
use Rattle.lexauto_positions.specs.Alike.{Alike, choice_of}
use Rattle.lexauto_positions.specs.Plans.{plan_of, plans, trees_in, trees_laid, AreSized}
use Rattle.lexauto_positions.proofs.layout.+lay.Given as goal

abbrev pub invariant-lay_all-loop-part : goal.invariant-lay_all-loop-part
invariant-lay_all-loop-part l = record {
  sound : AreSoundTrees (trees (map tree_of (drop l.part-index l.parts)));
  sized : AreSized (plans (map plan_of l.row.parts.items));
  size : l.row.size ≡ positions_of (trees_in (plans (map plan_of l.row.parts.items)));
  total : l.row.size + positions_of (trees (map tree_of (drop l.part-index l.parts))) ≡ positions_of (trees (map tree_of l.parts));
  series : Alike (Cat (trees (trees_laid l.row.parts.items ++ map tree_of (drop l.part-index l.parts)))) (Cat (trees (map tree_of l.parts)));
  choice : Alike (choice_of l.row.has_empty (trees (trees_laid l.row.parts.items ++ map tree_of (drop l.part-index l.parts)))) (Alt (trees (map tree_of l.parts)));
}
