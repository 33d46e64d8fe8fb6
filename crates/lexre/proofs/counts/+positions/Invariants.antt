use Rattle.std.proofs.Common.{◌≡◌, ◌+◌, ◌≤◌, ◌^◌, min, map, drop}
use Rattle.lex_semantics.specs.Positions.{positions_of}
use Rattle.lex_semantics.specs.Tree.{trees}
use Rattle.lexre.specs.Views.{tree_of}
use Rattle.lexre.proofs.counts.+positions.Given as goal

-- the sum so far and that of what is left
abbrev pub invariant-capped_positions_of-loop-part : goal.invariant-capped_positions_of-loop-part
invariant-capped_positions_of-loop-part l = record {
  at_most : l.total ≤ 2 ^ 32;
  sum : min (2 ^ 32) (l.total + positions_of (trees (map tree_of (drop l.part-index l.parts)))) ≡ min (2 ^ 32) (positions_of (trees (map tree_of l.parts)));
}
