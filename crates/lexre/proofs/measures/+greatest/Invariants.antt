use Rattle.std.proofs.Common.{◌≡◌, ◌≤◌, ◌^◌, map, drop, Some, option_map}
use Rattle.lex_semantics.specs.Tree.{trees}
use Rattle.lexre.specs.Lengths.{length_sum, larger, greatest_of_each, greatest_of_some, capped}
use Rattle.lexre.specs.Views.{tree_of}
use Rattle.lexre.proofs.measures.+greatest.Given as goal

-- the sum so far and that of what is left
abbrev pub invariant-capped_greatest_of_each-loop-part : goal.invariant-capped_greatest_of_each-loop-part
invariant-capped_greatest_of_each-loop-part l = record {
  at_most : l.total ≤ 2 ^ 32;
  sum : option_map capped (length_sum (Some l.total) (greatest_of_each (trees (map tree_of (drop l.part-index l.parts))))) ≡ option_map capped (greatest_of_each (trees (map tree_of l.parts)));
}

-- the greatest so far and of what is left
abbrev pub invariant-capped_greatest_of_some-loop-part : goal.invariant-capped_greatest_of_some-loop-part
invariant-capped_greatest_of_some-loop-part l = record {
  at_most : l.most ≤ 2 ^ 32;
  greatest : option_map capped (larger (Some l.most) (greatest_of_some (trees (map tree_of (drop l.part-index l.parts))))) ≡ option_map capped (greatest_of_some (trees (map tree_of l.parts)));
}
