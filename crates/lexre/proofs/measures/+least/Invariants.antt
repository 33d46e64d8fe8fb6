use Rattle.std.proofs.Common.{◌≡◌, ◌+◌, ◌≤◌, ◌^◌, map, drop, option_map, IfSome}
use Rattle.lex_semantics.specs.Tree.{trees}
use Rattle.lexre.specs.Lengths.{least_of_each, least_of_some, capped, lesser}
use Rattle.lexre.specs.Views.{tree_of}
use Rattle.lexre.proofs.measures.+least.Given as goal

-- the sum so far and that of what is left
abbrev pub invariant-capped_least_of_each-loop-part : goal.invariant-capped_least_of_each-loop-part
invariant-capped_least_of_each-loop-part l = record {
  at_most : l.total ≤ 2 ^ 32;
  sum : capped (l.total + least_of_each (trees (map tree_of (drop l.part-index l.parts)))) ≡ capped (least_of_each (trees (map tree_of l.parts)));
}

-- the smallest so far and of what is left
abbrev pub invariant-capped_least_of_some-loop-part : goal.invariant-capped_least_of_some-loop-part
invariant-capped_least_of_some-loop-part l = record {
  at_most : IfSome l.found (λ n. n ≤ 2 ^ 32);
  smallest : option_map capped (lesser l.found (least_of_some (trees (map tree_of (drop l.part-index l.parts))))) ≡ option_map capped (least_of_some (trees (map tree_of l.parts)));
}
