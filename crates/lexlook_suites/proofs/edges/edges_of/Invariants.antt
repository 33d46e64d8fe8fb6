use Rattle.std.proofs.Common.{◌≡◌, ◌-◌, ◌++◌, [], flat_map}
use Rattle.std.specs.List.{range_with_len}
use Rattle.lexlook_suites.specs.Edges.{edges_from}
use Rattle.lexlook_suites.proofs.edges.edges_of.Given as goal

abbrev pub invariant-loop-state : goal.invariant-loop-state
invariant-loop-state l = l.edges.items ≡ [] ++ flat_map (edges_from l.dfa.parts l.marks l.rules) (range_with_len 1 (l.state - 1))
