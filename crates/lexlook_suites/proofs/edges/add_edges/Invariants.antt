use Rattle.std.proofs.Common.{◌≡◌, ◌-◌, ◌++◌, flat_map}
use Rattle.std.specs.List.{range_with_len}
use Rattle.lexlook_suites.specs.Edges.{marked_edge}
use Rattle.lexlook_suites.proofs.edges.add_edges.Given as goal

abbrev pub invariant-loop-byte : goal.invariant-loop-byte
invariant-loop-byte l = l.edges.items ≡ l.fn.edges.items ++ flat_map (marked_edge l.dfa.parts l.marks l.rules l.state) (range_with_len 0 (l.byte - 0))
