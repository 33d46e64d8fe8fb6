use Rattle.std.proofs.Common.{◌≡◌, map, take}
use Rattle.lexlook_suites.proofs.edges.parts_of.Given as goal

abbrev pub invariant-loop-edge : goal.invariant-loop-edge
invariant-loop-edge l = l.parts.items ≡ map (λ e. e.part) (take l.edge-index l.edges)
