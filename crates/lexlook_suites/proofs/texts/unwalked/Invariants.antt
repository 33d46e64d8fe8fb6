use Rattle.std.proofs.Common.{◌≡◌, take}
use Rattle.lexlook_suites.specs.Texts.{unwalked}
use Rattle.lexlook_suites.proofs.texts.unwalked.Given as goal

abbrev pub invariant-loop-edge : goal.invariant-loop-edge
invariant-loop-edge l = l.unwalked.items ≡ unwalked (take l.edge-index l.edges)
