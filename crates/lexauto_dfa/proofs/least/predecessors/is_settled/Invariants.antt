use Rattle.std.proofs.Common.{ℕ}
use Rattle.lexauto_dfa.specs.Arranged.{IsAlone}
use Rattle.lexauto_dfa.specs.Predecessors.{Allows, known_of}
use Rattle.lexauto_dfa.specs.Sources.{HasBelow}
use Rattle.lexauto_dfa.proofs.least.predecessors.is_settled.Given as goal

abbrev pub invariant-loop-target : goal.invariant-loop-target
invariant-loop-target l = (t x : ℕ) → HasBelow l.targets l.target-index t → Allows (known_of l.known t) x → IsAlone l.blocks x
