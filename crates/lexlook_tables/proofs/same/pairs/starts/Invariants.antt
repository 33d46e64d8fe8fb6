use Rattle.lexlook_tables.specs.Searching.{AreStarts}
use Rattle.lexlook_tables.proofs.same.pairs.starts.Given as goal

abbrev pub invariant-loop-condition : goal.invariant-loop-condition
invariant-loop-condition g l = AreStarts l.order (g.A.Machine.machine l.left) (g.B.Machine.machine l.right) (g.A.Machine.states l.left) (g.B.Machine.states l.right) l.pairs.items l.condition
