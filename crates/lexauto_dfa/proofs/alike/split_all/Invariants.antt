use Rattle.lexauto_dfa.specs.Alike.{AreLeads, moves}
use Rattle.lexauto_dfa.proofs.alike.split_all.Given as goal

abbrev pub invariant-loop-state : goal.invariant-loop-state
invariant-loop-state l = AreLeads l.state (moves l.next) l.lead
