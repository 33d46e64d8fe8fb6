use Rattle.lexauto_reports.proofs.Entered.{AreEntries}
use Rattle.lexauto_reports.proofs.backing.entries.Given as goal

abbrev pub invariant-loop-state : goal.invariant-loop-state
invariant-loop-state l = AreEntries l.dfa.parts l.entries.items l.state
