use Rattle.lexauto_reports.specs.Searching.{AreSeen}
use Rattle.lexauto_reports.proofs.search.unseen.Given as goal

abbrev pub invariant-loop-state : goal.invariant-loop-state
invariant-loop-state l = AreSeen l.dfa.parts l.states l.state-index l.byte l.place l.fn.places.items l.places.items l.unseen.items
