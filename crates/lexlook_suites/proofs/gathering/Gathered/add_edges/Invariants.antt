use Rattle.lexlook_suites.specs.Gathers.{Adds, HasEdges, IsFirst, rules_by}
use Rattle.lexlook_suites.specs.Trees.{state_at}
use Rattle.lexlook_suites.proofs.gathering.Gathered.add_edges.Given as goal

abbrev pub invariant-loop-rank : goal.invariant-loop-rank
invariant-loop-rank l = record {
  adds : Adds (rules_by l.machine) l.dfa.parts l.fn.self l.self;
  edges : IsFirst l.dfa.parts l.way.text.items l.tree.start → HasEdges (rules_by l.machine) l.dfa.parts l.self (state_at l.tree.steps.items l.place) l.rank;
}
