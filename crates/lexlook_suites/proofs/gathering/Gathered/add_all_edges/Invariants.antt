use Rattle.std.proofs.Common.{◌≤◌, length}
use Rattle.lexlook_suites.specs.Gathers.{Adds, HasAllEdges, IsFirst, rules_by}
use Rattle.lexlook_suites.proofs.gathering.Gathered.add_all_edges.Given as goal

abbrev pub invariant-loop-place : goal.invariant-loop-place
invariant-loop-place l = record {
  within : l.place ≤ length l.tree.steps.items;
  adds : Adds (rules_by l.machine) l.dfa.parts l.fn.self l.self;
  edges : IsFirst l.dfa.parts l.way.text.items l.tree.start → HasAllEdges (rules_by l.machine) l.dfa.parts l.self l.tree.steps.items l.place;
}

abbrev pub decreases-loop-place : goal.decreases-loop-place
decreases-loop-place l = l.place
