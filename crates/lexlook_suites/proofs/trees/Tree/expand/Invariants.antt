use Rattle.std.proofs.Common.{◌≡◌, ◌≤◌, ◌+◌, length}
use Rattle.lexauto_reports.specs.Searching.{unfound}
use Rattle.lexlook_suites.specs.Trees.{IsPast, IsTree}
use Rattle.lexlook_suites.proofs.trees.Tree.expand.Given as goal

abbrev pub invariant-loop-rank : goal.invariant-loop-rank
invariant-loop-rank l = record {
  start : l.self.start ≡ l.fn.self.start;
  tree : IsTree l.dfa.parts l.self.start l.self.steps.items l.self.places.items l.place;
  past : IsPast l.dfa.parts l.self.steps.items l.self.places.items l.place l.rank;
  more : length l.fn.self.steps.items ≤ length l.self.steps.items;
  fewer : length l.self.steps.items + unfound l.self.places.items ≡ length l.fn.self.steps.items + unfound l.fn.self.places.items;
}
