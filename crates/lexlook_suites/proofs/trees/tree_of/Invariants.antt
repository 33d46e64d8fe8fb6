use Rattle.std.proofs.Common.{◌≡◌, ◌≤◌, ◌+◌, ◌-◌, length}
use Rattle.lexauto_reports.specs.Searching.{unfound}
use Rattle.lexlook_suites.specs.Trees.{IsTree}
use Rattle.lexlook_suites.proofs.trees.tree_of.Given as goal

abbrev pub invariant-loop-place : goal.invariant-loop-place
invariant-loop-place l = record {
  start : l.tree.start ≡ l.start;
  within : l.place ≤ length l.tree.steps.items;
  tree : IsTree l.dfa.parts l.tree.start l.tree.steps.items l.tree.places.items l.place;
}

abbrev pub decreases-loop-place : goal.decreases-loop-place
decreases-loop-place l = length l.tree.steps.items + unfound l.tree.places.items - l.place
