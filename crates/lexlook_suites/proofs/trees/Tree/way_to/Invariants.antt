use Rattle.std.proofs.Common.{◌≡◌, ◌≤◌, reverse}
use Rattle.lexauto_dfa.specs.Parts.{after}
use Rattle.lexlook_suites.specs.Trees.{state_at}
use Rattle.lexlook_suites.proofs.trees.Tree.way_to.Given as goal

abbrev pub invariant-loop-at : goal.invariant-loop-at
invariant-loop-at l = record {
  low : l.at ≤ l.place;
  leads : after l.dfa.parts (state_at l.self.steps.items l.at) (reverse l.bytes.items) ≡ state_at l.self.steps.items l.place;
}

abbrev pub decreases-loop-at : goal.decreases-loop-at
decreases-loop-at l = l.at
