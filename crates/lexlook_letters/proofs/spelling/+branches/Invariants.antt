use Rattle.std.proofs.Common.{◌≡◌, ◌+◌, ◌-◌, ◌*◌, ◌++◌, length}
use Rattle.std.specs.List.{AllByRecursion}
use Rattle.lexlook_letters.specs.Text.{Reaches, branches_at, branches_text}
use Rattle.lexlook_letters.proofs.Nodes.{choice_nodes}
use Rattle.lexlook_letters.proofs.spelling.+branches.Given as goal

abbrev pub decreases-add_branch : goal.decreases-add_branch
decreases-add_branch l = 2 * (5 - l.at)

abbrev pub decreases-add_branches : goal.decreases-add_branches
decreases-add_branches l = 2 * (5 - l.at) + 1

abbrev pub decreases-add_branches-loop-first : goal.decreases-add_branches-loop-first
decreases-add_branches-loop-first l = length l.rest

abbrev pub invariant-add_branches-loop-first : goal.invariant-add_branches-loop-first
invariant-add_branches-loop-first l = record {
  reach : AllByRecursion (Reaches l.at) l.rest;
  text : l.text.items ++ branches_text (branches_at l.at l.rest) ≡ l.initial.text.items ++ branches_text (branches_at l.at l.sequences);
  nodes : l.left + choice_nodes (branches_at l.at l.sequences) ≡ l.initial.left + choice_nodes (branches_at l.at l.rest);
}
