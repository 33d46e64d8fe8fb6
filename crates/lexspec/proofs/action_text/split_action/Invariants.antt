use Rattle.std.proofs.Common.{◌≤◌}
use Rattle.lexspec.specs.ActionViews.{place_of}
use Rattle.lexspec.proofs.ActionLaws.{Read}
use Rattle.lexspec.proofs.action_text.split_action.Given as goal

abbrev pub invariant-loop-i : goal.invariant-loop-i
invariant-loop-i l = record {
  read : Read l.text l.i (place_of l.progress.place) l.progress.depth;
  few : l.progress.depth ≤ l.i;
}
