use Rattle.std.proofs.Common.{◌≡◌, drop, map}
use Rattle.lexlook_text.specs.LineViews.{line_of}
use Rattle.lexspec_actions.specs.Views.{condition_of}
use Rattle.lexlook_check.specs.IdleEnds.{have_own}
use Rattle.lexlook_check.proofs.idle_ends.have_own.Given as goal

abbrev pub invariant-loop-condition : goal.invariant-loop-condition
invariant-loop-condition l =
    have_own (map line_of l.lines) (map condition_of (drop l.condition-index l.conditions)) ≡ have_own (map line_of l.lines) (map condition_of l.conditions)
