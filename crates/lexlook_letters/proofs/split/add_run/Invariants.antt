use Rattle.std.proofs.Common.{◌+◌, ◌-◌, ◌≤◌, max}
use Rattle.lexlook_letters.specs.Sequences.{AddsWords}
use Rattle.lexlook_letters.proofs.Runs.{IsEncodingBelow}
use Rattle.lexlook_letters.proofs.split.add_run.Given as goal

abbrev pub invariant-loop-next : goal.invariant-loop-next
invariant-loop-next l = (l.fn.first ≤ l.next) × (l.next ≤ max l.fn.first (l.last + 1))
    × AddsWords l.initial.found.items l.found.items (IsEncodingBelow l.fn.first l.next)

abbrev pub decreases-loop-next : goal.decreases-loop-next
decreases-loop-next l = l.last + 1 - l.next
