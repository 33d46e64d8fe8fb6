use Rattle.std.proofs.Common.{◌≤◌, ℕ, List, length, take}
use Rattle.lex_semantics.specs.Machine.{rules_of_machine}
use Rattle.lex_semantics.specs.Trail.{falling}
use Rattle.lexlook_counts.specs.Descending.{CountsMore, GoesOnWith}
use Rattle.lexlook_counts.proofs.given_up.count_matches.Given as goal

-- those of the lengths so far are counted
abbrev pub invariant-lengths : goal.invariant-lengths
invariant-lengths g l =
    let M = g.M.Machine.machine l.fn.machine in
    (l.length ≤ length l.fn.path)
    × ((done : List ℕ) × CountsMore l.fn.counts.items l.counts.items done × GoesOnWith (rules_of_machine M) (falling M 0 l.fn.path) (falling M 0 (take l.length l.fn.path)) done)

abbrev pub decreases-lengths : goal.decreases-lengths
decreases-lengths g l = l.length
