use Rattle.std.proofs.Common.{◌≡◌, ℕ, ◌*◌, ◌<◌, length, get_or, None}
use Rattle.std.specs.Option.{ForSome}
use Rattle.lextab_packed.specs.Leaps.{OthersStay}
use Rattle.lextab_packed.proofs.leaps.leaps_of.Given as goal

abbrev pub invariant-loop-state : goal.invariant-loop-state
invariant-loop-state l =
    (length l.leaps.items ≡ l.state) × ((s : ℕ) → s < l.state → ForSome (get_or l.leaps.items s None) (λ leavers. OthersStay l.rows (256 * s) leavers))
