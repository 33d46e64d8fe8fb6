use Rattle.std.proofs.Common.{ℕ, ◌*◌, ◌<◌}
use Rattle.lextab.specs.Searching.{Hits}
use Rattle.lextab.proofs.slots.first_fit.Given as goal

abbrev pub invariant-loop-w : goal.invariant-loop-w
invariant-loop-w l = (c : ℕ) → c < 64 * l.w → Hits l.words l.entries c
