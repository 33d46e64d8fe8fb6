use Rattle.std.proofs.Common.{◌≡◌, ℕ, ◌*◌, ◌<◌}
use Rattle.lextab.specs.Searching.{slot_bit}
use Rattle.lextab.proofs.slots.full_words.Given as goal

abbrev pub invariant-loop-w : goal.invariant-loop-w
invariant-loop-w l = (i : ℕ) → i < 64 * l.w → slot_bit l.words i ≡ 1
