use Rattle.std.proofs.Common.{◌≡◌, ℕ, ◌*◌, ◌<◌, length, slice_index}
use Rattle.lextab.specs.Unpacked.{TellsNext}
use Rattle.lextab.proofs.unpacked.mark_changes.Given as goal

abbrev pub invariant-loop-block : goal.invariant-loop-block
invariant-loop-block l = record {
  len : length l.changes ≡ 256;
  before : (b : ℕ) → slice_index l.changes b ≡ 0 → slice_index l.fn.changes b ≡ 0;
  here : (b : ℕ) → b < 4 * l.block → TellsNext l.row l.changes b;
}
