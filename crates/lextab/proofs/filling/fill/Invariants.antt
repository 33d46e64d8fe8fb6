use Rattle.std.proofs.Common.{◌≡◌, length, slice_index}
use Rattle.lextab.specs.Searching.{AreFilled}
use Rattle.lextab.proofs.filling.fill.Given as goal

abbrev pub invariant-loop-k : goal.invariant-loop-k
invariant-loop-k l = record {
  check : length l.check ≡ length l.fn.check;
  targets : length l.targets ≡ length l.fn.targets;
  filled : AreFilled (λ k. slice_index l.block (slice_index l.heads k)) l.default l.base l.state l.k l.fn.check l.fn.targets l.check l.targets;
}
