use Rattle.std.proofs.Common.{◌≡◌, ℕ, ◌<◌, slice_index}
use Rattle.lexauto_dfa.proofs.least.marking.reaches.Given as goal

abbrev pub invariant-loop-target : goal.invariant-loop-target
invariant-loop-target l = (i : ℕ) → i < l.target-index → slice_index l.letter.chains.last.items (slice_index l.targets i) ≡ 0
