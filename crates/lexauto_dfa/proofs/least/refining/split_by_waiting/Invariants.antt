use Rattle.std.proofs.Common.{◌≡◌, ℕ, ◌<◌, ◌+◌, ◌-◌, List, length, slice_index}
use Rattle.lexauto_dfa.specs.Arranged.{Arranged, IsTouched, count, states, block_of}
use Rattle.lexauto_dfa.specs.Letters.{machine}
use Rattle.lexauto_dfa.specs.Sources.{Has}
use Rattle.lexauto_dfa.specs.Splits.{Refining}
use Rattle.lexauto_dfa.proofs.least.refining.split_by_waiting.Given as goal

abbrev pub invariant-rounds : goal.invariant-rounds
invariant-rounds l = record {
  arranged : Arranged l.blocks;
  untouched : (c : ℕ) → c < count l.blocks → IsTouched l.blocks c → ⊥;
  known : (i : ℕ) → i < length l.waiting.items → slice_index l.waiting.items i < count l.blocks;
  same_states : states l.blocks ≡ states l.fn.blocks;
  refining : (labels : List ℕ) → length labels ≡ states l.fn.blocks
      → (coarse : ℕ → ℕ) × Refining (machine l.letters labels) (block_of l.fn.blocks) (Has l.fn.waiting.items) coarse
      → (coarse : ℕ → ℕ) × Refining (machine l.letters labels) (block_of l.blocks) (Has l.waiting.items) coarse;
}

abbrev pub decreases-rounds : goal.decreases-rounds
decreases-rounds l = length l.waiting.items + (states l.blocks - count l.blocks)
