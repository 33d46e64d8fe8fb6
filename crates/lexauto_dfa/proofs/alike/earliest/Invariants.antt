use Rattle.std.proofs.Common.{◌≡◌, ℕ, ◌<◌, slice_index}
use Rattle.lexauto_dfa.proofs.alike.earliest.Given as goal

abbrev pub invariant-loop-c : goal.invariant-loop-c
invariant-loop-c l = (k : ℕ) → k < l.c → slice_index l.lead k ≡ slice_index l.lead l.byte → slice_index l.row k ≡ slice_index l.row l.byte → ⊥
