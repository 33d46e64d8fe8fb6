use Rattle.std.proofs.Common.{◌≡◌, ℕ, ◌||◌, drop, length}
use Rattle.lex_semantics.specs.Text.{flag}
use Rattle.lexauto_positions.specs.Letters.{reads_at}
use Rattle.lexauto_positions.proofs.letters.mask_of.Given as goal

abbrev pub invariant-loop-set : goal.invariant-loop-set
invariant-loop-set l = record {
  len : length l.mask.items ≡ l.set-index;
  told : (q : ℕ) → (flag l.mask.items q || reads_at (drop l.set-index l.letters) l.byte q l.set-index) ≡ reads_at l.letters l.byte q 0;
}
