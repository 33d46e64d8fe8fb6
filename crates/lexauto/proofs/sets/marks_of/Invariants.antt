use Rattle.std.proofs.Common.{◌≡◌, ℕ, ◌||◌, drop, length}
use Rattle.lex_semantics.specs.Text.{flag}
use Rattle.lexauto.specs.Sets.{marked}
use Rattle.lexauto.proofs.sets.marks_of.Given as goal

abbrev pub invariant-loop-number : goal.invariant-loop-number
invariant-loop-number l = record {
  len : length l.marks.items ≡ l.count;
  told : (i : ℕ) → (flag l.marks.items i || marked l.count (drop l.number-index l.numbers) i) ≡ marked l.count l.numbers i;
}
