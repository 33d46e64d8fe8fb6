use Rattle.std.proofs.Common.{◌≡◌, ℕ, ◌+◌, ◌-◌, ◌||◌, false}
use Rattle.lex_semantics.specs.Active.{contains}
use Rattle.lexauto_positions.specs.Cursors.{IsCursor, IsFront}
use Rattle.lexauto_positions.specs.Flow.{passes, comes}
use Rattle.lexauto_positions.specs.LetterCopies.{letter_exits, letter_enters}
use Rattle.lexauto_positions.proofs.letter_copies.enter_letters.Given as goal

abbrev pub invariant-loop-k : goal.invariant-loop-k
invariant-loop-k l = record {
  cursor : IsCursor l.last l.cursor (l.base + l.k);
  front : IsFront l.next.items (l.base + l.k);
  flow : passes (letter_exits l.skips (contains l.last)) (l.base + l.k) 1 l.needed l.out l.left (l.fn.copies.count - l.k)
      ≡ passes (letter_exits l.skips (contains l.last)) l.base 1 l.fn.copies.least false l.entered l.fn.copies.count;
  told : (q : ℕ) → (contains l.next.items q || comes (letter_enters q) (letter_exits l.skips (contains l.last)) l.fn.copies.loops (l.base + l.k) 1 l.left (l.fn.copies.count - l.k))
      ≡ (contains l.fn.next.items q || comes (letter_enters q) (letter_exits l.skips (contains l.last)) l.fn.copies.loops l.base 1 l.entered l.fn.copies.count);
}
