use Rattle.std.proofs.Common.{◌≡◌, ℕ, Bool, ◌+◌, ◌-◌, ◌||◌, true}
use Rattle.lex_semantics.specs.Active.{contains}
use Rattle.lexauto_positions.specs.Cursors.{IsFront}
use Rattle.lexauto_positions.specs.Flow.{comes}
use Rattle.lexauto_positions.specs.LetterCopies.{letter_exits, letter_enters}
use Rattle.lexauto_positions.proofs.letter_copies.add_all.Given as goal

abbrev pub invariant-loop-k : goal.invariant-loop-k
invariant-loop-k l = record {
  front : IsFront l.all.items (l.base + l.k);
  told : (S : ℕ → Bool) (loops : Bool) (q : ℕ) → (contains l.all.items q || comes (letter_enters q) (letter_exits true S) loops (l.base + l.k) 1 true (l.count - l.k))
      ≡ (contains l.fn.next.items q || comes (letter_enters q) (letter_exits true S) loops l.base 1 true l.count);
}
