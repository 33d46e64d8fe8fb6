-- Copies of a part that is a letter.
use Rattle.std.specs.Prelude.{◌≡◌, ℕ, zero, suc, ◌+◌, ◌-◌, ◌<◌, ◌≤◌, ◌⊎◌, ◌||◌, ◌&&◌, nat_le, Bool, true, false}
use Rattle.std.proofs.Common.{rules, refl, sym, ap, ◌∙◌, inl, inr, arith}
use Rattle.lex_semantics.specs.Positions.{positions}
use Rattle.lex_semantics.specs.Tree.{Tree}
use Rattle.lexauto_positions.specs.Flow.{is_zero, passes, comes, exits, enters}
use Rattle.lexauto_positions.specs.LetterCopies.{letter_exits, letter_enters}

module _ (t : Tree) (skips : Bool) (one : positions t ≡ 1) (left : exits t ≡ letter_exits skips) (S : ℕ → Bool) (base : ℕ) (i : Bool) (count : ℕ) where
  pub letters_pass : (needed : ℕ) (out : Bool) → passes (letter_exits skips S) base 1 needed out i count ≡ passes (exits t S) base (positions t) needed out i count
  letters_pass needed out = rw (one, left) refl

  pub letters_come : (q : ℕ) (loops : Bool) → enters t S q ≡ letter_enters q
      → comes (letter_enters q) (letter_exits skips S) loops base 1 i count ≡ comes (enters t S q) (exits t S) loops base (positions t) i count
  letters_come q loops next = rw (one, left, next) refl

le_true : (a b : ℕ) → a ≤ b → nat_le a b ≡ true
le_true a b h = search rules

le_false : (a b : ℕ) → b < a → nat_le a b ≡ false
le_false a b h = search rules

le_next : (m n : ℕ) → nat_le m n ≡ nat_le (suc m) (suc n)
le_next m n = elim (let d : (m ≤ n) ⊎ (n < m) = grind arith in d) [
  | inl h ↦ le_true m n h ∙ sym (le_true (suc m) (suc n) (omega (arith, h)))
  | inr h ↦ le_false m n h ∙ sym (le_false (suc m) (suc n) (omega (arith, h)))
]

-- copies that may be left out are left where no more are needed
pub all_pass : (S : ℕ → Bool) (base needed : ℕ) (out : Bool) (n : ℕ) → passes (letter_exits true S) base 1 needed out true n ≡ (out || nat_le needed n)
all_pass S base zero true zero = refl
all_pass S base zero false zero = refl
all_pass S base (suc m) true zero = refl
all_pass S base (suc m) false zero = sym (le_false (suc m) 0 (omega arith))
all_pass S base needed out (suc n) = all_pass S (base + 1) (needed - 1) (out || (is_zero needed && true)) n ∙ one needed out
  where
    one : (needed : ℕ) (out : Bool) → ((out || (is_zero needed && true)) || nat_le (needed - 1) n) ≡ (out || nat_le needed (suc n))
    one needed true = refl
    one zero false = sym (le_true 0 (suc n) (omega arith))
    one (suc m) false = ap (λ k. nat_le k n) (let e : suc m - 1 ≡ m = omega arith in e) ∙ le_next m n
