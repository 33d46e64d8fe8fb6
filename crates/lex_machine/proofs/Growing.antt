-- What holds at each place of a list that grows.
use Rattle.std.proofs.Common.{◌≡◌, ℕ, suc, ◌+◌, ◌<◌, List, [], ◌∷◌, ◌++◌, length, subst, arith}
use Rattle.std.specs.Prelude.{slice_index}
use Rattle.lex_semantics.specs.Text.{IsText}
use Rattle.lex_machine.specs.Literals.{Each}

pub is_text_from : (xs : List ℕ) → ((k : ℕ) → slice_index xs k < 256) → IsText xs
is_text_from [] h = tt
is_text_from (x ∷ xs) h = (h 0, is_text_from xs (λ k. h (suc k)))

each_one_more : {A : Type 0} (P : ℕ → A → Type 0) (n : ℕ) (xs : List A) (x : A) → Each P n xs → P (n + length xs) x → Each P n (xs ++ x ∷ [])
each_one_more P n [] x h k = (let e : n + 0 ≡ n = omega arith in subst (λ (i : ℕ). P i x) e k, tt)
each_one_more P n (y ∷ xs) x h k = (h.0, each_one_more P (suc n) xs x h.1 (let e : n + suc (length xs) ≡ suc n + length xs = omega arith in subst (λ (i : ℕ). P i x) e k))

-- one more that meets it
pub each_push : {A : Type 0} (P : ℕ → A → Type 0) (xs : List A) (x : A) → Each P 0 xs → ((i : ℕ) → P i x) → Each P 0 (xs ++ x ∷ [])
each_push P xs x h k = each_one_more P 0 xs x h (k (0 + length xs))
