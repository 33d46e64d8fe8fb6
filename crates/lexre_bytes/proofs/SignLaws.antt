-- Whether a byte is a sign.
use Rattle.std.proofs.Common.{◌≡◌, ℕ, ◌==◌, Bool, true, false, refl, sym}
use Rattle.std.proofs.lemmas.Bool.{ne_eqb, eqb-true, eqb-false}

-- a byte is the sign, or it is another
pub by_sign : {P : Type 0} (c d : ℕ) → (c ≡ d → P) → ((c ≡ d → ⊥) → P) → P
by_sign {P} c d h k = from (c == d) (λ e. eqb-true c d e) (λ e. eqb-false c d e)
  where
    from : (b : Bool) → (b ≡ true → c ≡ d) → (b ≡ false → c ≡ d → ⊥) → P
    from true f g = h (f refl)
    from false f g = k (g refl)

pub turned : (c d : ℕ) → (c ≡ d → ⊥) → (d == c) ≡ false
turned c d h = ne_eqb d c (λ e. h (sym e))
