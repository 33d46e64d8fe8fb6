-- Texts that are empty, and blanks at the front.
use Rattle.std.proofs.Common.{◌≡◌, ℕ, suc, ◌==◌, Bool, true, false, if◌then◌else◌, List, [], ◌∷◌, length, refl, ap, ◌∙◌, arith}
use Rattle.std.proofs.lemmas.Bool.{ne_eqb}
use Rattle.lex_semantics.specs.ByteSets.{is_blank}
use Rattle.lex_semantics.specs.Reading.{is_empty, take_up_to, take_run, after_blanks}

-- a text is empty if it has no length
pub empty_test : (t : List ℕ) → (length t == 0) ≡ is_empty t
empty_test [] = refl
empty_test (c ∷ t) = ne_eqb (suc (length t)) 0 (λ h. absurd (omega arith))

abbrev choose : Bool → List ℕ × List ℕ → List ℕ × List ℕ → List ℕ × List ℕ
choose b x y = if b then x else y

abbrev after_one : ℕ → List ℕ → Bool → List ℕ
after_one c t b = if b then after_blanks t else c ∷ t

one_step : (c : ℕ) (t : List ℕ) → after_blanks (c ∷ t) ≡ after_one c t (is_blank c)
unfolding take_up_to
one_step c t = from (is_blank c)
  where
    from : (b : Bool) → ◌≡◌ {A = List ℕ} (choose b (c ∷ (take_run is_blank t).0, (take_run is_blank t).1) ([], c ∷ t)).1 (after_one c t b)
    from true = refl
    from false = refl

-- and any other byte is not
pub no_blank_first : (c : ℕ) (t : List ℕ) → is_blank c ≡ false → after_blanks (c ∷ t) ≡ c ∷ t
no_blank_first c t h = one_step c t ∙ ap (after_one c t) h
