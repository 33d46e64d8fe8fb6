-- Runs of bytes at the front of a text.
use Rattle.std.proofs.Common.{◌≡◌, ℕ, zero, suc, ◌<◌, ◌≤◌, Bool, true, false, List, [], ◌∷◌, length, get_or, take, drop, refl, ap, ◌∙◌, arith}
use Rattle.lex_semantics.specs.Reading.{take_up_to}

abbrev Cut : Type 0
Cut = List ℕ × List ℕ

abbrev with_first : ℕ → Cut → Cut
with_first c s = (c ∷ s.0, s.1)

one_more : (n : ℕ) (p : ℕ → Bool) (c : ℕ) (t : List ℕ) → p c ≡ true → ◌≡◌ {A = Cut} (take_up_to (suc n) p (c ∷ t)) (with_first c (take_up_to n p t))
unfolding take_up_to
one_more n p c t h = rw h refl

-- the run ends at a byte that does not pass
pub ends_at_byte : (n : ℕ) (p : ℕ → Bool) (t : List ℕ) (i : ℕ) → i < n → i < length t → ((k : ℕ) → k < i → p (get_or t k 0) ≡ true) → p (get_or t i 0) ≡ false
    → ◌≡◌ {A = Cut} (take_up_to n p t) (take i t, drop i t)
unfolding take_up_to
ends_at_byte zero p t i room inside all out = absurd (omega arith)
ends_at_byte (suc n) p [] i room inside all out = absurd (omega arith)
ends_at_byte (suc n) p (c ∷ t) zero room inside all out = rw out refl
ends_at_byte (suc n) p (c ∷ t) (suc i) room inside all out =
    one_more n p c t (all 0 (omega arith)) ∙ ap (with_first c) (ends_at_byte n p t i (omega arith) (omega arith) (λ k h. all (suc k) (omega arith)) out)

-- the run ends as there is no more room
pub ends_at_limit : (n : ℕ) (p : ℕ → Bool) (t : List ℕ) (i : ℕ) → i ≡ n → i ≤ length t → ((k : ℕ) → k < i → p (get_or t k 0) ≡ true)
    → ◌≡◌ {A = Cut} (take_up_to n p t) (take i t, drop i t)
unfolding take_up_to
ends_at_limit zero p t zero e inside all = refl
ends_at_limit zero p t (suc i) e inside all = absurd (omega arith)
ends_at_limit (suc n) p t zero e inside all = absurd (omega arith)
ends_at_limit (suc n) p [] (suc i) e inside all = absurd (omega arith)
ends_at_limit (suc n) p (c ∷ t) (suc i) e inside all =
    one_more n p c t (all 0 (omega arith)) ∙ ap (with_first c) (ends_at_limit n p t i (omega arith) (omega arith) (λ k h. all (suc k) (omega arith)))

-- the run is the whole text
pub ends_at_end : (n : ℕ) (p : ℕ → Bool) (t : List ℕ) → length t ≤ n → ((k : ℕ) → k < length t → p (get_or t k 0) ≡ true)
    → ◌≡◌ {A = Cut} (take_up_to n p t) (take (length t) t, drop (length t) t)
unfolding take_up_to
ends_at_end zero p [] h all = refl
ends_at_end zero p (c ∷ t) h all = absurd (omega arith)
ends_at_end (suc n) p [] h all = refl
ends_at_end (suc n) p (c ∷ t) h all = one_more n p c t (all 0 (omega arith)) ∙ ap (with_first c) (ends_at_end n p t (omega arith) (λ k i. all (suc k) (omega arith)))
