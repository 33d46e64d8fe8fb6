-- Parts that are appended one behind the other.
use Rattle.std.proofs.Common.{◌≡◌, ◌++◌, ◌∙◌, List, [], ℕ, ap, sym, append_assoc, append-nil}

pub five : (a b c d e f p q r s t : List ℕ) → b ≡ a ++ p → c ≡ b ++ q → d ≡ c ++ r → e ≡ d ++ s → f ≡ e ++ t → f ≡ a ++ (p ++ (q ++ (r ++ (s ++ t))))
five a b c d e f p q r s t hb hc hd he hf =
    hf
    ∙ ap (λ (z : List ℕ). z ++ t) (he ∙ ap (λ (z : List ℕ). z ++ s) (hd ∙ ap (λ (z : List ℕ). z ++ r) (hc ∙ ap (λ (z : List ℕ). z ++ q) hb)))
    ∙ simp append_assoc

pub three : (a b c d p q r : List ℕ) → b ≡ a ++ p → c ≡ b ++ q → d ≡ c ++ r → d ≡ a ++ (p ++ (q ++ r))
three a b c d p q r hb hc hd = hd ∙ ap (λ (z : List ℕ). z ++ r) (hc ∙ ap (λ (z : List ℕ). z ++ q) hb) ∙ simp append_assoc

-- five parts of a new text, of which the last two are appended at once
pub hinted : (a b c d f p q r s t s' t' : List ℕ) → a ≡ [] → b ≡ a ++ p → c ≡ b ++ q → d ≡ c ++ r → s' ≡ s → t' ≡ t → f ≡ d ++ (s' ++ (t' ++ [])) → f ≡ (((p ++ q) ++ r) ++ s) ++ t
hinted a b c d f p q r s t s' t' none hb hc hd hs ht hf =
    hf ∙ ap (λ (z : List ℕ). d ++ (s' ++ z)) (append-nil t') ∙ ap (λ (z : List ℕ). d ++ (z ++ t')) hs ∙ ap (λ (z : List ℕ). d ++ (s ++ z)) ht ∙ sym (append_assoc d s t)
    ∙ ap (λ (z : List ℕ). (z ++ s) ++ t) (hd ∙ ap (λ (z : List ℕ). z ++ r) (hc ∙ ap (λ (z : List ℕ). z ++ q) (hb ∙ ap (λ (z : List ℕ). z ++ p) none)))

pub six : (a b c d e f g p q r s t u : List ℕ) → b ≡ a ++ p → c ≡ b ++ q → d ≡ c ++ r → e ≡ d ++ s → f ≡ e ++ t → g ≡ f ++ u → g ≡ a ++ (p ++ (q ++ (r ++ (s ++ (t ++ u)))))
six a b c d e f g p q r s t u hb hc hd he hf hg = hg ∙ ap (λ (z : List ℕ). z ++ u) (five a b c d e f p q r s t hb hc hd he hf) ∙ simp append_assoc

-- two parts of a line, of which the second has what is told of it
pub of_line : {A : Type 0} (P : List ℕ → List ℕ) (W : List ℕ → A → List ℕ) (T : List ℕ → A) (old mid next shown line : List ℕ) (told : A)
    → shown ≡ line → told ≡ T shown → mid ≡ old ++ P shown → next ≡ mid ++ W shown told → next ≡ old ++ (P line ++ W line (T line))
of_line {A} P W T old mid next shown line told is tells first second =
    second ∙ ap (λ (z : List ℕ). z ++ W shown told) first ∙ append_assoc old (P shown) (W shown told)
    ∙ ap (λ (a : A). old ++ (P shown ++ W shown a)) tells ∙ ap (λ (l : List ℕ). old ++ (P l ++ W l (T l))) is
