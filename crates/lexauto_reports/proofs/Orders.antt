-- The order of words.
use Rattle.std.proofs.Common.{◌<◌, ℕ, List, [], ◌∷◌, ◌++◌, inl, inr, sym, ap, refl, ◌∙◌, subst, arith}
use Rattle.std.proofs.lemmas.List.{length_push}
use Rattle.lexauto_reports.specs.BackWords.{Smaller, Precedes, NotAfter}

smaller_trans : (u v w : List ℕ) → Smaller u v → Smaller v w → Smaller u w
smaller_trans [] v w h k = absurd h
smaller_trans (a ∷ u) [] w h k = absurd h
smaller_trans (a ∷ u) (b ∷ v) [] h k = absurd k
smaller_trans (a ∷ u) (b ∷ v) (c ∷ w) (inl h) (inl k) = inl (omega (arith, h, k))
smaller_trans (a ∷ u) (b ∷ v) (c ∷ w) (inl h) (inr k) = let e = k.0 in inl (omega (arith, h, e))
smaller_trans (a ∷ u) (b ∷ v) (c ∷ w) (inr h) (inl k) = let e = h.0 in inl (omega (arith, e, k))
smaller_trans (a ∷ u) (b ∷ v) (c ∷ w) (inr h) (inr k) = inr (h.0 ∙ k.0, smaller_trans u v w h.1 k.1)

pub before_trans : (u v w : List ℕ) → Precedes u v → Precedes v w → Precedes u w
before_trans u v w (inl h) (inl k) = inl (omega (arith, h, k))
before_trans u v w (inl h) (inr k) = let e = k.0 in inl (omega (arith, h, e))
before_trans u v w (inr h) (inl k) = let e = h.0 in inl (omega (arith, e, k))
before_trans u v w (inr h) (inr k) = inr (h.0 ∙ k.0, smaller_trans u v w h.1 k.1)

smaller_longer : (u v : List ℕ) (a b : ℕ) → Smaller u v → Smaller (u ++ a ∷ []) (v ++ b ∷ [])
smaller_longer [] v a b h = absurd h
smaller_longer (x ∷ u) [] a b h = absurd h
smaller_longer (x ∷ u) (y ∷ v) a b (inl h) = inl h
smaller_longer (x ∷ u) (y ∷ v) a b (inr h) = inr (h.0, smaller_longer u v a b h.1)

-- a word that is before another is so with any byte more
pub before_longer : (u v : List ℕ) (a b : ℕ) → Precedes u v → Precedes (u ++ a ∷ []) (v ++ b ∷ [])
before_longer u v a b (inl h) = let m = length_push u a in let n = length_push v b in inl (omega (arith, h, m, n))
before_longer u v a b (inr h) = let e = h.0 in let m = length_push u a in let n = length_push v b in inr (omega (arith, e, m, n), smaller_longer u v a b h.1)

smaller_last : (u : List ℕ) (a b : ℕ) → a < b → Smaller (u ++ a ∷ []) (u ++ b ∷ [])
smaller_last [] a b h = inl h
smaller_last (x ∷ u) a b h = inr (refl, smaller_last u a b h)

-- a smaller byte more
pub before_last : (u : List ℕ) (a b : ℕ) → a < b → Precedes (u ++ a ∷ []) (u ++ b ∷ [])
before_last u a b h = inr (length_push u a ∙ sym (length_push u b), smaller_last u a b h)

pub not_after_longer : (u v : List ℕ) (b : ℕ) → NotAfter u v → NotAfter (u ++ b ∷ []) (v ++ b ∷ [])
not_after_longer u v b (inl e) = inl (ap (λ l. l ++ b ∷ []) e)
not_after_longer u v b (inr h) = inr (before_longer u v b b h)

pub not_after_trans : (u v w : List ℕ) → NotAfter u v → NotAfter v w → NotAfter u w
not_after_trans u v w (inl e) k = subst (λ l. NotAfter l w) (sym e) k
not_after_trans u v w (inr h) (inl e) = inr (subst (Precedes u) e h)
not_after_trans u v w (inr h) (inr k) = inr (before_trans u v w h k)

pub empty_before : (w : List ℕ) (b : ℕ) → Precedes [] (w ++ b ∷ [])
empty_before w b = let n = length_push w b in inl (omega (arith, n))
