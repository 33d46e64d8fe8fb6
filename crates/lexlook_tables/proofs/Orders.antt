-- The order of words.
use Rattle.std.proofs.Common.{◌≡◌, ◌⊎◌, ◌≤◌, ◌<◌, ℕ, suc, List, [], ◌∷◌, ◌++◌, length, inl, inr, sym, ap, refl, ◌∙◌, subst, arith}
use Rattle.lexauto_reports.specs.BackWords.{Smaller, Precedes, NotAfter}
use Rattle.lexauto_reports.proofs.Orders.{before_trans}

pub smaller_irreflexive : (u : List ℕ) → Smaller u u → ⊥
smaller_irreflexive [] h = h
smaller_irreflexive (a ∷ u) (inl h) = omega (arith, h)
smaller_irreflexive (a ∷ u) (inr h) = smaller_irreflexive u h.1

pub before_irreflexive : (u : List ℕ) → Precedes u u → ⊥
before_irreflexive u (inl h) = omega (arith, h)
before_irreflexive u (inr h) = smaller_irreflexive u h.1

pub before_not_after : (u v w : List ℕ) → NotAfter u v → Precedes v w → Precedes u w
before_not_after u v w (inl e) k = subst (λ l. Precedes l w) (sym e) k
before_not_after u v w (inr h) k = before_trans u v w h k

-- of two words of one length with a byte more the first is smaller without it, or they are the same, and the byte is smaller
pub smaller_split : (u v : List ℕ) (a b : ℕ) → length u ≡ length v → Smaller (u ++ a ∷ []) (v ++ b ∷ []) → Smaller u v ⊎ ((u ≡ v) × (a < b))
smaller_split [] [] a b e (inl h) = inr (refl, h)
smaller_split [] [] a b e (inr h) = absurd h.1
smaller_split [] (y ∷ v) a b e h = absurd (omega (arith, e))
smaller_split (x ∷ u) [] a b e h = absurd (omega (arith, e))
smaller_split (x ∷ u) (y ∷ v) a b e (inl h) = inl (inl h)
smaller_split (x ∷ u) (y ∷ v) a b e (inr h) = elim (smaller_split u v a b (omega (arith, e)) h.1) [
  | inl less ↦ inl (inr (h.0, less))
  | inr same ↦ inr (ap (λ l. x ∷ l) same.0 ∙ ap (λ z. z ∷ v) h.0, same.1)
]

-- the same of two words of one length with any more
pub smaller_front : (u v k l : List ℕ) → length u ≡ length v → Smaller (u ++ k) (v ++ l) → Smaller u v ⊎ ((u ≡ v) × Smaller k l)
smaller_front [] [] k l e h = inr (refl, h)
smaller_front [] (y ∷ v) k l e h = absurd (omega (arith, e))
smaller_front (x ∷ u) [] k l e h = absurd (omega (arith, e))
smaller_front (x ∷ u) (y ∷ v) k l e (inl h) = inl (inl h)
smaller_front (x ∷ u) (y ∷ v) k l e (inr h) = elim (smaller_front u v k l (omega (arith, e)) h.1) [
  | inl less ↦ inl (inr (h.0, less))
  | inr same ↦ inr (ap (λ l. x ∷ l) same.0 ∙ ap (λ z. z ∷ v) h.0, same.1)
]

-- a list that does not begin with a smaller number is smaller by what follows
pub smaller_rest : (a b : ℕ) (k l : List ℕ) → b ≤ a → Smaller (a ∷ k) (b ∷ l) → (a ≡ b) × Smaller k l
smaller_rest a b k l le (inl h) = absurd (omega (arith, le, h))
smaller_rest a b k l le (inr h) = h

-- a shorter word is smaller behind its length, and so is one of the same length that is smaller
pub smaller_or_same : (j i : ℕ) (v w k l : List ℕ) → Smaller (length v ∷ j ∷ v ++ k) (length w ∷ i ∷ w ++ l) → Precedes (j ∷ v) (i ∷ w) ⊎ ((j ∷ v ≡ i ∷ w) × Smaller k l)
smaller_or_same j i v w k l (inl h) = inl (inl (omega (arith, h)))
smaller_or_same j i v w k l (inr h) = (let long : length v ≡ length w = h.0 in elim (smaller_front (j ∷ v) (i ∷ w) k l (ap suc long) h.1) [
  | inl less ↦ inl (inr (ap suc long, less))
  | inr same ↦ inr same
])
