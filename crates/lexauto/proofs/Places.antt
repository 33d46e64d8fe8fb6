-- A list of keys and their places.
use Rattle.std.proofs.Common.{◌≡◌, ℕ, zero, suc, ◌⊎◌, List, [], ◌∷◌, ◌++◌, length, map, Option, Some, None, refl, ap, sym, inl, inr, Vec, Global}
use Rattle.std.specs.declared.rc.Rc.{Rc}
use Rattle.lexauto.specs.Keys.{Key, At, Absent, Finds}

none_some : {A : Type 0} (o : Option A) (x : A) → o ≡ None → o ≡ Some x → ⊥
none_some o x a b = absurd cc

pub absent : (find : Key → Option ℕ) (keys : List Key) (k : Key) → Finds find keys → find k ≡ None → Absent keys k
absent find keys k f n i h = none_some (find k) i n (f.all k i h)

pub at_end : (keys : List Key) (k : Key) → At (keys ++ k ∷ []) (length keys) k
at_end [] k = refl
at_end (x ∷ keys) k = at_end keys k

pub at_longer : (keys : List Key) (k : Key) (i : ℕ) (q : Key) → At keys i q → At (keys ++ k ∷ []) i q
at_longer [] k i q h = absurd cc
at_longer (x ∷ keys) k zero q h = h
at_longer (x ∷ keys) k (suc i) q h = at_longer keys k i q h

pub at_shorter : (keys : List Key) (k : Key) (i : ℕ) (q : Key) → At (keys ++ k ∷ []) i q → At keys i q ⊎ ((i ≡ length keys) × (q ≡ k))
at_shorter [] k zero q h = inr (refl, (let e : k ≡ q = cc in sym e))
at_shorter [] k (suc i) q h = absurd cc
at_shorter (x ∷ keys) k zero q h = inl h
at_shorter (x ∷ keys) k (suc i) q h = elim (at_shorter keys k i q h) [ inl g ↦ inl g | inr g ↦ inr (ap suc g.0, g.1) ]

pub keys_of_push : (vs : List (Rc (Vec ℕ Global) Global)) (v : Rc (Vec ℕ Global) Global) → map (λ v. v.value.items) (vs ++ v ∷ []) ≡ map (λ v. v.value.items) vs ++ v.value.items ∷ []
keys_of_push [] v = refl
keys_of_push (x ∷ vs) v = ap (λ ks. x.value.items ∷ ks) (keys_of_push vs v)

pub keys_length : (vs : List (Rc (Vec ℕ Global) Global)) → length (map (λ v. v.value.items) vs) ≡ length vs
keys_length [] = refl
keys_length (x ∷ vs) = ap suc (keys_length vs)
