-- The marks of a table.
use Rattle.std.proofs.Common.{◌≡◌, ℕ, zero, suc, ◌<◌, Bool, true, false, List, [], ◌∷◌, ◌++◌, length, get_or, set, take, ◌⊎◌, inl, inr, refl, ◌∙◌, ap, subst, arith}
use Rattle.std.specs.Prelude.{replicate, if◌then◌else◌}
use Rattle.lex_semantics.specs.Text.{Among}
use Rattle.std.specs.List.{flat_map}
use Rattle.lex_semantics.proofs.Fronts.{among_append, among_flat_map, flat_map_among}
use Rattle.lexscan_window.specs.declared.memo.Mark.{Mark}

pub among_at : {X : Type 0} (xs : List X) (i : ℕ) (d : X) → i < length xs → Among xs (get_or xs i d)
among_at [] i d lt = absurd (omega (arith, lt))
among_at (x ∷ xs) zero d lt = inl refl
among_at (x ∷ xs) (suc i) d lt = inr (among_at xs i d (omega (arith, lt)))

pub among_set : {X : Type 0} (xs : List X) (i : ℕ) (y z : X) → Among (set xs i y) z → Among xs z ⊎ (z ≡ y)
among_set [] i y z h = absurd h
among_set (x ∷ xs) zero y z (inl e) = inr e
among_set (x ∷ xs) zero y z (inr h) = inl (inr h)
among_set (x ∷ xs) (suc i) y z (inl e) = inl (inl e)
among_set (x ∷ xs) (suc i) y z (inr h) = elim (among_set xs i y z h) [ inl a ↦ inl (inr a) | inr e ↦ inr e ]

pub among_replicate : {X : Type 0} (n : ℕ) (y z : X) → Among (replicate n y) z → z ≡ y
among_replicate zero y z h = absurd h
among_replicate (suc n) y z (inl e) = e
among_replicate (suc n) y z (inr h) = among_replicate n y z h

none_taken : {X : Type 0} (n : ℕ) (z : X) → Among (take n []) z → ⊥
none_taken zero z h = h
none_taken (suc n) z h = h

-- a table that is laid out from nothing
pub among_laid : {X : Type 0} (b : Bool) (n k : ℕ) (old new : List X) (y z : X) → old ≡ [] → new ≡ (if b then take n old ++ replicate k y else old) → Among new z → z ≡ y
among_laid true n k old new y z none e h = elim (among_append (take n []) (replicate k y) z (subst (λ l. Among l z) (e ∙ ap (λ l. take n l ++ replicate k y) none) h)) [
  | inl a ↦ absurd (none_taken n z a)
  | inr a ↦ among_replicate k y z a
]
among_laid false n k old new y z none e h = absurd (subst (λ l. Among l z) (e ∙ none) h)

-- one part of the table is put
pub put_in : {C : Type 0} (of : C → List Mark) (cs : List C) (i : ℕ) (d c : C) (new m : Mark) → i < length cs → ((n : Mark) → Among (of c) n → Among (of (get_or cs i d)) n ⊎ (n ≡ new)) → Among (flat_map of (set cs i c)) m → Among (flat_map of cs) m ⊎ (m ≡ new)
put_in of cs i d c new m lt only h =
    let found = flat_map_among of (set cs i c) m h in
    elim (among_set cs i c found.0 found.1) [
      | inl old ↦ inl (among_flat_map of cs found.0 m old found.2)
      | inr e ↦ elim (only m (subst (λ x. Among (of x) m) e found.2)) [
        | inl was ↦ inl (among_flat_map of cs (get_or cs i d) m (among_at cs i d lt) was)
        | inr is ↦ inr is
      ]
    ]

-- parts that are laid out from nothing
pub laid : {C : Type 0} (of : C → List Mark) (b : Bool) (n k : ℕ) (old new : List C) (dead : C) (m : Mark) → old ≡ [] → new ≡ (if b then take n old ++ replicate k dead else old) → Among (flat_map of new) m → Among (of dead) m
laid of b n k old new dead m none e h =
    let found = flat_map_among of new m h in
    subst (λ x. Among (of x) m) (among_laid b n k old new dead found.0 none e found.1) found.2
