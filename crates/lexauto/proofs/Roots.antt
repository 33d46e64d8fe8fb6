-- Tables of the keys where matches start.
use Rattle.std.specs.Prelude.{◌≡◌, ℕ, ◌+◌, ◌≤◌, ◌⊎◌, Bool, List, [], ◌∷◌, ◌++◌, length, Option, slice_index}
use Rattle.std.proofs.Common.{inl, inr, sym, subst, ◌∙◌, arith}
use Rattle.std.proofs.lemmas.Bool.{cases_lt}
use Rattle.std.proofs.lemmas.List.{get_or_push, get_or_append_left, length-append}
use Rattle.lex_semantics.specs.Spec.{Spec}
use Rattle.lexauto.specs.Keys.{Key, At, Absent, Finds, Found}
use Rattle.lexauto.specs.Explored.{MoreThan}
use Rattle.lexauto.specs.WordKeys.{start_key, IsRoot, AreRoots, AreStartPlaces, Grows}
use Rattle.lexauto.proofs.Places.{at_longer, at_shorter}

pub grown : (keys new : List Key) (k : Key) → Found keys k new → Grows keys new
grown keys new k (inl h) i q a = rw h.2 a
grown keys new k (inr h) i q a = rw h.1 (at_longer keys k i q a)

pub grown_only : (keys new : List Key) (k : Key) → Found keys k new → (i : ℕ) (q : Key) → At new i q → At keys i q ⊎ (q ≡ k)
grown_only keys new k (inl h) i q a = inl (rw h.2 at a)
grown_only keys new k (inr h) i q a = elim (at_shorter keys k i q (rw h.1 at a)) [ inl o ↦ inl o | inr o ↦ inr o.1 ]

module _ (S : Spec) where
  pub more_roots : (find find' : Key → Option ℕ) (keys new : List Key) (k : Key) → AreRoots S find keys → Finds find' new → Found keys k new → IsRoot S k → AreRoots S find' new
  more_roots find find' keys new k r f found root = record {
    finds = f;
    dead = grown keys new k found 0 [] r.dead;
    only = λ i q a. elim (grown_only keys new k found i q a) [ inl o ↦ r.only i q o | inr e ↦ subst (IsRoot S) (sym e) root ];
  }

  pub more_places : (line_start : Bool) (keys new : List Key) (places : List ℕ) (place n : ℕ) → length places ≡ n → Grows keys new → AreStartPlaces S line_start keys places
      → At new place (start_key S n line_start) → AreStartPlaces S line_start new (places ++ place ∷ [])
  more_places line_start keys new places place n len grows are here = λ c h.
      let size : length (places ++ place ∷ []) ≡ length places + 1 = length-append places (place ∷ []) in
      elim (cases_lt c (length places)) [
        | inl lt ↦ rw (get_or_append_left places (place ∷ []) 0 c lt) (grows (slice_index places c) (start_key S c line_start) (are c lt))
        | inr ge ↦ (let same : c ≡ n = omega arith in rw (same, get_or_push places place 0 n len) here)
      ]

  pub too_many_roots : (find : Key → Option ℕ) (keys : List Key) (k : Key) (limit : ℕ) → AreRoots S find keys → Absent keys k → IsRoot S k → limit ≤ length keys → MoreThan limit (IsRoot S)
  too_many_roots find keys k limit r none root full = (
    keys ++ k ∷ [],
    omega (arith, length-append keys (k ∷ [])),
    (λ i j q a b. both i j q (at_shorter keys k i q a) (at_shorter keys k j q b)),
    (λ i q a. elim (at_shorter keys k i q a) [ inl o ↦ r.only i q o | inr o ↦ subst (IsRoot S) (sym o.1) root ]),
  )
    where
      both : (i j : ℕ) (q : Key) → At keys i q ⊎ ((i ≡ length keys) × (q ≡ k)) → At keys j q ⊎ ((j ≡ length keys) × (q ≡ k)) → i ≡ j
      both i j q (inl a) (inl b) = (let f = r.finds.all q i a in let g = r.finds.all q j b in cc)
      both i j q (inl a) (inr b) = absurd (none i (subst (λ (l : Key). At keys i l) b.1 a))
      both i j q (inr a) (inl b) = absurd (none j (subst (λ (l : Key). At keys j l) a.1 b))
      both i j q (inr a) (inr b) = a.0 ∙ sym b.0
