-- The definitions section of a file is cut into lines in one way.
use Rattle.std.proofs.Common.{◌≡◌, ℕ, Bool, true, false, List, [], ◌∷◌, Option, Some, None, refl, sym, ◌∙◌, ap, subst}
use Rattle.std.specs.Prelude.{codes, nat_eq, ◌&&◌}
use Rattle.std.proofs.lemmas.Bool.{and_parts, eqb-true}
use Rattle.lex_semantics.specs.Reading.{Reader, begins, take_up_to}
use Rattle.lex_semantics.specs.ByteSets.{is_blank}
use Rattle.lexspec_lines.specs.DefinitionLines.{definition_at, IsUpTo}

pub no_true : {A : Type 0} → false ≡ true → A
no_true e = absurd (no e)
  where
    no : false ≡ true → ⊥
    no p = cc

no_and : (b : Bool) → (b && false) ≡ true → ⊥
no_and true h = no_true h
no_and false h = no_true h

pub two_percents : (t : List ℕ) → begins (codes "%%") t ≡ true → (u : List ℕ) × (t ≡ 37 ∷ 37 ∷ u)
two_percents [] h = no_true h
two_percents (c ∷ []) h = absurd (no_and (nat_eq 37 c) h)
two_percents (c ∷ d ∷ u) h =
    let both = and_parts (nat_eq 37 c) (nat_eq 37 d && true) h in
    let second = and_parts (nat_eq 37 d) true both.1 in
    let one : 37 ≡ c = eqb-true 37 c both.0 in
    let two : 37 ≡ d = eqb-true 37 d second.0 in
    (u, ap (λ z. z ∷ d ∷ u) (sym one) ∙ ap (λ z. 37 ∷ z ∷ u) (sym two))

-- a line that begins with `%%` is no definition
percents_end : (u : List ℕ) → definition_at (37 ∷ 37 ∷ u) ≡ None
unfolding definition_at take_up_to is_blank
percents_end u = refl

pub separator_ends : (t : List ℕ) → begins (codes "%%") t ≡ true → definition_at t ≡ None
separator_ends t h = let p = two_percents t h in ap definition_at p.1 ∙ percents_end p.0

pub some_pair : {A B : Type 0} (x y : A) (a b : B) → ◌≡◌ {A = Option (A × B)} (Some (x, a)) (Some (y, b)) → (x ≡ y) × (a ≡ b)
some_pair {A} {B} x y a b e = (ap (λ (p : A × B). p.0) same, ap (λ (p : A × B). p.1) same)
  where
    one : (p q : A × B) → Some p ≡ Some q → p ≡ q
    one p q h = cc

    same : ◌≡◌ {A = A × B} (x, a) (y, b)
    same = one (x, a) (y, b) e

-- items up to a rest at which there is none
pub one_up_to : {A : Type 0} (item_at : Reader A) (t : List ℕ) (xs ys : List A) (a b : List ℕ) → IsUpTo item_at t xs a → IsUpTo item_at t ys b → item_at a ≡ None → item_at b ≡ None → (xs ≡ ys) × (a ≡ b)
one_up_to item_at t [] [] a b h k stop stop' = (refl, sym h ∙ k)
one_up_to {A} item_at t [] (y ∷ ys) a b h (next, here, rest) stop stop' = absurd (no (sym here ∙ ap item_at h ∙ stop))
  where
    no : ◌≡◌ {A = Option (A × List ℕ)} (Some (y, next)) None → ⊥
    no p = cc
one_up_to {A} item_at t (x ∷ xs) [] a b (next, here, rest) k stop stop' = absurd (no (sym here ∙ ap item_at k ∙ stop'))
  where
    no : ◌≡◌ {A = Option (A × List ℕ)} (Some (x, next)) None → ⊥
    no p = cc
one_up_to item_at t (x ∷ xs) (y ∷ ys) a b (next, here, rest) (next', here', rest') stop stop' =
    let same = some_pair x y next next' (sym here ∙ here') in
    let later = one_up_to item_at next' xs ys a b (subst (λ z. IsUpTo item_at z xs a) same.1 rest) rest' stop stop' in
    let first : x ≡ y = same.0 in
    let others : xs ≡ ys = later.0 in
    (cc, later.1)
