-- What actions keep to, by one statement after another, and actions in normal form: no literal is empty, and no two are neighbours.
use Rattle.std.proofs.Common.{◌≡◌, ℕ, suc, ◌-◌, true, false, List, [], ◌∷◌, length, take, refl, sym, ◌∙◌, ap, subst, arith}
use Rattle.std.specs.Prelude.{not, ◌&&◌}
use Rattle.std.specs.List.{list_all}
use Rattle.std.proofs.lemmas.Bool.{and_parts}
use Rattle.lex_semantics.specs.Spec.{Statement, Echo, Print, Begin, More, Less, Reject, End, Push, Pop}
use Rattle.lex_semantics.specs.Literals.{prepend, normal}
use Rattle.lex_semantics.specs.Legal.{in_range, all_in_range, ends_action, ends_last, is_literal, are_joined}

no_true : {A : Type 0} → false ≡ true → A
no_true e = absurd (no e)
  where
    no : false ≡ true → ⊥
    no p = cc

-- A statement before another does not end the action.
pub ends_last_more : (s t : Statement) (ss : List Statement) → ends_last (s ∷ t ∷ ss) ≡ (not (ends_action s) && ends_last (t ∷ ss))
ends_last_more s t ss =
    let two : suc (suc (length ss)) - 1 ≡ suc (length ss) = omega arith in
    let one : suc (length ss) - 1 ≡ length ss = omega arith in
    ap (λ k. list_all (λ u. not (ends_action u)) (take k (s ∷ t ∷ ss))) two
    ∙ ap (λ k. not (ends_action s) && list_all (λ u. not (ends_action u)) (take k (t ∷ ss))) (sym one)

-- literals in normal form

joined_tail : (s : Statement) (ss : List Statement) → are_joined (s ∷ ss) ≡ true → are_joined ss ≡ true
joined_tail s [] h = refl
joined_tail s (t ∷ ss) h = (and_parts (not (is_literal s && is_literal t)) (are_joined (t ∷ ss)) h).1

joined_before : (s : Statement) (ss : List Statement) → are_joined ss ≡ true → are_joined (prepend s ss) ≡ true
joined_before (Print []) ss h = h
joined_before (Print (b ∷ bs)) [] h = refl
joined_before (Print (b ∷ bs)) (Print more ∷ []) h = refl
joined_before (Print (b ∷ bs)) (Print more ∷ t ∷ ss) h = h
joined_before (Print (b ∷ bs)) (Echo ∷ ss) h = h
joined_before (Print (b ∷ bs)) (Begin d ∷ ss) h = h
joined_before (Print (b ∷ bs)) (More ∷ ss) h = h
joined_before (Print (b ∷ bs)) (Less k ∷ ss) h = h
joined_before (Print (b ∷ bs)) (Reject ∷ ss) h = h
joined_before (Print (b ∷ bs)) (End k ∷ ss) h = h
joined_before (Print (b ∷ bs)) (Push d ∷ ss) h = h
joined_before (Print (b ∷ bs)) (Pop ∷ ss) h = h
joined_before s [] h = refl
joined_before s (t ∷ ss) h = h

normal_joined : (ss : List Statement) → are_joined (normal ss) ≡ true
normal_joined [] = refl
normal_joined (s ∷ ss) = joined_before s (normal ss) (normal_joined ss)

pub joined_of_normal : (ss : List Statement) → normal ss ≡ ss → are_joined ss ≡ true
joined_of_normal ss e = subst (λ z. are_joined z ≡ true) e (normal_joined ss)

before_is : (n : ℕ) (s : Statement) (ss : List Statement) → in_range n s ≡ true → are_joined (s ∷ ss) ≡ true → prepend s ss ≡ s ∷ ss
before_is n (Print []) ss h k = no_true h
before_is n (Print (b ∷ bs)) [] h k = refl
before_is n (Print (b ∷ bs)) (Print more ∷ ss) h k = no_true k
before_is n s ss h k = refl

-- Each literal has a byte, and no two are neighbours: this is the normal form.
pub normal_of_joined : (n : ℕ) (ss : List Statement) → all_in_range n ss ≡ true → are_joined ss ≡ true → normal ss ≡ ss
normal_of_joined n [] h k = refl
normal_of_joined n (s ∷ ss) h k =
    let both = and_parts (in_range n s) (all_in_range n ss) h in
    ap (prepend s) (normal_of_joined n ss both.1 (joined_tail s ss k)) ∙ before_is n s ss both.0 k
