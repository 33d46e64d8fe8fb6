-- Formats that print something, by the parts that are read of them.
use Rattle.std.proofs.Common.{◌≡◌, ℕ, Bool, true, false, List, [], ◌∷◌, ◌++◌, Option, Some, None, refl, sym, ap, ◌∙◌, subst}
use Rattle.std.specs.Prelude.{codes}
use Rattle.std.proofs.lemmas.Bool.{ne_eqb}
use Rattle.lexre_bytes.proofs.SignLaws.{by_sign, turned}
use Rattle.lexspec_actions.specs.Actions.{doubled}
use Rattle.lexspec_actions.specs.ActionSteps.{onto, split, parts_in}
use Rattle.lexspec_actions.proofs.TokenLaws.{some_is, no_some}

abbrev pub Parts : Type 0
Parts = List ℕ × Option (List ℕ)

doubled_other : (c : ℕ) (bs : List ℕ) → (c ≡ 37 → ⊥) → doubled (c ∷ bs) ≡ c ∷ doubled bs
doubled_other c bs n = rw (turned c 37 n) refl

pub plain_parts : (bs : List ℕ) → ◌≡◌ {A = Option Parts} (parts_in false (doubled bs)) (Some (bs, None))
plain_parts [] = refl
plain_parts (c ∷ bs) = by_sign c 37 (λ e. rw (e, plain_parts bs) refl)
    (λ n. ap (parts_in false) (doubled_other c bs n) ∙ rw (ne_eqb c 37 n, plain_parts bs) refl)

pub text_parts : (front back : List ℕ) → ◌≡◌ {A = Option Parts} (parts_in false (doubled front ++ codes "%s" ++ doubled back)) (Some (front, Some back))
text_parts [] back = rw (plain_parts back) refl
text_parts (c ∷ front) back = by_sign c 37 (λ e. rw (e, text_parts front back) refl)
    (λ n. ap (λ x. parts_in false (x ++ codes "%s" ++ doubled back)) (doubled_other c front n) ∙ rw (ne_eqb c 37 n, text_parts front back) refl)

-- the format of parts
abbrev pub spelled : List ℕ → Option (List ℕ) → List ℕ
spelled front None = doubled front
spelled front (Some back) = doubled front ++ codes "%s" ++ doubled back

spelled_other : (c : ℕ) (front : List ℕ) (back : Option (List ℕ)) → (c ≡ 37 → ⊥) → c ∷ spelled front back ≡ spelled (c ∷ front) back
spelled_other c front None n = sym (doubled_other c front n)
spelled_other c front (Some back) n = ap (λ x. x ++ codes "%s" ++ doubled back) (sym (doubled_other c front n))

spelled_sign : (front : List ℕ) (back : Option (List ℕ)) → 37 ∷ 37 ∷ spelled front back ≡ spelled (37 ∷ front) back
spelled_sign front None = refl
spelled_sign front (Some back) = refl

-- a text of which these are the parts, behind a percent sign or not
abbrev Spells : Bool → List ℕ → List ℕ → Option (List ℕ) → Type 0
Spells false t front back = t ≡ spelled front back
Spells true t front back = 37 ∷ t ≡ spelled front back

so : (percent : Bool) (t f front : List ℕ) (b back : Option (List ℕ)) → ◌≡◌ {A = Option Parts} (Some (f, b)) (Some (front, back)) → Spells percent t f b → Spells percent t front back
so percent t f front b back e h = subst (λ (z : Parts). Spells percent t z.0 z.1) (some_is {X = Parts} (f, b) (front, back) e) h

pub spelled_by : (percent : Bool) (t front : List ℕ) (back : Option (List ℕ)) → ◌≡◌ {A = Option Parts} (parts_in percent t) (Some (front, back)) → Spells percent t front back
spelled_by false [] front back h = so false [] [] front None back h refl
spelled_by true [] front back h = no_some {X = Parts} (front, back) h
spelled_by false (c ∷ t) front back h = by_sign c 37
    (λ e. ap (λ z. z ∷ t) e ∙ spelled_by true t front back (rw e at h))
    (λ n. from n (parts_in false t) (λ f b. spelled_by false t f b) (rw (ne_eqb c 37 n) at h))
  where
    from : (c ≡ 37 → ⊥) → (o : Option Parts) → ((f : List ℕ) (b : Option (List ℕ)) → o ≡ Some (f, b) → t ≡ spelled f b) → onto c o ≡ Some (front, back) → Spells false (c ∷ t) front back
    from n None k e = no_some {X = Parts} (front, back) e
    from n (Some (f, b)) k e = so false (c ∷ t) (c ∷ f) front b back e (ap (λ z. c ∷ z) (k f b refl) ∙ spelled_other c f b n)
spelled_by true (c ∷ t) front back h = by_sign c 37
    (λ e. again e (parts_in false t) (λ f b. spelled_by false t f b) (rw e at h))
    (λ n. by_sign c 115
    (λ e. texts e (parts_in false t) (λ f b. spelled_by false t f b) (rw e at h))
    (λ m. no_some {X = Parts} (front, back) (rw (ne_eqb c 37 n, ne_eqb c 115 m) at h)))
  where
    again : c ≡ 37 → (o : Option Parts) → ((f : List ℕ) (b : Option (List ℕ)) → o ≡ Some (f, b) → t ≡ spelled f b) → onto 37 o ≡ Some (front, back) → Spells true (c ∷ t) front back
    again s None k e = no_some {X = Parts} (front, back) e
    again s (Some (f, b)) k e = so true (c ∷ t) (37 ∷ f) front b back e (ap (λ z. 37 ∷ z ∷ t) s ∙ ap (λ z. 37 ∷ 37 ∷ z) (k f b refl) ∙ spelled_sign f b)

    texts : c ≡ 115 → (o : Option Parts) → ((f : List ℕ) (b : Option (List ℕ)) → o ≡ Some (f, b) → t ≡ spelled f b) → split o ≡ Some (front, back) → Spells true (c ∷ t) front back
    texts s None k e = no_some {X = Parts} (front, back) e
    texts s (Some (f, None)) k e = so true (c ∷ t) [] front (Some f) back e (ap (λ z. 37 ∷ z ∷ t) s ∙ ap (λ z. 37 ∷ 115 ∷ z) (k f None refl))
    texts s (Some (f, Some b)) k e = no_some {X = Parts} (front, back) e
