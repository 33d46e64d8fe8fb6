-- What is known of an action by the tests of its statements.
use Rattle.std.proofs.Common.{◌≡◌, ℕ, Bool, true, false, List, [], ◌∷◌, ◌⊎◌, inl, inr, refl, sym, ◌∙◌, ap, subst}
use Rattle.std.specs.Prelude.{not, ◌&&◌, ◌||◌, nat_eq}
use Rattle.std.specs.List.{list_any}
use Rattle.std.proofs.lemmas.Bool.{and_parts, or_parts, eqb-true}
use Rattle.lex_semantics.specs.Text.{Among}
use Rattle.lex_semantics.specs.Spec.{Statement, Echo, Print, Begin, More, Less, Reject, End, Push, Pop, is_reject, has_reject}
use Rattle.lexlook_tables.specs.Lines.{is_unsteady, is_begin, is_home, strays, is_steady, leaves_line}

-- An action neither ends the scan nor uses the stack of conditions, and sets no condition where it has REJECT.
pub record IsSteady (ss : List Statement) : Type 0 where
  pub no_end : (status : ℕ) → Among ss (End status) → ⊥
  pub no_push : (d : ℕ) → Among ss (Push d) → ⊥
  pub no_pop : Among ss Pop → ⊥
  pub rejects : Among ss Reject → (d : ℕ) → Among ss (Begin d) → ⊥

-- An action that takes a newline in condition c leaves the scan in INITIAL, with no text kept by yymore.
pub record EndsLine (c : ℕ) (ss : List Statement) : Type 0 where
  pub home : (d : ℕ) → Among ss (Begin d) → d ≡ 0
  pub begins : (c ≡ 0) ⊎ Among ss (Begin 0)
  pub no_more : Among ss More → ⊥

differ : true ≡ false → ⊥
differ e = cc

-- no element passes, or some does
none_passes : (test : Statement → Bool) (ss : List Statement) (s : Statement) → list_any test ss ≡ false → Among ss s → test s ≡ false
none_passes test [] s e at = absurd at
none_passes test (t ∷ ss) s e (inl is) = ap test is ∙ (or_parts (test t) (list_any test ss) e).0
none_passes test (t ∷ ss) s e (inr at) = none_passes test ss s (or_parts (test t) (list_any test ss) e).1 at

one_passes : (test : Statement → Bool) (ss : List Statement) → list_any test ss ≡ true → (s : Statement) × Among ss s × (test s ≡ true)
one_passes test [] e = absurd cc
one_passes test (t ∷ ss) e = from (test t) refl (λ f. one_passes test ss f)
  where
    from : (b : Bool) → test t ≡ b → (list_any test ss ≡ true → (s : Statement) × Among ss s × (test s ≡ true)) → (s : Statement) × Among (t ∷ ss) s × (test s ≡ true)
    from true is later = (t, inl refl, is)
    from false is later = (let h = later (ap (λ b. b || list_any test ss) (sym is) ∙ e) in (h.0, inr h.1, h.2))

not_true : (b : Bool) → not b ≡ true → b ≡ false
not_true true e = sym e
not_true false e = refl

pub stays : (ss : List Statement) → has_reject ss ≡ false → Among ss Reject → ⊥
stays [] e at = at
stays (s ∷ ss) e (inl is) = differ (ap is_reject is ∙ (or_parts (is_reject s) (has_reject ss) e).0)
stays (s ∷ ss) e (inr at) = stays ss (or_parts (is_reject s) (has_reject ss) e).1 at

both_not : (a b : Bool) → not (a && b) ≡ true → (a ≡ false) ⊎ (b ≡ false)
both_not true true e = absurd (differ (sym e))
both_not true false e = inr refl
both_not false b e = inl refl

pub steady_of : (ss : List Statement) → is_steady ss ≡ true → IsSteady ss
steady_of ss e = record {
  no_end = λ status at. differ (none_passes is_unsteady ss (End status) plain at);
  no_push = λ d at. differ (none_passes is_unsteady ss (Push d) plain at);
  no_pop = λ at. differ (none_passes is_unsteady ss Pop plain at);
  rejects = λ rejected d at. elim (both_not (list_any is_begin ss) (has_reject ss) both.1) [
    | inl none ↦ differ (none_passes is_begin ss (Begin d) none at)
    | inr none ↦ stays ss none rejected
  ];
}
  where
    both : (not (list_any is_unsteady ss) ≡ true) × (not (list_any is_begin ss && has_reject ss) ≡ true)
    both = and_parts (not (list_any is_unsteady ss)) (not (list_any is_begin ss && has_reject ss)) e

    plain : list_any is_unsteady ss ≡ false
    plain = not_true (list_any is_unsteady ss) both.0

pub ends_of : (c : ℕ) (ss : List Statement) → leaves_line c ss ≡ true → EndsLine c ss
ends_of c ss e = record { home = λ d at. home d (none_passes strays ss (Begin d) none at); begins = begins (nat_eq c 0) refl both.0; no_more = λ at. differ (none_passes strays ss More none at) }
  where
    both : ((nat_eq c 0 || list_any is_home ss) ≡ true) × (not (list_any strays ss) ≡ true)
    both = and_parts (nat_eq c 0 || list_any is_home ss) (not (list_any strays ss)) e

    none : list_any strays ss ≡ false
    none = not_true (list_any strays ss) both.1

    home : (d : ℕ) → not (nat_eq d 0) ≡ false → d ≡ 0
    home d e = zero_by (nat_eq d 0) refl e
      where
        zero_by : (b : Bool) → nat_eq d 0 ≡ b → not b ≡ false → d ≡ 0
        zero_by true is f = eqb-true d 0 is
        zero_by false is f = absurd (differ f)

    begins : (b : Bool) → nat_eq c 0 ≡ b → (b || list_any is_home ss) ≡ true → (c ≡ 0) ⊎ Among ss (Begin 0)
    begins true is h = inl (eqb-true c 0 is)
    begins false is h = inr (at_home (one_passes is_home ss h))
      where
        at_home : (s : Statement) × Among ss s × (is_home s ≡ true) → Among ss (Begin 0)
        at_home (Begin d, at, passes) = subst (λ k. Among ss (Begin k)) (eqb-true d 0 passes) at
        at_home (Echo, at, passes) = absurd (differ (sym passes))
        at_home (Print s, at, passes) = absurd (differ (sym passes))
        at_home (More, at, passes) = absurd (differ (sym passes))
        at_home (Less k, at, passes) = absurd (differ (sym passes))
        at_home (Reject, at, passes) = absurd (differ (sym passes))
        at_home (End k, at, passes) = absurd (differ (sym passes))
        at_home (Push k, at, passes) = absurd (differ (sym passes))
        at_home (Pop, at, passes) = absurd (differ (sym passes))
