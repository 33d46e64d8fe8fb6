-- The tests of a step through rules say how the positions of their automata move, and which of them end.
use Rattle.std.specs.Prelude.{◌≡◌, ◌↔◌, ℕ, suc, ◌+◌, Bool, true, false, ◌⊎◌, List, [], ◌∷◌, Option, Some, None}
use Rattle.std.proofs.Common.{inl, inr, refl}
use Rattle.lex_semantics.specs.Tree.{Tree}
use Rattle.lex_semantics.specs.Positions.{positions}
use Rattle.lex_semantics.specs.Spec.{Rule}
use Rattle.lex_semantics.specs.Subsets.{positions_of_rule}
use Rattle.lexauto_positions.specs.PositionAutomaton.{Quad, quad}
use Rattle.lexauto_positions.specs.Flows.{Exits, Enters}
use Rattle.lexauto_positions.specs.Flow.{exits, enters}
use Rattle.lexauto_positions.specs.RuleAutomaton.{nonempty, trail_quad, rule_quad, gated, active_quad, every}
use Rattle.lexauto_positions.specs.RuleFlow.{trail_exits, trail_enters, rule_exits, rule_enters, rules_enter}
use Rattle.lexauto_positions.proofs.Flows.{exits_skip, exits_cat, enters_cat}
use Rattle.lexauto_positions.proofs.FlowMeaning.{both, back, either, or_is, never, no_true, exits_by, enters_by, enters_skip, exits_is, enters_is}

module _ (S : ℕ → Bool) where
  abbrev In : ℕ → Type 0
  In p = S p ≡ true

  -- some of the head was read: it is left from within
  left_within : (x : Quad) (i : Type 0) → Exits x (false ≡ true) In ↔ Exits (nonempty x) i In
  left_within x i = (
    λ h. elim h [ inl a ↦ no_true a.0 | inr e ↦ inr e ],
    λ h. elim h [ inl a ↦ absurd a.1 | inr e ↦ inr e ],
  )

  trail_exits_is : (t : Option Tree) (base : ℕ) (i : Bool) → (trail_exits t S base i ≡ true) ↔ Exits (trail_quad t base) (i ≡ true) In
  trail_exits_is None base i = back (exits_skip In (i ≡ true))
  trail_exits_is (Some t) base i = exits_is S t base i

  trail_enters_is : (t : Option Tree) (q base : ℕ) (i : Bool) → (trail_enters t S q base i ≡ true) ↔ Enters (trail_quad t base) (i ≡ true) In q
  trail_enters_is None q base i = both never (back (enters_skip S (i ≡ true) q))
  trail_enters_is (Some t) q base i = enters_is S q t base i

  pub rule_exits_is : (r : Rule) (base : ℕ) → (rule_exits r S base ≡ true) ↔ ((p : ℕ) × In p × (rule_quad r base).last p)
  rule_exits_is r base =
      both (trail_exits_is r.trail (base + positions r.head) (exits r.head S base false))
      (both (exits_by S (trail_quad r.trail (base + positions r.head)) (both (exits_is S r.head base false) (left_within (quad r.head base) ⊥)))
      (both (back (exits_cat In (nonempty (quad r.head base)) (trail_quad r.trail (base + positions r.head)) ⊥))
      ((λ h. elim h [ inl a ↦ absurd a.0 | inr e ↦ e ]), (λ h. inr h))))

  rule_enters_is : (r : Rule) (q base : ℕ) (i : Bool) → (rule_enters r S q base i ≡ true) ↔ Enters (rule_quad r base) (i ≡ true) In q
  rule_enters_is r q base i =
      both (or_is (enters r.head S q base i) (trail_enters r.trail S q (base + positions r.head) (exits r.head S base false)))
      (both (either (enters_is S q r.head base i)
      (both (trail_enters_is r.trail q (base + positions r.head) (exits r.head S base false))
      (enters_by S (trail_quad r.trail (base + positions r.head)) q (both (exits_is S r.head base false) (left_within (quad r.head base) (i ≡ true))))))
      (back (enters_cat In (nonempty (quad r.head base)) (trail_quad r.trail (base + positions r.head)) (i ≡ true) q)))

  gated_first : (on : Bool) (x : Quad) (q : ℕ) → (gated on x).first q ↔ ((on ≡ true) × x.first q)
  gated_first true x q = (λ h. (refl, h), λ h. h.1)
  gated_first false x q = (λ h. absurd h, λ h. no_true h.0)

  pub rules_enter_is : (on : ℕ → Bool) (rules : List Rule) (q i base : ℕ) → (rules_enter rules on S q i base ≡ true)
      ↔ ((active_quad on i base rules).first q ⊎ ((p : ℕ) × In p × (active_quad every i base rules).follow p q))
  rules_enter_is on [] q i base = (λ h. no_true h, λ h. elim h [ inl a ↦ absurd a | inr e ↦ absurd e.2 ])
  rules_enter_is on (r ∷ rules) q i base =
      let here = rule_enters_is r q base (on i) in
      let later = rules_enter_is on rules q (suc i) (base + positions_of_rule r) in
      let first = gated_first (on i) (rule_quad r base) q in
      both (or_is (rule_enters r S q base (on i)) (rules_enter rules on S q (suc i) (base + positions_of_rule r))) (
        (λ h. elim h [
          | inl a ↦ elim (here.0 a) [ inl f ↦ inl (inl (first.1 f)) | inr e ↦ inr (e.0, e.1, inl e.2) ]
          | inr b ↦ elim (later.0 b) [ inl f ↦ inl (inr f) | inr e ↦ inr (e.0, e.1, inr e.2) ]
        ]),
        (λ h. elim h [
          | inl (inl f) ↦ inl (here.1 (inl (first.0 f)))
          | inl (inr f) ↦ inr (later.1 (inl f))
          | inr e ↦ elim e.2 [ inl g ↦ inl (here.1 (inr (e.0, e.1, g))) | inr g ↦ inr (later.1 (inr (e.0, e.1, g))) ]
        ]),
      )
