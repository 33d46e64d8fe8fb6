-- A part that is not entered and has none of the last positions is not left, and none of its positions is next.
use Rattle.std.proofs.Common.{◌≡◌, ℕ, ◌+◌, ◌<◌, ◌≤◌, Bool, true, false, inl, inr, refl, sym, ◌∙◌}
use Rattle.lex_semantics.specs.Tree.{Tree}
use Rattle.lex_semantics.specs.Positions.{positions}
use Rattle.lexauto_positions.specs.Flow.{exits, enters}
use Rattle.lexauto_positions.proofs.FlowMeaning.{exits_is, enters_is, no_true}
use Rattle.lexauto_positions.proofs.Glushkov.{glushkov}

pub not_true : (b : Bool) → (b ≡ true → ⊥) → b ≡ false
not_true true f = absurd (f refl)
not_true false f = refl

module _ (S : ℕ → Bool) (t : Tree) (base : ℕ) (none : (p : ℕ) → base ≤ p → p < base + positions t → S p ≡ false) where
  pub quiet_exits : exits t S base false ≡ false
  quiet_exits = not_true (exits t S base false) (λ h. elim ((exits_is S t base false).0 h) [
    | inl a ↦ no_true a.0
    | inr b ↦ (let r = (glushkov t base).within.last b.0 b.2 in no_true (sym (none b.0 r.0 r.1) ∙ b.1))
  ])

  pub quiet_enters : (q : ℕ) → enters t S q base false ≡ false
  quiet_enters q = not_true (enters t S q base false) (λ h. elim ((enters_is S q t base false).0 h) [
    | inl a ↦ no_true a.0
    | inr b ↦ (let r = (glushkov t base).within.follow b.0 q b.2 in no_true (sym (none b.0 r.0 r.1) ∙ b.1))
  ])
