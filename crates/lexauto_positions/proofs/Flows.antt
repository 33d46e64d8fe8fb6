-- One step through a tree, with no table of what follows what: what enters each part and what leaves it.
use Rattle.std.specs.Prelude.{◌≡◌, ◌↔◌, ℕ, ◌⊎◌}
use Rattle.std.proofs.Common.{inl, inr, refl, subst}
use Rattle.lex_semantics.specs.ByteSets.{ByteSet}
use Rattle.lexauto_positions.specs.Flows.{Exits, Enters}
use Rattle.lexauto_positions.specs.PositionAutomaton.{Quad, skip, leaf, cat, alt, plus, opt}

module _ (S : ℕ → Type 0) where
  pub exits_skip : (i : Type 0) → Exits skip i S ↔ i
  exits_skip i = ((λ h. elim h [ inl a ↦ a.0 | inr b ↦ absurd b.2 ]), (λ h. inl (h, tt)))

  pub exits_leaf : (s : ByteSet) (base : ℕ) (i : Type 0) → Exits (leaf s base) i S ↔ S base
  exits_leaf s base i = ((λ h. elim h [ inl a ↦ absurd a.1 | inr b ↦ subst S b.2 b.1 ]), (λ h. inr (base, h, refl)))

  pub enters_leaf : (s : ByteSet) (base : ℕ) (i : Type 0) (q : ℕ) → Enters (leaf s base) i S q ↔ (i × (q ≡ base))
  enters_leaf s base i q = ((λ h. elim h [ inl a ↦ a | inr b ↦ absurd b.2 ]), (λ h. inl h))

  pub exits_cat : (x y : Quad) (i : Type 0) → Exits (cat x y) i S ↔ Exits y (Exits x i S) S
  exits_cat x y i = (
    (λ h. elim h [
      | inl a ↦ inl (inl (a.0, (a.1).0), (a.1).1)
      | inr b ↦ elim b.2 [ inl l ↦ inr (b.0, b.1, l) | inr l ↦ inl (inr (b.0, b.1, l.1), l.0) ]
    ]),
    (λ h. elim h [
      | inl a ↦ elim a.0 [ inl c ↦ inl (c.0, (c.1, a.1)) | inr c ↦ inr (c.0, c.1, inr (a.1, c.2)) ]
      | inr b ↦ inr (b.0, b.1, inl b.2)
    ]),
  )

  pub enters_cat : (x y : Quad) (i : Type 0) (q : ℕ) → Enters (cat x y) i S q ↔ (Enters x i S q ⊎ Enters y (Exits x i S) S q)
  enters_cat x y i q = (
    (λ h. elim h [
      | inl a ↦ elim a.1 [ inl f ↦ inl (inl (a.0, f)) | inr f ↦ inr (inl (inl (a.0, f.0), f.1)) ]
      | inr b ↦ elim b.2 [
        | inl f ↦ inl (inr (b.0, b.1, f))
        | inr (inl f) ↦ inr (inr (b.0, b.1, f))
        | inr (inr f) ↦ inr (inl (inr (b.0, b.1, f.0), f.1))
      ]
    ]),
    (λ h. elim h [
      | inl (inl a) ↦ inl (a.0, inl a.1)
      | inl (inr a) ↦ inr (a.0, a.1, inl a.2)
      | inr (inl a) ↦ elim a.0 [ inl c ↦ inl (c.0, inr (c.1, a.1)) | inr c ↦ inr (c.0, c.1, inr (inr (c.2, a.1))) ]
      | inr (inr a) ↦ inr (a.0, a.1, inr (inl a.2))
    ]),
  )

  pub exits_alt : (x y : Quad) (i : Type 0) → Exits (alt x y) i S ↔ (Exits x i S ⊎ Exits y i S)
  exits_alt x y i = (
    (λ h. elim h [
      | inl a ↦ elim a.1 [ inl n ↦ inl (inl (a.0, n)) | inr n ↦ inr (inl (a.0, n)) ]
      | inr b ↦ elim b.2 [ inl l ↦ inl (inr (b.0, b.1, l)) | inr l ↦ inr (inr (b.0, b.1, l)) ]
    ]),
    (λ h. elim h [
      | inl (inl a) ↦ inl (a.0, inl a.1)
      | inl (inr a) ↦ inr (a.0, a.1, inl a.2)
      | inr (inl a) ↦ inl (a.0, inr a.1)
      | inr (inr a) ↦ inr (a.0, a.1, inr a.2)
    ]),
  )

  pub enters_alt : (x y : Quad) (i : Type 0) (q : ℕ) → Enters (alt x y) i S q ↔ (Enters x i S q ⊎ Enters y i S q)
  enters_alt x y i q = (
    (λ h. elim h [
      | inl a ↦ elim a.1 [ inl n ↦ inl (inl (a.0, n)) | inr n ↦ inr (inl (a.0, n)) ]
      | inr b ↦ elim b.2 [ inl l ↦ inl (inr (b.0, b.1, l)) | inr l ↦ inr (inr (b.0, b.1, l)) ]
    ]),
    (λ h. elim h [
      | inl (inl a) ↦ inl (a.0, inl a.1)
      | inl (inr a) ↦ inr (a.0, a.1, inl a.2)
      | inr (inl a) ↦ inl (a.0, inr a.1)
      | inr (inr a) ↦ inr (a.0, a.1, inr a.2)
    ]),
  )

  -- a loop is entered from outside, or from its own end
  pub enters_plus : (x : Quad) (i : Type 0) (q : ℕ) → Enters (plus x) i S q ↔ Enters x (i ⊎ Exits x ⊥ S) S q
  enters_plus x i q = (
    (λ h. elim h [
      | inl a ↦ inl (inl a.0, a.1)
      | inr b ↦ elim b.2 [ inl f ↦ inr (b.0, b.1, f) | inr f ↦ inl (inr (inr (b.0, b.1, f.0)), f.1) ]
    ]),
    (λ h. elim h [
      | inl a ↦ elim a.0 [
        | inl j ↦ inl (j, a.1)
        | inr (inl e) ↦ absurd e.0
        | inr (inr e) ↦ inr (e.0, e.1, inr (e.2, a.1))
      ]
      | inr b ↦ inr (b.0, b.1, inl b.2)
    ]),
  )

  pub exits_opt : (x : Quad) (i : Type 0) → Exits (opt x) i S ↔ (i ⊎ Exits x i S)
  exits_opt x i = (
    (λ h. elim h [ inl a ↦ inl a.0 | inr b ↦ inr (inr b) ]),
    (λ h. elim h [ inl a ↦ inl (a, tt) | inr (inl a) ↦ inl (a.0, tt) | inr (inr b) ↦ inr b ]),
  )
