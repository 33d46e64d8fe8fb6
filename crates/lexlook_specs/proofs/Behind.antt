-- The rules behind one that takes a text.
use Rattle.std.proofs.Common.{◌≡◌, ◌⊎◌, ◌↔◌, ◌<◌, ◌≤◌, ◌+◌, ◌==◌, ℕ, Bool, true, false, List, [], ◌∷◌, length, drop, get_or, inl, inr, refl, sym, ap, subst, ◌∙◌, arith}
use Rattle.std.specs.Prelude.{cond}
use Rattle.std.proofs.lemmas.Bool.{cases_Bool, cond-true, cond-false, eqb-true, eqb-false, eq-eqb}
use Rattle.std.proofs.lemmas.List.{drop_more, drop_all}
use Rattle.lex_semantics.specs.Text.{Among, Ascending, flag}
use Rattle.lexlook_specs.specs.Placing.{behind, takers}
use Rattle.lexlook_specs.proofs.Takers.{takers_among}

-- what is behind the rule, by what is behind it without the first of these rules
module _ (rejects : List Bool) (r : ℕ) (rs : List ℕ) (i : ℕ) where
  pub behind_here : r ≡ i → behind rejects (r ∷ rs) i ≡ rs
  behind_here e = cond-true (r == i) rs (cond (flag rejects r) (behind rejects rs i) []) (eq-eqb r i e)

  pub behind_kept : (r == i) ≡ false → flag rejects r ≡ false → behind rejects (r ∷ rs) i ≡ []
  behind_kept ne f = cond-false (r == i) rs (cond (flag rejects r) (behind rejects rs i) []) ne ∙ cond-false (flag rejects r) (behind rejects rs i) [] f

  pub behind_further : (r == i) ≡ false → flag rejects r ≡ true → behind rejects (r ∷ rs) i ≡ behind rejects rs i
  behind_further ne t = cond-false (r == i) rs (cond (flag rejects r) (behind rejects rs i) []) ne ∙ cond-true (flag rejects r) (behind rejects rs i) [] t

takes_first : (b : Bool) (r i : ℕ) (rs : List ℕ) → Among (cond b (r ∷ rs) (r ∷ [])) i → (i ≡ r) ⊎ ((b ≡ true) × Among rs i)
takes_first true r i rs a = elim a [ inl e ↦ inl e | inr m ↦ inr (refl, m) ]
takes_first false r i rs a = elim a [ inl e ↦ inl e | inr n ↦ absurd n ]

first_takes : (b : Bool) (r i : ℕ) (rs : List ℕ) → i ≡ r → Among (cond b (r ∷ rs) (r ∷ [])) i
first_takes true r i rs e = inl e
first_takes false r i rs e = inl e

later_takes : (b : Bool) (r i : ℕ) (rs : List ℕ) → b ≡ true → Among rs i → Among (cond b (r ∷ rs) (r ∷ [])) i
later_takes true r i rs t a = inr a
later_takes false r i rs t a = absurd cc

module _ (rejects : List Bool) (i j : ℕ) where
  abbrev IsBehind : List ℕ → Type 0
  IsBehind l = Among (takers rejects l) i × Among l j × (i < j)

  at_first : (r : ℕ) (rs : List ℕ) → Ascending (r ∷ rs) → r ≡ i → Among (behind rejects (r ∷ rs) i) j ↔ IsBehind (r ∷ rs)
  at_first r rs up e = (
    λ a. (let b = subst (λ (l : List ℕ). Among l j) (behind_here rejects r rs i e) a in
        let low = up.0 j b in
        (first_takes (flag rejects r) r i (takers rejects rs) (sym e), inr b, (omega (arith, low, e)))),
    λ t. subst (λ (l : List ℕ). Among l j) (sym (behind_here rejects r rs i e)) (elim t.1 [
      | inl same ↦ (let lt = t.2 in absurd (omega (arith, lt, same, e)))
      | inr b ↦ b
    ]),
  )

  past_kept : (r : ℕ) (rs : List ℕ) → (r == i) ≡ false → flag rejects r ≡ false → Among (behind rejects (r ∷ rs) i) j ↔ IsBehind (r ∷ rs)
  past_kept r rs ne f = (
    λ a. absurd (subst (λ (l : List ℕ). Among l j) (behind_kept rejects r rs i ne f) a),
    λ t. elim (takes_first (flag rejects r) r i (takers rejects rs) t.0) [
      | inl e ↦ absurd (eqb-false r i ne (sym e))
      | inr m ↦ absurd (let g = m.0 in cc)
    ],
  )

  further : (r : ℕ) (rs : List ℕ) → Ascending (r ∷ rs) → (r == i) ≡ false → flag rejects r ≡ true → Among (behind rejects rs i) j ↔ IsBehind rs → Among (behind rejects (r ∷ rs) i) j ↔ IsBehind (r ∷ rs)
  further r rs up ne t rest = (
    λ a. (let h = rest.0 (subst (λ (l : List ℕ). Among l j) (behind_further rejects r rs i ne t) a) in (later_takes (flag rejects r) r i (takers rejects rs) t h.0, inr h.1, h.2)),
    λ h. subst (λ (l : List ℕ). Among l j) (sym (behind_further rejects r rs i ne t)) (elim (takes_first (flag rejects r) r i (takers rejects rs) h.0) [
      | inl e ↦ absurd (eqb-false r i ne (sym e))
      | inr m ↦ elim h.1 [
        | inl same ↦ (let low = up.0 i (takers_among rejects rs i m.1) in let lt = h.2 in absurd (omega (arith, low, lt, same)))
        | inr b ↦ rest.1 (m.1, b, h.2)
      ]
    ]),
  )

  -- it is behind the rule, which takes the text, just where it is among the rules too, and has a greater number
  pub behind_are : (l : List ℕ) → Ascending l → Among (behind rejects l i) j ↔ (Among (takers rejects l) i × Among l j × (i < j))
  behind_are [] up = (λ a. absurd a, λ t. absurd t.0)
  behind_are (r ∷ rs) up = elim (cases_Bool (r == i)) [
    | inl e ↦ at_first r rs up (eqb-true r i e)
    | inr ne ↦ elim (cases_Bool (flag rejects r)) [
      | inl t ↦ further r rs up ne t (behind_are rs up.1)
      | inr f ↦ past_kept r rs ne f
    ]
  ]

  pub behind_among : (l : List ℕ) → Among (behind rejects l i) j → Among l j
  behind_among [] a = absurd a
  behind_among (r ∷ rs) a = elim (cases_Bool (r == i)) [
    | inl e ↦ inr (subst (λ (l : List ℕ). Among l j) (behind_here rejects r rs i (eqb-true r i e)) a)
    | inr ne ↦ elim (cases_Bool (flag rejects r)) [
      | inl t ↦ inr (behind_among rs (subst (λ (l : List ℕ). Among l j) (behind_further rejects r rs i ne t) a))
      | inr f ↦ absurd (subst (λ (l : List ℕ). Among l j) (behind_kept rejects r rs i ne f) a)
    ]
  ]

-- a step of a walk over the rules, from the place k on
module _ (rejects : List Bool) (l : List ℕ) (i k : ℕ) (low : k < length l) (so_far : behind rejects l i ≡ behind rejects (drop k l) i) where
  here : behind rejects l i ≡ behind rejects (get_or l k 0 ∷ drop (k + 1) l) i
  here = so_far ∙ ap (λ (rs : List ℕ). behind rejects rs i) (drop_more l k 0 low)

  pub walk_found : get_or l k 0 ≡ i → behind rejects l i ≡ drop (k + 1) l
  walk_found e = here ∙ behind_here rejects (get_or l k 0) (drop (k + 1) l) i e

  pub walk_kept : (get_or l k 0 == i) ≡ false → flag rejects (get_or l k 0) ≡ false → behind rejects l i ≡ []
  walk_kept ne f = here ∙ behind_kept rejects (get_or l k 0) (drop (k + 1) l) i ne f

  pub walk_further : (get_or l k 0 == i) ≡ false → flag rejects (get_or l k 0) ≡ true → behind rejects l i ≡ behind rejects (drop (k + 1) l) i
  walk_further ne t = here ∙ behind_further rejects (get_or l k 0) (drop (k + 1) l) i ne t

pub walk_end : (rejects : List Bool) (l : List ℕ) (i k : ℕ) → length l ≤ k → behind rejects l i ≡ behind rejects (drop k l) i → behind rejects l i ≡ []
walk_end rejects l i k all so_far = so_far ∙ ap (λ (rs : List ℕ). behind rejects rs i) (drop_all k l all)
