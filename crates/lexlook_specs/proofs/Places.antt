-- The first of several places.
use Rattle.std.proofs.Common.{◌≡◌, ◌⊎◌, ◌↔◌, ◌<◌, ◌≤◌, ◌+◌, ◌*◌, ℕ, Bool, true, false, List, [], ◌∷◌, ◌++◌, length, take, get_or, set, Option, Some, None, inl, inr, refl, sym, ap, subst, ◌∙◌, arith}
use Rattle.std.specs.Prelude.{min}
use Rattle.std.specs.Option.{is_some}
use Rattle.std.proofs.lemmas.Bool.{cases_eq, cases_lt}
use Rattle.std.proofs.lemmas.List.{take_more, get_or-set_same, get_or-set_other}
use Rattle.lex_semantics.specs.Text.{Among, flag}
use Rattle.lexauto_dfa.specs.Parts.{accepts}
use Rattle.lexauto_dfa.specs.declared.dfa.Parts.{Parts}
use Rattle.lexauto_reports.specs.Searching.{place_of}
use Rattle.lexauto_dfa.proofs.Accepting.{among_push}
use Rattle.lexlook_specs.specs.Placing.{IsLeastOf, IsPlacedAt, SharesAt, TakesAt, TakesBelow, behind, least_place, takers}
use Rattle.lexlook_specs.proofs.Takers.{is_among, takers_among}

pub least_alike : (P Q : ℕ → Type 0) (o : Option ℕ) → ((j : ℕ) → P j ↔ Q j) → IsLeastOf P o → IsLeastOf Q o
least_alike P Q None same none = λ j q. none j ((same j).1 q)
least_alike P Q (Some j) same least = ((same j).0 least.0, λ k q. least.1 k ((same k).1 q))

min_is : (j k : ℕ) → ((min j k ≡ j) × (j ≤ k)) ⊎ ((min j k ≡ k) × (k ≤ j))
min_is j k = elim (cases_lt j k) [
  | inl h ↦ inl (omega (arith, h), omega (arith, h))
  | inr h ↦ inr (omega (arith, h), h)
]

pub least_of_two : (P Q : ℕ → Type 0) (o q : Option ℕ) → IsLeastOf P o → IsLeastOf Q q → IsLeastOf (λ j. P j ⊎ Q j) (least_place o q)
least_of_two P Q None None a b = λ j h. elim h [ inl x ↦ a j x | inr y ↦ b j y ]
least_of_two P Q None (Some k) a b = (inr b.0, λ j h. elim h [ inl x ↦ absurd (a j x) | inr y ↦ b.1 j y ])
least_of_two P Q (Some j) None a b = (inl a.0, λ k h. elim h [ inl x ↦ a.1 k x | inr y ↦ absurd (b k y) ])
least_of_two P Q (Some j) (Some k) a b = elim (min_is j k) [
  | inl r ↦ (
    subst (λ m. P m ⊎ Q m) (sym r.0) (inl a.0),
    λ i h. (let e = r.0 in let low = r.1 in elim h [
      | inl x ↦ (let f = a.1 i x in omega (arith, e, f))
      | inr y ↦ (let f = b.1 i y in omega (arith, e, low, f))
    ]),
  )
  | inr r ↦ (
    subst (λ m. P m ⊎ Q m) (sym r.0) (inr b.0),
    λ i h. (let e = r.0 in let low = r.1 in elim h [
      | inl x ↦ (let f = a.1 i x in omega (arith, e, low, f))
      | inr y ↦ (let f = b.1 i y in omega (arith, e, f))
    ]),
  )
]

pub least_again : (o q : Option ℕ) → least_place (least_place o q) q ≡ least_place o q
least_again None None = refl
least_again None (Some k) = ap Some (let e : min k k ≡ k = omega arith in e)
least_again (Some j) None = refl
least_again (Some j) (Some k) = ap Some (let e : min (min j k) k ≡ min j k = omega arith in e)

pub least_is : (o : Option ℕ) → IsLeastOf (λ j. o ≡ Some j) o
least_is None = λ j e. absurd cc
least_is (Some j) = (refl, λ k e. (let same : j ≡ k = cc in omega (arith, same)))

-- the place of a state
pub placed_least : (places : List (Option ℕ)) (s : ℕ) → IsLeastOf (IsPlacedAt places s) (least_place (place_of places (3 * s + 1)) (place_of places (3 * s + 2)))
placed_least places s = least_of_two (λ j. place_of places (3 * s + 1) ≡ Some j) (λ j. place_of places (3 * s + 2) ≡ Some j) (place_of places (3 * s + 1)) (place_of places (3 * s + 2)) (least_is (place_of places (3 * s + 1))) (least_is (place_of places (3 * s + 2)))

pub least_there : (P : ℕ → Type 0) (o : Option ℕ) (j : ℕ) → IsLeastOf P o → o ≡ Some j → P j × ((k : ℕ) → P k → j ≤ k)
least_there P None j a e = absurd cc
least_there P (Some k) j a e = let same : k ≡ j = cc in subst (λ i. P i × ((m : ℕ) → P m → i ≤ m)) same a

pub least_nowhere : (P : ℕ → Type 0) (o : Option ℕ) → IsLeastOf P o → o ≡ None → (j : ℕ) → P j → ⊥
least_nowhere P None a e = a
least_nowhere P (Some k) a e = absurd cc

-- the place of rule i of these is lowered
module _ (old firsts : List (Option ℕ)) (rules : List ℕ) (i : ℕ) (place new : Option ℕ) (low : i < length rules) (known : get_or rules i 0 < length firsts) (is : new ≡ least_place (place_of firsts (get_or rules i 0)) place)
    (kept : (k : ℕ) → (Among (take i rules) k → ⊥) → place_of firsts k ≡ place_of old k)
    (lowered : (k : ℕ) → Among (take i rules) k → place_of firsts k ≡ least_place (place_of old k) place) where
  more : take (i + 1) rules ≡ take i rules ++ get_or rules i 0 ∷ []
  more = take_more rules i 0 low

  here : Among (take (i + 1) rules) (get_or rules i 0)
  here = subst (λ l. Among l (get_or rules i 0)) (sym more) ((among_push (take i rules) (get_or rules i 0) (get_or rules i 0)).1 (inr refl))

  further : (k : ℕ) → Among (take i rules) k → Among (take (i + 1) rules) k
  further k a = subst (λ l. Among l k) (sym more) ((among_push (take i rules) (get_or rules i 0) k).1 (inl a))

  pub lower_kept : (k : ℕ) → (Among (take (i + 1) rules) k → ⊥) → place_of (set firsts (get_or rules i 0) new) k ≡ place_of old k
  lower_kept k none = elim (cases_eq k (get_or rules i 0)) [
    | inl e ↦ absurd (none (subst (Among (take (i + 1) rules)) (sym e) here))
    | inr other ↦ get_or-set_other firsts (get_or rules i 0) k new None other ∙ kept k (λ a. none (further k a))
  ]

  at_rule : least_place (place_of firsts (get_or rules i 0)) place ≡ least_place (place_of old (get_or rules i 0)) place
  at_rule = elim (is_among (take i rules) (get_or rules i 0)) [
    | inl a ↦ ap (λ o. least_place o place) (lowered (get_or rules i 0) a) ∙ least_again (place_of old (get_or rules i 0)) place
    | inr none ↦ ap (λ o. least_place o place) (kept (get_or rules i 0) none)
  ]

  pub lower_lowered : (k : ℕ) → Among (take (i + 1) rules) k → place_of (set firsts (get_or rules i 0) new) k ≡ least_place (place_of old k) place
  lower_lowered k a = elim (cases_eq k (get_or rules i 0)) [
    | inl e ↦ subst (λ j. place_of (set firsts (get_or rules i 0) new) j ≡ least_place (place_of old j) place) (sym e) (get_or-set_same firsts (get_or rules i 0) new None known ∙ is ∙ at_rule)
    | inr other ↦ elim ((among_push (take i rules) (get_or rules i 0) k).0 (subst (λ l. Among l k) more a)) [
      | inl b ↦ get_or-set_other firsts (get_or rules i 0) k new None other ∙ lowered k b
      | inr e ↦ absurd (other e)
    ]
  ]

-- one of the first n states, of which this holds, is led to by a word of this place
abbrev pub HasAt : (ℕ → Type 0) → List (Option ℕ) → ℕ → ℕ → Type 0
HasAt A places n j = (s : ℕ) × (s < n) × A s × IsPlacedAt places s j

-- a state more
module _ (A : ℕ → Type 0) (places : List (Option ℕ)) (n : ℕ) where
  has_at_more : (j : ℕ) → A n → (HasAt A places n j ⊎ IsPlacedAt places n j) ↔ HasAt A places (n + 1) j
  has_at_more j a = (
    λ h. elim h [
      | inl t ↦ (let low = t.1 in (t.0, (omega (arith, low)), t.2, t.3))
      | inr q ↦ (n, (omega arith), a, q)
    ],
    λ t. elim (cases_lt t.0 n) [
      | inl lt ↦ inl (t.0, lt, t.2, t.3)
      | inr le ↦ (let low = t.1 in let e : t.0 ≡ n = omega (arith, low, le) in inr (subst (λ s. IsPlacedAt places s j) e t.3))
    ],
  )

  has_at_not : (j : ℕ) → (A n → ⊥) → HasAt A places n j ↔ HasAt A places (n + 1) j
  has_at_not j none = (
    λ t. (let low = t.1 in (t.0, (omega (arith, low)), t.2, t.3)),
    λ t. elim (cases_lt t.0 n) [
      | inl lt ↦ (t.0, lt, t.2, t.3)
      | inr le ↦ (let low = t.1 in let e : t.0 ≡ n = omega (arith, low, le) in absurd (none (subst A e t.2)))
    ],
  )

  pub least_more : (old new place : Option ℕ) → A n ⊎ (A n → ⊥) → IsLeastOf (HasAt A places n) old
      → place ≡ least_place (place_of places (3 * n + 1)) (place_of places (3 * n + 2))
      → ((A n → ⊥) → new ≡ old)
      → (A n → new ≡ least_place old place)
      → IsLeastOf (HasAt A places (n + 1)) new
  least_more old new place or_not least is kept lowered = elim or_not [
    | inl a ↦ subst (IsLeastOf (HasAt A places (n + 1))) (sym (lowered a ∙ ap (least_place old) is))
        (least_alike (λ j. HasAt A places n j ⊎ IsPlacedAt places n j) (HasAt A places (n + 1)) (least_place old (least_place (place_of places (3 * n + 1)) (place_of places (3 * n + 2)))) (λ j. has_at_more j a)
        (least_of_two (HasAt A places n) (IsPlacedAt places n) old (least_place (place_of places (3 * n + 1)) (place_of places (3 * n + 2))) least (placed_least places n)))
    | inr none ↦ subst (IsLeastOf (HasAt A places (n + 1))) (sym (kept none))
        (least_alike (HasAt A places n) (HasAt A places (n + 1)) old (λ j. has_at_not j none) least)
  ]

pub place_more : (p : Parts) (rejects : List Bool) (places : List (Option ℕ)) (n i : ℕ) (old new place : Option ℕ) → IsLeastOf (TakesAt p rejects places n i) old
    → place ≡ least_place (place_of places (3 * n + 1)) (place_of places (3 * n + 2))
    → ((Among (takers rejects (accepts p n)) i → ⊥) → new ≡ old)
    → (Among (takers rejects (accepts p n)) i → new ≡ least_place old place)
    → IsLeastOf (TakesAt p rejects places (n + 1) i) new
place_more p rejects places n i old new place =
    least_more (λ s. Among (takers rejects (accepts p s)) i) places n old new place (is_among (takers rejects (accepts p n)) i)

-- the same of the rules behind rule i
pub shared_more : (p : Parts) (rejects : List Bool) (places : List (Option ℕ)) (n i j : ℕ) (old new place : Option ℕ) → IsLeastOf (SharesAt p rejects places n i j) old
    → place ≡ least_place (place_of places (3 * n + 1)) (place_of places (3 * n + 2))
    → ((Among (behind rejects (accepts p n) i) j → ⊥) → new ≡ old)
    → (Among (behind rejects (accepts p n) i) j → new ≡ least_place old place)
    → IsLeastOf (SharesAt p rejects places (n + 1) i j) new
shared_more p rejects places n i j old new place =
    least_more (λ s. Among (behind rejects (accepts p s) i) j) places n old new place (is_among (behind rejects (accepts p n) i) j)

-- the flags of the rules that take the texts of rule i, after a state more
module _ (p : Parts) (rejects : List Bool) (places : List (Option ℕ)) (n i : ℕ) where
  pub below_more : (old new : List Bool) (k : ℕ) → length old ≡ length rejects → length new ≡ length old → IsPlacedAt places n k
      → ((j : ℕ) → ((j < length old) × (flag old j ≡ false)) ↔ TakesBelow p rejects places n i j)
      → ((j : ℕ) → (flag new j ≡ false) ↔ ((flag old j ≡ false) ⊎ (Among (accepts p n) i × Among (takers rejects (accepts p n)) j × (flag rejects j ≡ false))))
      → ((j : ℕ) → Among (accepts p n) j → j < length rejects)
      → (j : ℕ) → ((j < length new) × (flag new j ≡ false)) ↔ TakesBelow p rejects places (n + 1) i j
  below_more old new k same len placed each cleared known j = (to, from)
    where
      to : (j < length new) × (flag new j ≡ false) → TakesBelow p rejects places (n + 1) i j
      to (low, f) = elim ((cleared j).0 f) [
        | inl o ↦ (let t = (each j).0 (omega (arith, low, len), o) in let lt = t.2 in (t.0, t.1, (omega (arith, lt)), t.3, t.4, t.5, t.6))
        | inr m ↦ (n, k, (omega arith), placed, m.0, m.1, m.2)
      ]

      from : TakesBelow p rejects places (n + 1) i j → (j < length new) × (flag new j ≡ false)
      from (s, q, low, at, m, t, f) = elim (cases_lt s n) [
        | inl lt ↦ (let o = (each j).1 (s, q, lt, at, m, t, f) in let l = o.0 in ((omega (arith, l, len)), (cleared j).1 (inl o.1)))
        | inr le ↦
            (let e : s ≡ n = omega (arith, low, le) in
            let m_n = subst (λ (u : ℕ). Among (accepts p u) i) e m in
            let t_n = subst (λ (u : ℕ). Among (takers rejects (accepts p u)) j) e t in
            let l = known j (takers_among rejects (accepts p n) j t_n) in
            ((omega (arith, l, len, same)), (cleared j).1 (inr (m_n, t_n, f))))
      ]

  pub below_not : (flags : List Bool) → ((k : ℕ) → IsPlacedAt places n k → ⊥)
      → ((j : ℕ) → ((j < length flags) × (flag flags j ≡ false)) ↔ TakesBelow p rejects places n i j)
      → (j : ℕ) → ((j < length flags) × (flag flags j ≡ false)) ↔ TakesBelow p rejects places (n + 1) i j
  below_not flags none each j = (to, from)
    where
      to : (j < length flags) × (flag flags j ≡ false) → TakesBelow p rejects places (n + 1) i j
      to h = (let t = (each j).0 h in let lt = t.2 in (t.0, t.1, (omega (arith, lt)), t.3, t.4, t.5, t.6))

      from : TakesBelow p rejects places (n + 1) i j → (j < length flags) × (flag flags j ≡ false)
      from (s, q, low, at, m, t, f) = elim (cases_lt s n) [
        | inl lt ↦ (each j).1 (s, q, lt, at, m, t, f)
        | inr le ↦ (let e : s ≡ n = omega (arith, low, le) in absurd (none q (subst (λ u. IsPlacedAt places u q) e at)))
      ]

pub is_there : (P : ℕ → Type 0) (o : Option ℕ) → IsLeastOf P o → is_some o ≡ true → (j : ℕ) × P j
is_there P None a e = absurd (let f : false ≡ true = e in cc)
is_there P (Some j) a e = (j, a.0)

pub is_nowhere : (P : ℕ → Type 0) (o : Option ℕ) → IsLeastOf P o → is_some o ≡ false → (j : ℕ) → P j → ⊥
is_nowhere P None a e = a
is_nowhere P (Some j) a e = absurd (let f : true ≡ false = e in cc)
