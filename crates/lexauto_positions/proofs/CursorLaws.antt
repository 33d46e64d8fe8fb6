-- How a walk goes on in a list of positions.
use Rattle.std.proofs.Common.{◌≡◌, ℕ, zero, suc, ◌+◌, ◌<◌, ◌≤◌, ◌⊎◌, ◌||◌, false, List, [], ◌∷◌, ◌++◌, length, inl, inr, refl, sym, ap, ◌∙◌, arith}
use Rattle.std.specs.Prelude.{slice_index}
use Rattle.lex_semantics.specs.Active.{contains}
use Rattle.lex_semantics.specs.Text.{Among, Ascending}
use Rattle.lex_semantics.specs.Tree.{Tree}
use Rattle.lex_semantics.specs.Positions.{positions}
use Rattle.lexauto_positions.specs.Cursors.{Increases, IsCursor, IsFront}
use Rattle.lexauto_positions.specs.Flow.{exits, enters}
use Rattle.lexauto_positions.proofs.Numbers.{lists_is}
use Rattle.std.specs.Prelude.{◌==◌}
use Rattle.std.proofs.lemmas.Bool.{cases_Bool, eqb-true, eq-eqb}
use Rattle.lexauto_positions.proofs.Copies.{or_false, or_assoc}
use Rattle.lexauto_positions.proofs.FlowMeaning.{no_true}
use Rattle.lexauto_positions.proofs.Quiet.{not_true, quiet_exits, quiet_enters}

pub among_at : (l : List ℕ) (p : ℕ) → Among l p → (j : ℕ) × (j < length l) × (slice_index l j ≡ p)
among_at [] p a = absurd a
among_at (x ∷ l) p (inl e) = (0, omega arith, sym e)
among_at (x ∷ l) p (inr a) = (let r = among_at l p a in (suc r.0, omega (arith, r.1), r.2))

pub at_among : (l : List ℕ) (j : ℕ) → j < length l → Among l (slice_index l j)
at_among [] j h = absurd (omega arith)
at_among (x ∷ l) zero h = inl refl
at_among (x ∷ l) (suc j) h = inr (at_among l j (omega arith))

-- the ascending order by index
pub increases : (l : List ℕ) → Ascending l → Increases l
increases [] h i j lt k = absurd (omega (arith, k))
increases (x ∷ l) h i zero lt k = absurd (omega (arith, lt))
increases (x ∷ l) h zero (suc j) lt k = h.0 (slice_index l j) (at_among l j (omega (arith, k)))
increases (x ∷ l) h (suc i) (suc j) lt k = increases l h.1 i j (omega (arith, lt)) (omega (arith, k))

module _ (l : List ℕ) (at base : ℕ) (c : IsCursor l at base) where
  from_at : (j : ℕ) → at ≤ j → j < length l → slice_index l at ≤ slice_index l j
  from_at j g k = elim (let d : (at ≡ j) ⊎ (at < j) = grind arith in d) [
    | inl e ↦ (let same : slice_index l at ≡ slice_index l j = ap (slice_index l) e in omega (arith, same))
    | inr lt ↦ (let m = c.increases at j lt k in omega (arith, m))
  ]

  module _ (hi : ℕ) (low : base ≤ hi) (quiet : (length l ≤ at) ⊎ (hi ≤ slice_index l at)) where
    above : (j : ℕ) → at ≤ j → j < length l → hi ≤ slice_index l j
    above j g k = elim quiet [
      | inl e ↦ absurd (omega (arith, e, g, k))
      | inr e ↦ (let m = from_at j g k in omega (arith, e, m))
    ]

    pub cursor_past : IsCursor l at hi
    cursor_past = record {
      increases = c.increases;
      within = c.within;
      below = λ j g. let m = c.below j g in omega (arith, m, low);
      above = above;
    }

    pub none_before : (p : ℕ) → base ≤ p → p < hi → contains l p ≡ false
    none_before p f g = not_true (contains l p) (λ h.
        let r = among_at l p ((lists_is l p).0 h) in
        elim (let d : (r.0 < at) ⊎ (at ≤ r.0) = grind arith in d) [
          | inl b ↦ (let m = c.below r.0 b in let e = r.2 in omega (arith, m, e, f))
          | inr b ↦ (let m = above r.0 b r.1 in let e = r.2 in omega (arith, m, e, g))
        ])

  module _ (t : Tree) (quiet : (length l ≤ at) ⊎ (base + positions t ≤ slice_index l at)) where
    pub quiet_left : exits t (contains l) base false ≡ false
    quiet_left = quiet_exits (contains l) t base (none_before (base + positions t) (omega arith) quiet)

    pub quiet_next : (q : ℕ) → enters t (contains l) q base false ≡ false
    quiet_next = quiet_enters (contains l) t base (none_before (base + positions t) (omega arith) quiet)

  module _ (lt : at < length l) (hit : slice_index l at < base + 1) where
    here : slice_index l at ≡ base
    here = let m = c.above at (omega arith) lt in omega (arith, m, hit)

-- all before `at` is less than `hi`, and nothing from there on
pub cursor_at : (l : List ℕ) (at hi : ℕ) → Increases l → at ≤ length l → ((j : ℕ) → j < at → slice_index l j < hi)
    → (length l ≤ at) ⊎ (hi ≤ slice_index l at) → IsCursor l at hi
cursor_at l at hi inc within below quiet = record {
  increases = inc;
  within = within;
  below = below;
  above = λ j g k. elim quiet [
    | inl e ↦ absurd (omega (arith, e, g, k))
    | inr e ↦ elim (let d : (at ≡ j) ⊎ (at < j) = grind (arith, g) in d) [
      | inl s ↦ (let same : slice_index l at ≡ slice_index l j = ap (slice_index l) s in omega (arith, same, e))
      | inr lt ↦ (let m = inc at j lt k in omega (arith, m, e))
    ]
  ];
}

-- the list of what comes next grows

among_end : (l : List ℕ) (b j : ℕ) → Among (l ++ b ∷ []) j → Among l j ⊎ (j ≡ b)
among_end [] b j (inl e) = inr e
among_end [] b j (inr a) = absurd a
among_end (x ∷ l) b j (inl e) = inl (inl e)
among_end (x ∷ l) b j (inr a) = elim (among_end l b j a) [ inl h ↦ inl (inr h) | inr e ↦ inr e ]

ascends_end : (l : List ℕ) (b : ℕ) → Ascending l → ((j : ℕ) → Among l j → j < b) → Ascending (l ++ b ∷ [])
ascends_end [] b h low = ((λ j a. absurd a), tt)
ascends_end (x ∷ l) b h low = (
  (λ j a. elim (among_end l b j a) [ inl k ↦ h.0 j k | inr e ↦ (let m = low x (inl refl) in omega (arith, m, e)) ]),
  ascends_end l b h.1 (λ j a. low j (inr a)),
)

pub front_more : (l : List ℕ) (b : ℕ) → IsFront l b → IsFront (l ++ b ∷ []) (b + 1)
front_more l b f = record {
  ascending = ascends_end l b f.ascending f.below;
  below = λ j a. elim (among_end l b j a) [ inl k ↦ (let m = f.below j k in omega (arith, m)) | inr e ↦ omega (arith, e) ];
}

pub front_wider : (l : List ℕ) (b c : ℕ) → b ≤ c → IsFront l b → IsFront l c
front_wider l b c h f = record { ascending = f.ascending; below = λ j a. let m = f.below j a in omega (arith, m, h) }

turned : (p q : ℕ) → (p == q) ≡ (q == p)
turned p q = elim (cases_Bool (p == q)) [
  | inl y ↦ (let same : p ≡ q = eqb-true p q y in y ∙ sym (eq-eqb q p (sym same)))
  | inr n ↦ n ∙ sym (not_true (q == p) (λ h. let same : q ≡ p = eqb-true q p h in no_true (sym n ∙ eq-eqb p q (sym same))))
]

pub lists_more : (l : List ℕ) (b q : ℕ) → contains (l ++ b ∷ []) q ≡ (contains l q || (q == b))
lists_more [] b q = or_false (b == q) ∙ turned b q
lists_more (x ∷ l) b q = ap (λ k. (x == q) || k) (lists_more l b q) ∙ sym (or_assoc (x == q) (contains l q) (q == b))

pub front_none : IsFront [] 0
front_none = record { ascending = tt; below = λ j a. absurd a }
