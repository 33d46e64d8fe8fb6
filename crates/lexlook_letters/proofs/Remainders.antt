-- What is left of ranges.
use Rattle.std.proofs.Common.{◌≡◌, ◌↔◌, ℕ, ◌+◌, ◌-◌, ◌<◌, ◌≤◌, min, max, List, [], ◌∷◌, ◌++◌, length, get_or, take, ◌⊎◌, inl, inr, refl, sym, ap, ◌∙◌, subst, append-nil, arith}
use Rattle.std.proofs.lemmas.Bool.{cases_lt}
use Rattle.std.proofs.lemmas.List.{take_more}
use Rattle.lexlook_letters.specs.Encoding.{InNoneOf, InOneOf, IsEncodingOf, LiesWithin}
use Rattle.lexlook_letters.specs.Sequences.{FollowsOne}
use Rattle.lexlook_letters.specs.declared.ranges.CodeRange.{CodeRange}
use Rattle.lexlook_letters.specs.Apart.{ranges_between}
use Rattle.lexlook_letters.specs.declared.sequence.Sequence.{Sequence}
use Rattle.lexlook_letters.proofs.Apart.{none_between, one_between}
use Rattle.lexlook_letters.proofs.Runs.{in_more, in_first, in_last}

-- one range more
pub one_more_range : (rs after : List CodeRange) (r : CodeRange) (first end : ℕ) → after ≡ rs ++ r ∷ [] → first < end → r.first ≡ first → r.last ≡ end - 1
    → (c : ℕ) → InOneOf after c ↔ (InOneOf rs c ⊎ ((first ≤ c) × (c < end)))
one_more_range rs after r first end e some low high c =
    subst (λ x. InOneOf x c ↔ (InOneOf rs c ⊎ ((first ≤ c) × (c < end)))) (sym e) (to, from)
  where
    to : InOneOf (rs ++ r ∷ []) c → InOneOf rs c ⊎ ((first ≤ c) × (c < end))
    to h = elim (in_more rs r c h) [ inl k ↦ inl k | inr k ↦ (let l = k.0 in let m = k.1 in inr (omega arith, omega arith)) ]

    from : InOneOf rs c ⊎ ((first ≤ c) × (c < end)) → InOneOf (rs ++ r ∷ []) c
    from (inl h) = in_first rs r c h
    from (inr (l, m)) = in_last rs r c (omega arith, omega arith)

pub no_more_ranges : (rs : List CodeRange) (first end : ℕ) → end ≤ first → (c : ℕ) → InOneOf rs c ↔ (InOneOf rs c ⊎ ((first ≤ c) × (c < end)))
no_more_ranges rs first end none c = (λ h. inl h, from)
  where
    from : InOneOf rs c ⊎ ((first ≤ c) × (c < end)) → InOneOf rs c
    from (inl h) = h
    from (inr (l, m)) = absurd (omega arith)

pub between_points : (rs after : List CodeRange) (first end : ℕ) → after ≡ rs ++ ranges_between first end
    → (c : ℕ) → InOneOf after c ↔ (InOneOf rs c ⊎ ((first ≤ c) × (c < end)))
between_points rs after first end e = elim (cases_lt first end) [
  | inl some ↦
      one_more_range rs after (record { first = first; last = end - 1 }) first end (e ∙ ap (λ x. rs ++ x) (one_between first end some)) some refl refl
  | inr none ↦
      let same : after ≡ rs = e ∙ ap (λ x. rs ++ x) (none_between first end none) ∙ append-nil rs in
      subst (λ (x : List CodeRange). (c : ℕ) → InOneOf x c ↔ (InOneOf rs c ⊎ ((first ≤ c) × (c < end)))) (sym same) (no_more_ranges rs first end none)
]

-- what is below what is taken, and what is above it
pub both_sides : (old mid new : List CodeRange) (piece taken : CodeRange)
    → ((c : ℕ) → InOneOf mid c ↔ (InOneOf old c ⊎ ((piece.first ≤ c) × (c < min (piece.last + 1) taken.first))))
    → ((c : ℕ) → InOneOf new c ↔ (InOneOf mid c ⊎ ((max piece.first (taken.last + 1) ≤ c) × (c < piece.last + 1))))
    → (c : ℕ) → InOneOf new c ↔ (InOneOf old c ⊎ (LiesWithin piece c × (LiesWithin taken c → ⊥)))
both_sides old mid new piece taken below above c = (to, from)
  where
    to : InOneOf new c → InOneOf old c ⊎ (LiesWithin piece c × (LiesWithin taken c → ⊥))
    to h = elim ((above c).0 h) [
      | inl k ↦ elim ((below c).0 k) [
        | inl o ↦ inl o
        | inr b ↦ (let l = b.0 in let m = b.1 in inr ((omega arith, omega arith), λ t. (let n = t.0 in absurd (omega arith))))
      ]
      | inr b ↦ (let l = b.0 in let m = b.1 in inr ((omega arith, omega arith), λ t. (let n = t.1 in absurd (omega arith))))
    ]

    from : InOneOf old c ⊎ (LiesWithin piece c × (LiesWithin taken c → ⊥)) → InOneOf new c
    from (inl h) = (above c).1 (inl ((below c).1 (inl h)))
    from (inr ((l, m), out)) = elim (cases_lt c taken.first) [
      | inl low ↦ (above c).1 (inl ((below c).1 (inr (l, omega arith))))
      | inr high ↦ elim (cases_lt taken.last c) [
        | inl over ↦ (above c).1 (inr (omega arith, omega arith))
        | inr within ↦ absurd (out (high, within))
      ]
    ]

abbrev pub IsLeft : List CodeRange → List CodeRange → CodeRange → Type 0
IsLeft left pieces taken = (c : ℕ) → InOneOf left c ↔ (InOneOf pieces c × (LiesWithin taken c → ⊥))

pub none_left : (taken : CodeRange) → IsLeft [] [] taken
none_left taken c = (λ h. absurd h, λ h. h.0)

-- a piece more is gone over
pub piece_more : (left new pieces : List CodeRange) (piece taken : CodeRange) → IsLeft left pieces taken
    → ((c : ℕ) → InOneOf new c ↔ (InOneOf left c ⊎ (LiesWithin piece c × (LiesWithin taken c → ⊥))))
    → IsLeft new (pieces ++ piece ∷ []) taken
piece_more left new pieces piece taken so_far more c = (to, from)
  where
    to : InOneOf new c → InOneOf (pieces ++ piece ∷ []) c × (LiesWithin taken c → ⊥)
    to h = elim ((more c).0 h) [
      | inl k ↦ (let both = (so_far c).0 k in (in_first pieces piece c both.0, both.1))
      | inr k ↦ (in_last pieces piece c k.0, k.1)
    ]

    from : InOneOf (pieces ++ piece ∷ []) c × (LiesWithin taken c → ⊥) → InOneOf new c
    from (h, out) = elim (in_more pieces piece c h) [
      | inl k ↦ (more c).1 (inl ((so_far c).1 (k, out)))
      | inr k ↦ (more c).1 (inr (k, out))
    ]

abbrev pub AreOthers : List CodeRange → List CodeRange → Type 0
AreOthers left ranges = (c : ℕ) → InOneOf left c ↔ InNoneOf ranges c

pub all_first : (after : List CodeRange) (r : CodeRange) → after ≡ [] ++ r ∷ [] → r.first ≡ 0 → r.last ≡ 0x10FFFF → AreOthers after []
all_first after r e low high c = subst (λ x. InOneOf x c ↔ InNoneOf [] c) (sym e) (to, from)
  where
    to : InOneOf (r ∷ []) c → InNoneOf [] c
    to (inl (l, m)) = (omega arith, λ h. h)
    to (inr h) = absurd h

    from : InNoneOf [] c → InOneOf (r ∷ []) c
    from (m, out) = inl (omega arith, omega arith)

-- a range more is taken
pub range_more : (left new ranges : List CodeRange) (range : CodeRange) → AreOthers left ranges → IsLeft new left range → AreOthers new (ranges ++ range ∷ [])
range_more left new ranges range so_far more c = (to, from)
  where
    to : InOneOf new c → InNoneOf (ranges ++ range ∷ []) c
    to h =
        let now = (more c).0 h in
        let before = (so_far c).0 now.0 in
        (before.0, λ k. elim (in_more ranges range c k) [ inl o ↦ before.1 o | inr o ↦ now.1 o ])

    from : InNoneOf (ranges ++ range ∷ []) c → InOneOf new c
    from (top, out) = (more c).1 ((so_far c).1 (top, λ k. out (in_first ranges range c k)), λ k. out (in_last ranges range c k))

-- the same by places in a list

pub piece_step : (left new pieces : List CodeRange) (taken : CodeRange) (i : ℕ) (d : CodeRange) → i < length pieces → IsLeft left (take i pieces) taken
    → ((c : ℕ) → InOneOf new c ↔ (InOneOf left c ⊎ (LiesWithin (get_or pieces i d) c × (LiesWithin taken c → ⊥))))
    → IsLeft new (take (i + 1) pieces) taken
piece_step left new pieces taken i d h so_far more =
    subst (λ (x : List CodeRange). IsLeft new x taken) (sym (take_more pieces i d h)) (piece_more left new (take i pieces) (get_or pieces i d) taken so_far more)

pub range_taken : (left slice new ranges : List CodeRange) (i : ℕ) (d : CodeRange) → i < length ranges → slice ≡ left → AreOthers left (take i ranges)
    → IsLeft new slice (get_or ranges i d) → AreOthers new (take (i + 1) ranges)
range_taken left slice new ranges i d h e so_far more =
    subst (λ (x : List CodeRange). AreOthers new x) (sym (take_more ranges i d h))
    (range_more left new (take i ranges) (get_or ranges i d) so_far (subst (λ (x : List CodeRange). IsLeft new x (get_or ranges i d)) e more))

-- Twice what is left is the same up to the last code point.

in_or_out : (rs : List CodeRange) (c : ℕ) → InOneOf rs c ⊎ (InOneOf rs c → ⊥)
in_or_out [] c = inr (λ h. h)
in_or_out (r ∷ rs) c = elim (in_or_out rs c) [
  | inl h ↦ inl (inr h)
  | inr out ↦ elim (cases_lt c r.first) [
    | inl low ↦ inr (λ h. elim h [ inl k ↦ (let l = k.0 in absurd (omega arith)) | inr k ↦ out k ])
    | inr from ↦ elim (cases_lt r.last c) [
      | inl high ↦ inr (λ h. elim h [ inl k ↦ (let l = k.1 in absurd (omega arith)) | inr k ↦ out k ])
      | inr to ↦ inl (inl (from, to))
    ]
  ]
]

pub others_of_others : (ranges left slice found : List CodeRange) → slice ≡ left → AreOthers left ranges → AreOthers found slice
    → (c : ℕ) → InOneOf found c ↔ (InOneOf ranges c × (c ≤ 0x10FFFF))
others_of_others ranges left slice found e one two c = (to, from)
  where
    same : AreOthers found left
    same = subst (λ (x : List CodeRange). AreOthers found x) e two

    to : InOneOf found c → InOneOf ranges c × (c ≤ 0x10FFFF)
    to h =
        let (top, out) = (same c).0 h in
        elim (in_or_out ranges c) [ inl k ↦ (k, top) | inr none ↦ absurd (out ((one c).1 (top, none))) ]

    from : InOneOf ranges c × (c ≤ 0x10FFFF) → InOneOf found c
    from (h, top) = (same c).1 (top, λ k. ((one c).0 k).1 h)

-- Sequences of the merged ranges have the words of the ranges.
pub merged_words : (ss : List Sequence) (ranges apart slice : List CodeRange) → slice ≡ apart → ((c : ℕ) → InOneOf apart c ↔ (InOneOf ranges c × (c ≤ 0x10FFFF)))
    → ((w : List ℕ) → FollowsOne ss w ↔ IsEncodingOf (InOneOf slice) w) → (w : List ℕ) → FollowsOne ss w ↔ IsEncodingOf (InOneOf ranges) w
merged_words ss ranges apart slice e same words w = (to, from)
  where
    to : FollowsOne ss w → IsEncodingOf (InOneOf ranges) w
    to h =
        let (c, inside, is, f) = (words w).0 h in
        (c, ((same c).0 (subst (λ (x : List CodeRange). InOneOf x c) e inside)).0, is, f)

    from : IsEncodingOf (InOneOf ranges) w → FollowsOne ss w
    from (c, inside, is, f) = (words w).1 (c, subst (λ (x : List CodeRange). InOneOf x c) (sym e) ((same c).1 (inside, is.0)), is, f)
