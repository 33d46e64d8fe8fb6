-- Sequences that were found so far.
use Rattle.std.proofs.Common.{◌≡◌, ◌↔◌, ℕ, ◌+◌, ◌<◌, ◌≤◌, max, min, List, [], ◌∷◌, ◌++◌, length, get_or, take, ◌⊎◌, inl, inr, sym, subst, arith}
use Rattle.std.specs.List.{AllByRecursion}
use Rattle.std.proofs.lemmas.Bool.{cases_lt}
use Rattle.std.proofs.lemmas.List.{take_more}
use Rattle.lexlook_letters.specs.Cutting.{IsEncodingWithin}
use Rattle.lexlook_letters.specs.Encoding.{InOneOf, IsEncodingOf, LiesWithin, encoding}
use Rattle.lexlook_letters.specs.Sequences.{AddsWords, FollowsOne, HasByteOfEach, IsSoundSequence, byte_ranges}
use Rattle.lexlook_letters.specs.declared.ranges.CodeRange.{CodeRange}
use Rattle.lexlook_letters.specs.declared.sequence.Sequence.{Sequence}

abbrev Words : Type 1
Words = List ℕ → Type 0

-- One sequence more.

one_more : (ss : List Sequence) (s : Sequence) (w : List ℕ) → FollowsOne (ss ++ s ∷ []) w → FollowsOne ss w ⊎ HasByteOfEach (byte_ranges s) w
one_more [] s w (inl h) = inr h
one_more [] s w (inr h) = absurd h
one_more (t ∷ ss) s w (inl h) = inl (inl h)
one_more (t ∷ ss) s w (inr h) = elim (one_more ss s w h) [ inl k ↦ inl (inr k) | inr k ↦ inr k ]

first_ones : (ss : List Sequence) (s : Sequence) (w : List ℕ) → FollowsOne ss w → FollowsOne (ss ++ s ∷ []) w
first_ones [] s w h = absurd h
first_ones (t ∷ ss) s w (inl h) = inl h
first_ones (t ∷ ss) s w (inr h) = inr (first_ones ss s w h)

last_one : (ss : List Sequence) (s : Sequence) (w : List ℕ) → HasByteOfEach (byte_ranges s) w → FollowsOne (ss ++ s ∷ []) w
last_one [] s w h = inl h
last_one (t ∷ ss) s w h = inr (last_one ss s w h)

all_sound : (ss : List Sequence) (s : Sequence) → AllByRecursion IsSoundSequence ss → IsSoundSequence s → AllByRecursion IsSoundSequence (ss ++ s ∷ [])
all_sound [] s h k = (k, tt)
all_sound (t ∷ ss) s h k = (h.0, all_sound ss s h.1 k)

-- Nothing is added.
pub nothing_added : (ss : List Sequence) (P : Words) → ((w : List ℕ) → P w → ⊥) → AddsWords ss ss P
nothing_added ss P none = record { words = λ w. ((λ h. inl h), (λ h. elim h [ inl k ↦ k | inr k ↦ absurd (none w k) ])); sound = λ h. h }

-- One sequence is added.
pub one_added : (before found after : List Sequence) (s : Sequence) (P Q R : Words) → AddsWords before found P → after ≡ found ++ s ∷ []
    → ((w : List ℕ) → HasByteOfEach (byte_ranges s) w ↔ Q w) → IsSoundSequence s → ((w : List ℕ) → R w ↔ (P w ⊎ Q w)) → AddsWords before after R
one_added before found after s P Q R so_far e has order both =
    subst (λ x. AddsWords before x R) (sym e) (record { words = λ w. (to w, from w); sound = λ h. all_sound found s (so_far.sound h) order })
  where
    to : (w : List ℕ) → FollowsOne (found ++ s ∷ []) w → FollowsOne before w ⊎ R w
    to w h = elim (one_more found s w h) [
      | inl k ↦ elim ((so_far.words w).0 k) [ inl l ↦ inl l | inr l ↦ inr ((both w).1 (inl l)) ]
      | inr k ↦ inr ((both w).1 (inr ((has w).0 k)))
    ]

    from : (w : List ℕ) → FollowsOne before w ⊎ R w → FollowsOne (found ++ s ∷ []) w
    from w (inl h) = first_ones found s w ((so_far.words w).1 (inl h))
    from w (inr h) = elim ((both w).0 h) [
      | inl k ↦ first_ones found s w ((so_far.words w).1 (inr k))
      | inr k ↦ last_one found s w ((has w).1 k)
    ]

-- the encodings of the numbers from the first on that are below the next
abbrev pub IsEncodingBelow : ℕ → ℕ → Words
IsEncodingBelow first next w = (c : ℕ) × (first ≤ c) × (c < next) × (w ≡ encoding c)

pub none_below : (first : ℕ) (w : List ℕ) → IsEncodingBelow first first w → ⊥
none_below first w (c, l, m, e) = absurd (omega arith)

-- up to the end of a piece
pub up_to_end : (first next end : ℕ) → first ≤ next → next ≤ end → (w : List ℕ) → IsEncodingBelow first (end + 1) w ↔ (IsEncodingBelow first next w ⊎ IsEncodingWithin next end w)
up_to_end first next end h k w = (to, from)
  where
    cut : (c : ℕ) → c < end + 1 → (c < next) ⊎ ((next ≤ c) × (c ≤ end))
    cut c m = elim (cases_lt c next) [ inl l ↦ inl l | inr l ↦ (let n : c ≤ end = omega arith in inr (l, n)) ]

    to : IsEncodingBelow first (end + 1) w → IsEncodingBelow first next w ⊎ IsEncodingWithin next end w
    to (c, l, m, e) = elim (cut c m) [ inl n ↦ inl (c, l, n, e) | inr n ↦ inr (c, n.0, n.1, e) ]

    from : IsEncodingBelow first next w ⊎ IsEncodingWithin next end w → IsEncodingBelow first (end + 1) w
    from (inl (c, l, m, e)) = (c, l, omega arith, e)
    from (inr (c, l, m, e)) = (c, omega arith, omega arith, e)

-- the same sequences are added under another name for their words
pub named_so : (before after : List Sequence) (P Q : Words) → ((w : List ℕ) → P w ↔ Q w) → AddsWords before after P → AddsWords before after Q
named_so before after P Q same adds = record { words = λ w. (to w, from w); sound = adds.sound }
  where
    to : (w : List ℕ) → FollowsOne after w → FollowsOne before w ⊎ Q w
    to w h = elim ((adds.words w).0 h) [ inl k ↦ inl k | inr k ↦ inr ((same w).0 k) ]

    from : (w : List ℕ) → FollowsOne before w ⊎ Q w → FollowsOne after w
    from w (inl h) = (adds.words w).1 (inl h)
    from w (inr h) = (adds.words w).1 (inr ((same w).1 h))

-- all numbers up to the last were gone over
pub run_over : (first next last : ℕ) → last < next → next ≤ max first (last + 1) → (w : List ℕ) → IsEncodingBelow first next w ↔ IsEncodingWithin first last w
run_over first next last h k w = (to, from)
  where
    to : IsEncodingBelow first next w → IsEncodingWithin first last w
    to (c, l, m, e) = (c, l, omega arith, e)

    from : IsEncodingWithin first last w → IsEncodingBelow first next w
    from (c, l, m, e) = (c, l, omega arith, e)

-- one addition after another
pub added_twice : (before found after : List Sequence) (P Q R : Words) → AddsWords before found P → AddsWords found after Q → ((w : List ℕ) → R w ↔ (P w ⊎ Q w))
    → AddsWords before after R
added_twice before found after P Q R one two both = record { words = λ w. (to w, from w); sound = λ h. two.sound (one.sound h) }
  where
    to : (w : List ℕ) → FollowsOne after w → FollowsOne before w ⊎ R w
    to w h = elim ((two.words w).0 h) [
      | inl k ↦ elim ((one.words w).0 k) [ inl l ↦ inl l | inr l ↦ inr ((both w).1 (inl l)) ]
      | inr k ↦ inr ((both w).1 (inr k))
    ]

    from : (w : List ℕ) → FollowsOne before w ⊎ R w → FollowsOne after w
    from w (inl h) = (two.words w).1 (inl ((one.words w).1 (inl h)))
    from w (inr h) = elim ((both w).0 h) [
      | inl k ↦ (two.words w).1 (inl ((one.words w).1 (inr k)))
      | inr k ↦ (two.words w).1 (inr k)
    ]

-- the code points of a range that have an encoding stand before the surrogates or after them
pub round_surrogates : (r : CodeRange) (w : List ℕ)
    → IsEncodingOf (LiesWithin r) w ↔ (IsEncodingWithin r.first (min r.last 0xD7FF) w ⊎ IsEncodingWithin (max r.first 0xE000) (min r.last 0x10FFFF) w)
round_surrogates r w = (to, from)
  where
    to : IsEncodingOf (LiesWithin r) w → IsEncodingWithin r.first (min r.last 0xD7FF) w ⊎ IsEncodingWithin (max r.first 0xE000) (min r.last 0x10FFFF) w
    to (c, (l, m), (top, inl below), e) = inl (c, l, omega arith, e)
    to (c, (l, m), (top, inr above), e) = inr (c, omega arith, omega arith, e)

    from : IsEncodingWithin r.first (min r.last 0xD7FF) w ⊎ IsEncodingWithin (max r.first 0xE000) (min r.last 0x10FFFF) w → IsEncodingOf (LiesWithin r) w
    from (inl (c, l, m, e)) = (c, (l, omega arith), (omega arith, inl (omega arith)), e)
    from (inr (c, l, m, e)) = (c, (omega arith, omega arith), (omega arith, inr (omega arith)), e)

-- Ranges that were gone over.

pub no_ranges : (w : List ℕ) → IsEncodingOf (InOneOf []) w → ⊥
no_ranges w (c, inside, is, e) = inside

pub in_more : (rs : List CodeRange) (r : CodeRange) (c : ℕ) → InOneOf (rs ++ r ∷ []) c → InOneOf rs c ⊎ LiesWithin r c
in_more [] r c (inl h) = inr h
in_more [] r c (inr h) = absurd h
in_more (s ∷ rs) r c (inl h) = inl (inl h)
in_more (s ∷ rs) r c (inr h) = elim (in_more rs r c h) [ inl k ↦ inl (inr k) | inr k ↦ inr k ]

pub in_first : (rs : List CodeRange) (r : CodeRange) (c : ℕ) → InOneOf rs c → InOneOf (rs ++ r ∷ []) c
in_first [] r c h = absurd h
in_first (s ∷ rs) r c (inl h) = inl h
in_first (s ∷ rs) r c (inr h) = inr (in_first rs r c h)

pub in_last : (rs : List CodeRange) (r : CodeRange) (c : ℕ) → LiesWithin r c → InOneOf (rs ++ r ∷ []) c
in_last [] r c h = inl h
in_last (s ∷ rs) r c h = inr (in_last rs r c h)

pub one_range_more : (rs : List CodeRange) (r : CodeRange) (w : List ℕ) → IsEncodingOf (InOneOf (rs ++ r ∷ [])) w ↔ (IsEncodingOf (InOneOf rs) w ⊎ IsEncodingOf (LiesWithin r) w)
one_range_more rs r w = (to, from)
  where
    to : IsEncodingOf (InOneOf (rs ++ r ∷ [])) w → IsEncodingOf (InOneOf rs) w ⊎ IsEncodingOf (LiesWithin r) w
    to (c, inside, is, e) = elim (in_more rs r c inside) [ inl h ↦ inl (c, h, is, e) | inr h ↦ inr (c, h, is, e) ]

    from : IsEncodingOf (InOneOf rs) w ⊎ IsEncodingOf (LiesWithin r) w → IsEncodingOf (InOneOf (rs ++ r ∷ [])) w
    from (inl (c, h, is, e)) = (c, in_first rs r c h, is, e)
    from (inr (c, h, is, e)) = (c, in_last rs r c h, is, e)

-- what was added to nothing is all
pub from_nothing : (after : List Sequence) (P : Words) → AddsWords [] after P → (w : List ℕ) → FollowsOne after w ↔ P w
from_nothing after P adds w = (to, from)
  where
    to : FollowsOne after w → P w
    to h = elim ((adds.words w).0 h) [ inl k ↦ absurd k | inr k ↦ k ]

    from : P w → FollowsOne after w
    from h = (adds.words w).1 (inr h)

-- a range more of a list
pub range_step : (found after : List Sequence) (rs : List CodeRange) (i : ℕ) (d : CodeRange) → i < length rs
    → AddsWords [] found (IsEncodingOf (InOneOf (take i rs))) → AddsWords found after (IsEncodingOf (LiesWithin (get_or rs i d)))
    → AddsWords [] after (IsEncodingOf (InOneOf (take (i + 1) rs)))
range_step found after rs i d h so_far more =
    subst (λ (x : List CodeRange). AddsWords [] after (IsEncodingOf (InOneOf x))) (sym (take_more rs i d h))
    (added_twice [] found after _ _ _ so_far more (one_range_more (take i rs) (get_or rs i d)))

-- a range, before the surrogates and after them
pub range_added : (before found after : List Sequence) (r : CodeRange) (a b c : ℕ) → a ≡ min r.last 0xD7FF → b ≡ max r.first 0xE000 → c ≡ min r.last 0x10FFFF
    → AddsWords before found (IsEncodingWithin r.first a) → AddsWords found after (IsEncodingWithin b c) → AddsWords before after (IsEncodingOf (LiesWithin r))
range_added before found after r a b c e f g one two =
    added_twice before found after _ _ _ one two (λ w. rw (e, f, g) (round_surrogates r w))
