-- The worked examples of positions and subsets.
use Rattle.std.proofs.Common.{◌≡◌, ℕ, zero, suc, ◌+◌, ◌<◌, ◌≤◌, Bool, false, List, [], ◌∷◌, ◌++◌, map, length, ◌⊎◌, inl, inr, ◌↔◌, Some, refl, sym, ◌∙◌, ap, subst, arith}
use Rattle.std.specs.Prelude.{codes, slice_get, ◌≢◌}
use Rattle.lex_semantics.proofs.Cuts.{same_rule}
use Rattle.lex_semantics.proofs.ExampleWords.{is_a}
use Rattle.lex_semantics.specs.Examples.{string, rule}
use Rattle.lex_semantics.specs.Positions.{MarkedByte, Reads}
use Rattle.lex_semantics.specs.Spec.{Rule, Echo}
use Rattle.lex_semantics.specs.Subsets.{ReadsRule, ReadsActive, IsLast, ListsSet, IsActive}
use Rattle.lex_semantics.specs.Text.{IsText, Among, Pairwise}
use Rattle.lexauto_positions.specs.PositionExamples.{two_as, CountsPositions, ReadsBytes, CountsSubsets}

pub counts_positions : CountsPositions
counts_positions = record { of_rule = refl; of_choice = refl; of_star = refl; of_most = refl; of_least = refl; of_any = refl }

-- the reading of `aa`

reads_aa : (base : ℕ) → Reads (string (codes "aa")) base ((97, base) ∷ (97, base + 1) ∷ [])
reads_aa base = ((97, base) ∷ [], (97, base + 1) ∷ [], refl, (97, refl, is_a.0), ((97, base + 1) ∷ [], [], refl, (97, refl, is_a.0), refl))

only_aa : (base : ℕ) (rs : List MarkedByte) → Reads (string (codes "aa")) base rs → rs ≡ (97, base) ∷ (97, base + 1) ∷ []
only_aa base rs (us, vs, e, (b, first, is), (us', vs', e', (b', second, is'), end)) =
    let u : us ≡ (97, base) ∷ [] = first ∙ ap (λ z. (z, base) ∷ []) (is_a.1 b is) in
    let u' : us' ≡ (97, base + 1) ∷ [] = second ∙ ap (λ z. (z, base + 1) ∷ []) (is_a.1 b' is') in
    let v : vs ≡ (97, base + 1) ∷ [] = e' ∙ ap (λ z. z ++ vs') u' ∙ ap (λ z. (97, base + 1) ∷ z) end in
    e ∙ ap (λ z. z ++ vs) u ∙ ap (λ z. (97, base) ∷ z) v

place_of : List MarkedByte → ℕ
place_of (a ∷ b ∷ cs) = b.1
place_of cs = 0

pub reads_bytes : ReadsBytes
unfolding place_of
reads_bytes = record {
  string_read = reads_aa 4;
  same_place = λ h. (let n : 4 ≡ 5 = ap place_of (only_aa 4 ((97, 4) ∷ (97, 4) ∷ []) h) in omega (arith, n));
  star_read = (2, ((97, 0) ∷ [], (97, 0) ∷ [], refl, (97, refl, is_a.0), ((97, 0) ∷ [], [], refl, (97, refl, is_a.0), refl)));
  copies_read = (
    3,
    omega arith,
    tt,
    ((97, 0) ∷ [], (97, 1) ∷ (97, 1) ∷ [], refl, (97, refl, is_a.0), ((97, 1) ∷ [], (97, 1) ∷ [], refl, (97, refl, is_a.0), ((97, 1) ∷ [], [], refl, (97, refl, is_a.0), refl))),
  );
}

-- the readings of the rule

aa_rule : Rule
aa_rule = rule (string (codes "aa")) (Echo ∷ [])

no_more_rules : (i : ℕ) (r : Rule) → slice_get {X = Rule} [] i ≡ Some r → ⊥
no_more_rules zero r e = cc
no_more_rules (suc i) r e = cc

whole_reads : (line_start : Bool) → ReadsActive two_as 0 line_start ((97, 0) ∷ (97, 1) ∷ [])
whole_reads line_start = (0, _, refl, refl, ((97, 0) ∷ (97, 1) ∷ [], [], refl, (reads_aa 0, λ e. cc), refl))

from_rule : (r : Rule) (rs : List MarkedByte) → r ≡ aa_rule → ReadsRule r 0 rs → rs ≡ (97, 0) ∷ (97, 1) ∷ []
unfolding aa_rule
from_rule r rs same h = go (subst (λ q. ReadsRule q 0 rs) same h)
  where
    go : ReadsRule aa_rule 0 rs → rs ≡ (97, 0) ∷ (97, 1) ∷ []
    go (us, vs, e, (reads, some), none) = e ∙ ap (λ z. z ++ vs) (only_aa 0 us reads) ∙ ap (λ z. (97, 0) ∷ (97, 1) ∷ z) none

only_whole : (c : ℕ) (line_start : Bool) (rs : List MarkedByte) → ReadsActive two_as c line_start rs → rs ≡ (97, 0) ∷ (97, 1) ∷ []
unfolding aa_rule
only_whole c line_start rs (zero, r, at, on, reads) = from_rule r rs (same_rule two_as 0 r aa_rule at refl) reads
only_whole c line_start rs (suc i, r, at, on, reads) = absurd (no_more_rules i r at)

-- where a byte is read last

last_from : (w : List ℕ) (p : ℕ) (rs zs : List MarkedByte) (b : ℕ) → map (λ (c : MarkedByte). c.0) rs ++ b ∷ [] ≡ w → rs ++ (b, p) ∷ zs ≡ (97, 0) ∷ (97, 1) ∷ []
    → ((w ≡ codes "a") × (p ≡ 0)) ⊎ ((w ≡ codes "aa") × (p ≡ 1))
last_from w p [] zs b e all =
    let here : ◌≡◌ {A = MarkedByte} (b, p) (97, 0) = cc in
    inl (sym e ∙ ap (λ (c : MarkedByte). c.0 ∷ []) here, ap (λ (c : MarkedByte). c.1) here)
last_from w p (x ∷ []) zs b e all =
    let first : ◌≡◌ {A = MarkedByte} x (97, 0) = cc in
    let here : ◌≡◌ {A = MarkedByte} (b, p) (97, 1) = cc in
    inr (sym e ∙ ap (λ (c : MarkedByte). c.0 ∷ b ∷ []) first ∙ ap (λ (c : MarkedByte). 97 ∷ c.0 ∷ []) here, ap (λ (c : MarkedByte). c.1) here)
last_from w p (x ∷ y ∷ []) zs b e all = cc
last_from w p (x ∷ y ∷ z ∷ rs) zs b e all = cc

last_is : (c : ℕ) (line_start : Bool) (w : List ℕ) (p : ℕ) → IsLast (ReadsActive two_as c line_start) w p → ((w ≡ codes "a") × (p ≡ 0)) ⊎ ((w ≡ codes "aa") × (p ≡ 1))
last_is c line_start w p (rs, zs, b, e, reads) = last_from w p rs zs b e (only_whole c line_start (rs ++ (b, p) ∷ zs) reads)

last_of_a : (line_start : Bool) → IsLast (ReadsActive two_as 0 line_start) (codes "a") 0
last_of_a line_start = ([], (97, 1) ∷ [], 97, refl, whole_reads line_start)

last_of_aa : (line_start : Bool) → IsLast (ReadsActive two_as 0 line_start) (codes "aa") 1
last_of_aa line_start = ((97, 0) ∷ [], [], 97, refl, whole_reads line_start)

one_or_two : codes "a" ≡ codes "aa" → ⊥
one_or_two e = let n : 1 ≡ 2 = ap length e in omega (arith, n)

a_only : (c : ℕ) (line_start : Bool) (w : List ℕ) (p : ℕ) → w ≡ codes "a" → IsLast (ReadsActive two_as c line_start) w p → p ≡ 0
a_only c line_start w p e h = from (last_is c line_start w p h)
  where
    from : ((w ≡ codes "a") × (p ≡ 0)) ⊎ ((w ≡ codes "aa") × (p ≡ 1)) → p ≡ 0
    from (inl k) = k.1
    from (inr k) = absurd (one_or_two (sym e ∙ k.0))

aa_only : (c : ℕ) (line_start : Bool) (w : List ℕ) (p : ℕ) → w ≡ codes "aa" → IsLast (ReadsActive two_as c line_start) w p → p ≡ 1
aa_only c line_start w p e h = from (last_is c line_start w p h)
  where
    from : ((w ≡ codes "a") × (p ≡ 0)) ⊎ ((w ≡ codes "aa") × (p ≡ 1)) → p ≡ 1
    from (inl k) = absurd (one_or_two (sym k.0 ∙ e))
    from (inr k) = k.1

-- lists of one member

all_are : (l : List ℕ) (n : ℕ) → Pairwise ◌<◌ l → ((i : ℕ) → Among l i → i ≡ n) → 1 ≤ length l → l ≡ n ∷ []
all_are [] n ordered all some = absurd (omega (arith, some))
all_are (x ∷ []) n ordered all some = ap (λ z. z ∷ []) (all x (inl refl))
all_are (x ∷ y ∷ l) n ordered all some =
    let less : x < y = ordered.0 y (inl refl) in
    absurd (omega (arith, less, all x (inl refl), all y (inr (inl refl))))

lists_one : (n : ℕ) (P : ℕ → Type 0) → P n → ((i : ℕ) → P i → i ≡ n) → ListsSet (n ∷ []) P
lists_one n P h only = ((λ y k. absurd k, tt), λ i. (to i, λ k. inl (only i k)))
  where
    to : (i : ℕ) → Among (n ∷ []) i → P i
    to i (inl e) = subst P (sym e) h
    to i (inr k) = absurd k

first_only : (c : ℕ) (line_start : Bool) (i : ℕ) → IsActive two_as c line_start i → i ≡ 0
first_only c line_start zero h = refl
first_only c line_start (suc i) (r, at, on) = absurd (no_more_rules i r at)

abbrev IsStart : List ℕ → Type 0
IsStart l = (c : ℕ) × (line_start : Bool) × (c < 1) × ListsSet l (IsActive two_as c line_start)

abbrev IsLasts : List ℕ → Type 0
IsLasts l = (c : ℕ) × (line_start : Bool) × (w : List ℕ) × (c < 1) × IsText w × (1 ≤ length w) × ListsSet l (IsLast (ReadsActive two_as c line_start) w)

a_start : IsStart (0 ∷ [])
a_start = (0, false, omega arith, lists_one 0 (IsActive two_as 0 false) (_, refl, refl) (first_only 0 false))

a_lasts : IsLasts (0 ∷ [])
a_lasts = (0, false, codes "a", omega arith, (omega arith, tt), omega arith, lists_one 0 (IsLast (ReadsActive two_as 0 false) (codes "a")) (last_of_a false) (λ i h. a_only 0 false (codes "a") i refl h))

aa_lasts : IsLasts (1 ∷ [])
aa_lasts = (
  0,
  false,
  codes "aa",
  omega arith,
  (omega arith, (omega arith, tt)),
  omega arith,
  lists_one 1 (IsLast (ReadsActive two_as 0 false) (codes "aa")) (last_of_aa false) (λ i h. aa_only 0 false (codes "aa") i refl h),
)

starts_are : (l : List ℕ) → Among ((0 ∷ []) ∷ []) l ↔ ((1 ≤ length l) × IsStart l)
starts_are l = (to, from)
  where
    to : Among ((0 ∷ []) ∷ []) l → (1 ≤ length l) × IsStart l
    to (inl e) = subst (λ z. (1 ≤ length z) × IsStart z) (sym e) (omega arith, a_start)
    to (inr h) = absurd h

    from : (1 ≤ length l) × IsStart l → Among ((0 ∷ []) ∷ []) l
    from (some, (c, line_start, lt, (ordered, members))) = inl (all_are l 0 ordered (λ i h. first_only c line_start i ((members i).0 h)) some)

lasts_are : (l : List ℕ) → Among ((0 ∷ []) ∷ (1 ∷ []) ∷ []) l ↔ ((1 ≤ length l) × IsLasts l)
lasts_are l = (to, λ h. from l h.0 h.1)
  where
    to : Among ((0 ∷ []) ∷ (1 ∷ []) ∷ []) l → (1 ≤ length l) × IsLasts l
    to (inl e) = subst (λ z. (1 ≤ length z) × IsLasts z) (sym e) (omega arith, a_lasts)
    to (inr (inl e)) = subst (λ z. (1 ≤ length z) × IsLasts z) (sym e) (omega arith, aa_lasts)
    to (inr (inr h)) = absurd h

    from : (l : List ℕ) → 1 ≤ length l → IsLasts l → Among ((0 ∷ []) ∷ (1 ∷ []) ∷ []) l
    from [] some h = absurd (omega (arith, some))
    from (x ∷ l) some (c, line_start, w, lt, text, long, (ordered, members)) = by (last_is c line_start w x ((members x).0 (inl refl)))
      where
        by : ((w ≡ codes "a") × (x ≡ 0)) ⊎ ((w ≡ codes "aa") × (x ≡ 1)) → Among ((0 ∷ []) ∷ (1 ∷ []) ∷ []) (x ∷ l)
        by (inl k) = inl (all_are (x ∷ l) 0 ordered (λ i h. a_only c line_start w i k.0 ((members i).0 h)) some)
        by (inr k) = inr (inl (all_are (x ∷ l) 1 ordered (λ i h. aa_only c line_start w i k.0 ((members i).0 h)) some))

differ : ◌≡◌ {A = List ℕ} (0 ∷ []) (1 ∷ []) → ⊥
differ e = let n : ◌≡◌ {A = ℕ} 0 1 = cc in omega (arith, n)

apart : (y : List ℕ) → Among ((1 ∷ []) ∷ []) y → ◌≢◌ {A = List ℕ} (0 ∷ []) y
apart y (inl e) same = differ (same ∙ e)
apart y (inr h) same = absurd h

other_place : IsLast (ReadsActive two_as 0 false) (codes "a") 1 → ⊥
other_place h = let n : 1 ≡ 0 = a_only 0 false (codes "a") 1 refl h in omega (arith, n)

second : List ℕ → ℕ
second (a ∷ b ∷ w) = b
second w = 0

other_word : IsLast (ReadsActive two_as 0 false) (codes "ab") 1 → ⊥
unfolding second
other_word h = from (last_is 0 false (codes "ab") 1 h)
  where
    from : ((codes "ab" ≡ codes "a") × ◌≡◌ {A = ℕ} 1 0) ⊎ ((codes "ab" ≡ codes "aa") × ◌≡◌ {A = ℕ} 1 1) → ⊥
    from (inl k) = omega (arith, k.1)
    from (inr k) = let n : 98 ≡ 97 = ap second k.0 in omega (arith, n)

pub counts_subsets : CountsSubsets
counts_subsets = record {
  last_of_one = last_of_a false;
  last_of_two = last_of_aa false;
  other_place = other_place;
  other_word = other_word;
  four = record {
    starts = (0 ∷ []) ∷ [];
    lasts = (0 ∷ []) ∷ (1 ∷ []) ∷ [];
    are_starts = record { distinct = (λ y h. absurd h, tt); listed = starts_are };
    are_lasts = record { distinct = (apart, (λ y h. absurd h, tt)); listed = lasts_are };
    total = refl;
  };
}
