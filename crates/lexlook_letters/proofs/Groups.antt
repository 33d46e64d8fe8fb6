-- Sequences at the front that are one branch, and the branches behind them.
use Rattle.std.proofs.Common.{◌≡◌, ℕ, zero, suc, ◌+◌, ◌<◌, ◌≤◌, Bool, true, false, if◌then◌else◌, ◌==◌, Option, Some, None, List, [], ◌∷◌, map, length, take, drop, refl, sym, ap, ◌∙◌, subst, arith}
use Rattle.std.proofs.lemmas.Bool.{and_parts, eqb-true}
use Rattle.std.proofs.lemmas.List.{take_all}
use Rattle.std.specs.List.{AllByRecursion}
use Rattle.lexlook_letters.specs.Sequences.{byte_ranges, bytes_between, last_range}
use Rattle.lexlook_letters.specs.Text.{Branches, none, last, through, Reaches, alike, branches_at, going_through, no_branch, is_one, join, joined, same_range, with_ranges}
use Rattle.lexlook_letters.specs.declared.sequence.ByteRange.{ByteRange}
use Rattle.lexlook_letters.specs.declared.sequence.Sequence.{Sequence}
use Rattle.lexlook_letters.specs.declared.sequence.Sequence.TheVariants.{One, Two, Three, Four}

-- some branches, and others behind them
abbrev pub followed_by : Branches → Branches → Branches
followed_by none cs = cs
followed_by (last r rs bs) cs = last r rs (followed_by bs cs)
followed_by (through r inner bs) cs = through r inner (followed_by bs cs)

abbrev Row : Type 0
Row = List ByteRange

abbrev row : ℕ → Sequence → Row
row at s = drop at (byte_ranges s)

abbrev AllReach : ℕ → List Sequence → Type 0
AllReach at ss = AllByRecursion (Reaches at) ss

pub range_is : (a b : ByteRange) → same_range a b ≡ true → a ≡ b
range_is a b h =
    let both = and_parts (a.first == b.first) (a.last == b.last) h in
    ap (λ x. bytes_between x a.last) (eqb-true a.first b.first both.0) ∙ ap (λ x. bytes_between b.first x) (eqb-true a.last b.last both.1)

-- Rows.

some_row : (at : ℕ) (rs : Row) → at < length rs → (r : ByteRange) × (more : Row) × (drop at rs ≡ r ∷ more) × (drop (suc at) rs ≡ more)
some_row at [] h = absurd (omega (arith, h))
some_row zero (r ∷ rs) h = (r, rs, refl, refl)
some_row (suc at) (r ∷ rs) h = some_row at rs (omega (arith, h))

longer : (at : ℕ) (rs : Row) (r s : ByteRange) (more : Row) → drop at rs ≡ r ∷ s ∷ more → at + 1 < length rs
longer zero [] r s more h = absurd cc
longer (suc at) [] r s more h = absurd cc
longer zero (q ∷ []) r s more h = absurd cc
longer zero (q ∷ p ∷ rs) r s more h = omega arith
longer (suc at) (q ∷ rs) r s more h = let k = longer at rs r s more h in omega (arith, k)

abbrev last_of : ByteRange → Row → ByteRange
last_of r [] = r
last_of r (s ∷ rs) = last_of s rs

last_is : (at : ℕ) (q : ByteRange) (rs : Row) (r : ByteRange) → drop at (q ∷ rs) ≡ r ∷ [] → last_of q rs ≡ r
last_is zero q [] r h = cc
last_is zero q (p ∷ rs) r h = cc
last_is (suc zero) q [] r h = cc
last_is (suc (suc at)) q [] r h = cc
last_is (suc at) q (p ∷ rs) r h = last_is at p rs r h

pub last_range_is : (at : ℕ) (s : Sequence) (r : ByteRange) → row at s ≡ r ∷ [] → last_range s ≡ r
last_range_is at (One a) r h = last_is at a [] r h
last_range_is at (Two a b) r h = last_is at a (b ∷ []) r h
last_range_is at (Three a b c) r h = last_is at a (b ∷ c ∷ []) r h
last_range_is at (Four a b c d) r h = last_is at a (b ∷ c ∷ d ∷ []) r h

-- Ranges before branches.

pub some_branch : (r : ByteRange) (rs : Row) (bs : Branches) → no_branch (with_ranges (r ∷ rs) bs) ≡ false
some_branch r [] none = refl
some_branch r [] (last q qs bs) = refl
some_branch r [] (through q inner bs) = refl
some_branch r (s ∷ rs) none = refl
some_branch r (s ∷ rs) (last q qs bs) = refl
some_branch r (s ∷ rs) (through q inner bs) = go (same_range r q)
  where
    go : (b : Bool) → no_branch (if b then through r (with_ranges (s ∷ rs) inner) bs else through r (with_ranges (s ∷ rs) none) (through q inner bs)) ≡ false
    go true = refl
    go false = refl

-- whether ranges join the first branch
abbrev joins : Row → Branches → Bool
joins [] bs = false
joins (r ∷ []) (last q qs bs) = true
joins (r ∷ s ∷ rs) (through q inner bs) = same_range r q
joins rs bs = false

apart : (r : ByteRange) (rs : Row) (bs : Branches) → joins (r ∷ rs) bs ≡ false
    → (is_one (with_ranges (r ∷ rs) none) ≡ true) × (with_ranges (r ∷ rs) bs ≡ followed_by (with_ranges (r ∷ rs) none) bs)
apart r [] none h = (refl, refl)
apart r [] (last q qs bs) h = cc
apart r [] (through q inner bs) h = (refl, refl)
apart r (s ∷ rs) none h = (refl, refl)
apart r (s ∷ rs) (last q qs bs) h = (refl, refl)
apart r (s ∷ rs) (through q inner bs) h = (refl, rw h refl)

together : (r : ByteRange) (rs : Row) (bs cs : Branches) → joins (r ∷ rs) bs ≡ true
    → (is_one (with_ranges (r ∷ rs) bs) ≡ is_one bs) × (with_ranges (r ∷ rs) (followed_by bs cs) ≡ followed_by (with_ranges (r ∷ rs) bs) cs)
together r [] none cs h = cc
together r [] (last q qs bs) cs h = (refl, refl)
together r [] (through q inner bs) cs h = cc
together r (s ∷ rs) none cs h = cc
together r (s ∷ rs) (last q qs bs) cs h = cc
together r (s ∷ rs) (through q inner bs) cs h = (rw h refl, rw h refl)

-- ranges join the branch that begins with other ones as the first of them are alike
joins_as : (rs : Row) (q : ByteRange) (qs : Row) (bs : Branches) (r : ByteRange) → joins (r ∷ rs) (with_ranges (q ∷ qs) bs) ≡ alike (going_through (r ∷ rs)) (going_through (q ∷ qs))
joins_as [] q [] none r = refl
joins_as [] q [] (last p ps bs) r = refl
joins_as [] q [] (through p inner bs) r = refl
joins_as (s ∷ rs) q [] none r = refl
joins_as (s ∷ rs) q [] (last p ps bs) r = refl
joins_as (s ∷ rs) q [] (through p inner bs) r = refl
joins_as [] q (p ∷ qs) none r = refl
joins_as [] q (p ∷ qs) (last o os bs) r = refl
joins_as [] q (p ∷ qs) (through o inner bs) r = go (same_range q o)
  where
    go : (b : Bool) → joins (r ∷ []) (if b then through q (with_ranges (p ∷ qs) inner) bs else through q (with_ranges (p ∷ qs) none) (through o inner bs)) ≡ false
    go true = refl
    go false = refl
joins_as (s ∷ rs) q (p ∷ qs) none r = refl
joins_as (s ∷ rs) q (p ∷ qs) (last o os bs) r = refl
joins_as (s ∷ rs) q (p ∷ qs) (through o inner bs) r = go (same_range q o)
  where
    go : (b : Bool) → joins (r ∷ s ∷ rs) (if b then through q (with_ranges (p ∷ qs) inner) bs else through q (with_ranges (p ∷ qs) none) (through o inner bs)) ≡ same_range r q
    go true = refl
    go false = refl

joins_next : (at : ℕ) (s t : Sequence) (bs : Branches) → Reaches at s → Reaches at t → joins (row at s) (with_ranges (row at t) bs) ≡ join at s t
joins_next at s t bs h k =
    let (r, rs, e, _) = some_row at (byte_ranges s) h in
    let (q, qs, f, _) = some_row at (byte_ranges t) k in
    rw (e, f) (joins_as rs q qs bs r)

-- A run, and what follows it.

abbrev run : ℕ → Sequence → List Sequence → Branches
run at s ss = branches_at at (take (suc (joined at s ss)) (s ∷ ss))

abbrev behind : ℕ → Sequence → List Sequence → Branches
behind at s ss = branches_at at (drop (suc (joined at s ss)) (s ∷ ss))

-- the branches of sequences are that of the run, and those of what follows it
pub record IsCut (at : ℕ) (s : Sequence) (ss : List Sequence) : Type 0 where
  pub one : is_one (run at s ss) ≡ true
  pub cut : branches_at at (s ∷ ss) ≡ followed_by (run at s ss) (behind at s ss)

step : (at : ℕ) (s : Sequence) (bs : Branches) → Reaches at s → joins (row at s) bs ≡ false
    → (is_one (with_ranges (row at s) none) ≡ true) × (with_ranges (row at s) bs ≡ followed_by (with_ranges (row at s) none) bs)
step at s bs h = let (r, rs, e, _) = some_row at (byte_ranges s) h in rw e (apart r rs bs)

joined_step : (at : ℕ) (s : Sequence) (bs cs : Branches) → Reaches at s → joins (row at s) bs ≡ true
    → (is_one (with_ranges (row at s) bs) ≡ is_one bs) × (with_ranges (row at s) (followed_by bs cs) ≡ followed_by (with_ranges (row at s) bs) cs)
joined_step at s bs cs h = let (r, rs, e, _) = some_row at (byte_ranges s) h in rw e (together r rs bs cs)

no_joins : (at : ℕ) (s : Sequence) → joins (row at s) none ≡ false
no_joins at s = go (row at s)
  where
    go : (rs : Row) → joins rs none ≡ false
    go [] = refl
    go (r ∷ []) = refl
    go (r ∷ q ∷ rs) = refl

-- where it is known how many are joined
abbrev run_of : ℕ → Sequence → List Sequence → ℕ → Branches
run_of at s ss n = branches_at at (take (suc n) (s ∷ ss))

abbrev behind_of : ℕ → Sequence → List Sequence → ℕ → Branches
behind_of at s ss n = branches_at at (drop (suc n) (s ∷ ss))

abbrev CutAt : ℕ → Sequence → List Sequence → ℕ → Type 0
CutAt at s ss n = (is_one (run_of at s ss n) ≡ true) × (branches_at at (s ∷ ss) ≡ followed_by (run_of at s ss n) (behind_of at s ss n))

cut_here : (at : ℕ) (s t : Sequence) (ts : List Sequence) → AllReach at (s ∷ t ∷ ts) → join at s t ≡ false → CutAt at s (t ∷ ts) 0
cut_here at s t ts reach e = step at s (branches_at at (t ∷ ts)) reach.0 (joins_next at s t (branches_at at ts) reach.0 reach.1.0 ∙ e)

cut_later : (at : ℕ) (s t : Sequence) (ts : List Sequence) (n : ℕ) → AllReach at (s ∷ t ∷ ts) → join at s t ≡ true → CutAt at t ts n → CutAt at s (t ∷ ts) (suc n)
cut_later at s t ts n reach e after =
    let head = joins_next at s t (branches_at at (take n ts)) reach.0 reach.1.0 ∙ e in
    let both = joined_step at s (run_of at t ts n) (behind_of at t ts n) reach.0 head in
    (both.0 ∙ after.0, ap (with_ranges (row at s)) after.1 ∙ both.1)

cut_either : (at : ℕ) (s t : Sequence) (ts : List Sequence) (n : ℕ) (b : Bool) → AllReach at (s ∷ t ∷ ts) → join at s t ≡ b → CutAt at t ts n
    → CutAt at s (t ∷ ts) (if b then 1 + n else 0)
cut_either at s t ts n false reach e after = cut_here at s t ts reach e
cut_either at s t ts n true reach e after =
    let same : suc n ≡ 1 + n = omega arith in
    subst (λ (k : ℕ). CutAt at s (t ∷ ts) k) same (cut_later at s t ts n reach e after)

cut_at : (at : ℕ) (s : Sequence) (ss : List Sequence) → AllReach at (s ∷ ss) → CutAt at s ss (joined at s ss)
cut_at at s [] reach = step at s none reach.0 (no_joins at s)
cut_at at s (t ∷ ts) reach = cut_either at s t ts (joined at t ts) (join at s t) reach refl (cut_at at t ts reach.1)

pub is_cut : (at : ℕ) (s : Sequence) (ss : List Sequence) → AllReach at (s ∷ ss) → IsCut at s ss
is_cut at s ss reach = let both = cut_at at s ss reach in record { one = both.0; cut = both.1 }

few_or : (b : Bool) (n m : ℕ) → n ≤ m → (if b then 1 + n else 0) ≤ suc m
few_or true n m h = omega (arith, h)
few_or false n m h = omega arith

pub few_joined : (at : ℕ) (s : Sequence) (ss : List Sequence) → joined at s ss ≤ length ss
few_joined at s [] = omega arith
few_joined at s (t ∷ ts) = few_or (join at s t) (joined at t ts) (length ts) (few_joined at t ts)

-- Branches that are one.

one_followed : (bs cs : Branches) → is_one bs ≡ true → is_one (followed_by bs cs) ≡ no_branch cs
one_followed none cs h = cc
one_followed (last r rs none) cs h = refl
one_followed (last r rs (last q qs bs)) cs h = cc
one_followed (last r rs (through q inner bs)) cs h = cc
one_followed (through r inner none) cs h = refl
one_followed (through r inner (last q qs bs)) cs h = cc
one_followed (through r inner (through q other bs)) cs h = cc

pub not_none : (at : ℕ) (s : Sequence) (ss : List Sequence) → Reaches at s → no_branch (branches_at at (s ∷ ss)) ≡ false
not_none at s ss h = let (r, rs, e, _) = some_row at (byte_ranges s) h in rw e (some_branch r rs (branches_at at ss))

must_join : (at : ℕ) (s t : Sequence) (ts : List Sequence) → AllReach at (s ∷ t ∷ ts) → is_one (branches_at at (s ∷ t ∷ ts)) ≡ true
    → (join at s t ≡ true) × (is_one (branches_at at (t ∷ ts)) ≡ true)
must_join at s t ts reach one = go (join at s t) refl
  where
    head : joins (row at s) (branches_at at (t ∷ ts)) ≡ join at s t
    head = joins_next at s t (branches_at at ts) reach.0 reach.1.0

    go : (b : Bool) → join at s t ≡ b → (join at s t ≡ true) × (is_one (branches_at at (t ∷ ts)) ≡ true)
    go true e = (e, sym (joined_step at s (branches_at at (t ∷ ts)) none reach.0 (head ∙ e)).0 ∙ one)
    go false e =
        let both = step at s (branches_at at (t ∷ ts)) reach.0 (head ∙ e) in
        let f : is_one (branches_at at (s ∷ t ∷ ts)) ≡ false =
        ap is_one both.1 ∙ one_followed (with_ranges (row at s) none) (branches_at at (t ∷ ts)) both.0 ∙ not_none at t ts reach.1.0 in
        absurd (absurd_of (sym one ∙ f))
      where
        absurd_of : true ≡ false → ⊥
        absurd_of h = cc

-- The run begins with a range that others follow.

same_some : (r : ByteRange) (o : Option ByteRange) → alike (Some r) o ≡ true → (q : ByteRange) × (o ≡ Some q) × (same_range r q ≡ true)
same_some r None h = cc
same_some r (Some q) h = (q, refl, h)

abbrev GoesThrough : Row → ByteRange → Type 0
GoesThrough rs r = (s : ByteRange) × (more : Row) × (rs ≡ r ∷ s ∷ more)

goes_through : (rs : Row) (r : ByteRange) → going_through rs ≡ Some r → GoesThrough rs r
goes_through [] r h = cc
goes_through (q ∷ []) r h = cc
goes_through (q ∷ s ∷ rs) r h = (s, rs, cc)

row_behind : (at : ℕ) (s : Sequence) (r : ByteRange) (more : Row) → row at s ≡ r ∷ more → row (at + 1) s ≡ more
row_behind at s r more h = next at (byte_ranges s) h
  where
    next : (n : ℕ) (rs : Row) → drop n rs ≡ r ∷ more → drop (n + 1) rs ≡ more
    next n rs e = let same : n + 1 ≡ suc n = omega arith in ap (λ k. drop k rs) same ∙ go n rs e
      where
        go : (n : ℕ) (rs : Row) → drop n rs ≡ r ∷ more → drop (suc n) rs ≡ more
        go zero [] e = cc
        go zero (q ∷ rs) e = cc
        go (suc n) [] e = cc
        go (suc n) (q ∷ rs) e = go n rs e

pub record IsThrough (at : ℕ) (r : ByteRange) (ss : List Sequence) : Type 0 where
  pub is : branches_at at ss ≡ through r (branches_at (at + 1) ss) none
  pub reach : AllReach (at + 1) ss

through_first : (at : ℕ) (s : Sequence) (r : ByteRange) (ts : List Sequence) (inner : Branches) → going_through (row at s) ≡ Some r
    → with_ranges (row at s) (branches_at at ts) ≡ through r (with_ranges (row (at + 1) s) inner) none → inner ≡ branches_at (at + 1) ts
    → AllReach (at + 1) ts → IsThrough at r (s ∷ ts)
through_first at s r ts inner e is f reach =
    let (q, more, g) = goes_through (row at s) r e in
    record { is = is ∙ ap (λ x. through r (with_ranges (row (at + 1) s) x) none) f; reach = (longer at (byte_ranges s) r q more g, reach) }

joined_one : (rs behind : Row) (r q p : ByteRange) (more : Row) (inner : Branches) → rs ≡ r ∷ q ∷ more → behind ≡ q ∷ more → same_range r p ≡ true
    → with_ranges rs (through p inner none) ≡ through r (with_ranges behind inner) none
joined_one rs behind r q p more inner e f same = rw (e, f, same) refl

pub is_through : (at : ℕ) (s : Sequence) (ss : List Sequence) (r : ByteRange) → AllReach at (s ∷ ss) → is_one (branches_at at (s ∷ ss)) ≡ true
    → going_through (row at s) ≡ Some r → IsThrough at r (s ∷ ss)
is_through at s [] r reach one e =
    let (q, more, g) = goes_through (row at s) r e in
    let f = row_behind at s r (q ∷ more) g in
    through_first at s r [] none e (rw (g, f) refl) refl tt
is_through at s (t ∷ ts) r reach one e =
    let both = must_join at s t ts reach one in
    let (p, f, same) = same_some r (going_through (row at t)) (sym (ap (λ x. alike x (going_through (row at t))) e) ∙ both.0) in
    let after : IsThrough at p (t ∷ ts) = is_through at t ts p reach.1 both.1 f in
    let (q, more, g) = goes_through (row at s) r e in
    let h = row_behind at s r (q ∷ more) g in
    through_first at s r (t ∷ ts) (branches_at (at + 1) (t ∷ ts)) e (ap (with_ranges (row at s)) after.is ∙ joined_one (row at s) (row (at + 1) s) r q p more (branches_at (at + 1) (t ∷ ts)) g h same) refl after.reach

-- The run ends with a class.

is_end : (rs : Row) → 0 < length rs → going_through rs ≡ None → (r : ByteRange) × (rs ≡ r ∷ [])
is_end [] h e = absurd (omega (arith, h))
is_end (r ∷ []) h e = (r, refl)
is_end (r ∷ s ∷ rs) h e = cc

end_of : (at : ℕ) (s : Sequence) → Reaches at s → going_through (row at s) ≡ None → row at s ≡ last_range s ∷ []
end_of at s h e =
    let (r, more, f, _) = some_row at (byte_ranges s) h in
    let (q, g) = is_end (row at s) (rw f (omega arith)) e in
    g ∙ ap (λ x. x ∷ []) (sym (last_range_is at s q g))

no_some : (o : Option ByteRange) → alike None o ≡ true → o ≡ None
no_some None h = refl
no_some (Some r) h = cc

pub is_last : (at : ℕ) (s : Sequence) (ss : List Sequence) → AllReach at (s ∷ ss) → is_one (branches_at at (s ∷ ss)) ≡ true
    → going_through (row at s) ≡ None → branches_at at (s ∷ ss) ≡ last (last_range s) (map last_range ss) none
is_last at s [] reach one e = rw (end_of at s reach.0 e) refl
is_last at s (t ∷ ts) reach one e =
    let both = must_join at s t ts reach one in
    let f = no_some (going_through (row at t)) (sym (ap (λ x. alike x (going_through (row at t))) e) ∙ both.0) in
    ap (with_ranges (row at s)) (is_last at t ts reach.1 both.1 f) ∙ rw (end_of at s reach.0 e) refl

-- Whether all are one branch.

pub all_one : (at : ℕ) (s : Sequence) (ss : List Sequence) → AllReach at (s ∷ ss) → suc (joined at s ss) ≡ suc (length ss) → is_one (branches_at at (s ∷ ss)) ≡ true
all_one at s ss reach e =
    let whole : take (suc (joined at s ss)) (s ∷ ss) ≡ s ∷ ss = take_all (suc (joined at s ss)) (s ∷ ss) (omega (arith, e)) in
    subst (λ (x : List Sequence). is_one (branches_at at x) ≡ true) whole (is_cut at s ss reach).one

pub reach_drop : (at n : ℕ) (ss : List Sequence) → AllReach at ss → AllReach at (drop n ss)
reach_drop at zero ss h = h
reach_drop at (suc n) [] h = tt
reach_drop at (suc n) (s ∷ ss) h = reach_drop at n ss h.1

pub reach_take : (at n : ℕ) (ss : List Sequence) → AllReach at ss → AllReach at (take n ss)
reach_take at zero ss h = tt
reach_take at (suc n) [] h = tt
reach_take at (suc n) (s ∷ ss) h = (h.0, reach_take at n ss h.1)

some_left : (at n : ℕ) (ss : List Sequence) → AllReach at ss → n < length ss → no_branch (branches_at at (drop n ss)) ≡ false
some_left at n [] h less = absurd (omega (arith, less))
some_left at zero (s ∷ ss) h less = not_none at s ss h.0
some_left at (suc n) (s ∷ ss) h less = some_left at n ss h.1 (omega (arith, less))

pub not_one : (at : ℕ) (s : Sequence) (ss : List Sequence) → AllReach at (s ∷ ss) → joined at s ss < length ss → is_one (branches_at at (s ∷ ss)) ≡ false
not_one at s ss reach less =
    let c = is_cut at s ss reach in
    ap is_one c.cut ∙ one_followed (run at s ss) (behind at s ss) c.one ∙ some_left at (suc (joined at s ss)) (s ∷ ss) reach (omega (arith, less))

-- No range is followed by others past the last but one.

pub none_past : (at : ℕ) (rs : Row) → length rs ≤ at + 1 → None ≡ going_through (drop at rs)
none_past zero [] h = refl
none_past zero (r ∷ []) h = refl
none_past zero (r ∷ s ∷ rs) h = absurd (omega (arith, h))
none_past (suc at) [] h = refl
none_past (suc at) (r ∷ rs) h = none_past at rs (omega (arith, h))
