-- Ranges that do not touch.
use Rattle.std.proofs.Common.{◌≡◌, ℕ, ◌+◌, ◌-◌, ◌<◌, ◌≤◌, min, max, List, [], ◌∷◌, ◌++◌, length, get_or, drop, inl, inr, refl, sym, ap, ◌∙◌, subst, append_assoc, append-nil, arith}
use Rattle.std.proofs.lemmas.Bool.{cases_lt, lt-ltb, le-ltb}
use Rattle.std.proofs.lemmas.List.{drop_all, drop_more}
use Rattle.lexlook_letters.specs.Apart.{AreApart, AreApartFrom, ranges_between}
use Rattle.lexlook_letters.specs.declared.ranges.CodeRange.{CodeRange}

pub one_between : (first end : ℕ) → first < end → ranges_between first end ≡ record { first = first; last = end - 1 } ∷ []
one_between first end h = rw (lt-ltb first end h) refl

pub none_between : (first end : ℕ) → end ≤ first → ranges_between first end ≡ []
none_between first end h = rw (le-ltb first end h) refl

-- ranges may begin higher
lower : (high low : ℕ) (rs : List CodeRange) → low ≤ high → AreApartFrom high rs → AreApartFrom low rs
lower high low [] h apart = tt
lower high low (r ∷ rs) h (a, b, c) = (omega arith, b, c)

-- What is left of a piece stands in its place.
in_place : (least : ℕ) (piece taken : CodeRange) (rest : List CodeRange) → taken.first ≤ taken.last → AreApartFrom least (piece ∷ rest)
    → AreApartFrom least (ranges_between piece.first (min (piece.last + 1) taken.first) ++ (ranges_between (max piece.first (taken.last + 1)) (piece.last + 1) ++ rest))
in_place least piece taken rest some (a, b, c) = elim (cases_lt piece.first (min (piece.last + 1) taken.first)) [
  | inl below ↦ elim (cases_lt (max piece.first (taken.last + 1)) (piece.last + 1)) [
    | inl above ↦
        rw (one_between _ _ below, one_between _ _ above) (a, omega arith, (omega arith, omega arith, lower (piece.last + 2) (piece.last + 1 - 1 + 2) rest (omega arith) c))
    | inr none ↦ rw (one_between _ _ below, none_between _ _ none) (a, omega arith, lower (piece.last + 2) _ rest (omega arith) c)
  ]
  | inr none ↦ elim (cases_lt (max piece.first (taken.last + 1)) (piece.last + 1)) [
    | inl above ↦
        rw (none_between _ _ none, one_between _ _ above) (omega arith, omega arith, lower (piece.last + 2) (piece.last + 1 - 1 + 2) rest (omega arith) c)
    | inr no_more ↦ rw (none_between _ _ none, none_between _ _ no_more) (lower (piece.last + 2) least rest (omega arith) c)
  ]
]

behind : (least : ℕ) (front old new : List CodeRange) → ((n : ℕ) → AreApartFrom n old → AreApartFrom n new) → AreApartFrom least (front ++ old) → AreApartFrom least (front ++ new)
behind least [] old new step apart = step least apart
behind least (r ∷ front) old new step (a, b, c) = (a, b, behind (r.last + 2) front old new step c)

-- a piece of ranges is replaced by what is left of it
pub replaced : (old mid new : List CodeRange) (piece taken : CodeRange) → taken.first ≤ taken.last
    → mid ≡ old ++ ranges_between piece.first (min (piece.last + 1) taken.first)
    → new ≡ mid ++ ranges_between (max piece.first (taken.last + 1)) (piece.last + 1)
    → (rest : List CodeRange) → AreApart (old ++ piece ∷ rest) → AreApart (new ++ rest)
replaced old mid new piece taken some e f rest apart =
    let below : List CodeRange = ranges_between piece.first (min (piece.last + 1) taken.first) in
    let above : List CodeRange = ranges_between (max piece.first (taken.last + 1)) (piece.last + 1) in
    let is : new ++ rest ≡ old ++ (below ++ (above ++ rest)) = rw (f, e) (simp append_assoc) in
    subst (λ (x : List CodeRange). AreApart x) (sym is) (behind 0 old (piece ∷ rest) (below ++ (above ++ rest)) (λ n h. in_place n piece taken rest some h) apart)

-- the same range by other names of its ends
pub between_as : (rs after : List CodeRange) (x y first end : ℕ) → x ≡ first → y ≡ end → after ≡ rs ++ ranges_between x y → after ≡ rs ++ ranges_between first end
between_as rs after x y first end a b e = e ∙ ap (λ z. rs ++ ranges_between z y) a ∙ ap (λ z. rs ++ ranges_between first z) b

-- what is left so far, and the pieces that are to come
pub piece_replaced : (left new pieces : List CodeRange) (i : ℕ) (d : CodeRange) → i < length pieces
    → (AreApart pieces → AreApart (left ++ drop i pieces))
    → ((rest : List CodeRange) → AreApart (left ++ get_or pieces i d ∷ rest) → AreApart (new ++ rest))
    → AreApart pieces → AreApart (new ++ drop (i + 1) pieces)
piece_replaced left new pieces i d h so_far more apart =
    more (drop (i + 1) pieces) (subst (λ (x : List CodeRange). AreApart (left ++ x)) (drop_more pieces i d h) (so_far apart))

-- no piece is to come
pub none_to_come : (left pieces : List CodeRange) (i : ℕ) → length pieces ≤ i → AreApart (left ++ drop i pieces) → AreApart left
none_to_come left pieces i h apart = subst (λ (x : List CodeRange). AreApart x) (ap (λ x. left ++ x) (drop_all i pieces h) ∙ append-nil left) apart
