-- Ranges of code points that ascend and do not touch: a set of code points has just one such list. (This project's.)
use Rattle.std.specs.Prelude.{ℕ, ◌+◌, ◌-◌, ◌≤◌, nat_lt, if◌then◌else◌, List, [], ◌∷◌, ⊤}
use Rattle.lexlook_letters.specs.declared.ranges.CodeRange.{CodeRange}

-- each has a code point, the first begins at this number or above it, and each other one two or more above the end of
-- the one before
abbrev pub AreApartFrom : ℕ → List CodeRange → Type 0
AreApartFrom least [] = ⊤
AreApartFrom least (r ∷ rs) = (least ≤ r.first) × (r.first ≤ r.last) × AreApartFrom (r.last + 2) rs

abbrev pub AreApart : List CodeRange → Type 0
AreApart rs = AreApartFrom 0 rs

-- the range from the first number up to the end, which is not in it, where there is one
abbrev pub ranges_between : ℕ → ℕ → List CodeRange
ranges_between first end = if nat_lt first end then record { first = first; last = end - 1 } ∷ [] else []
