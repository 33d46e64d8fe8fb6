-- Ranges from an upper to a lower case letter in a class. (flex 2.6.4, as it was tried: with -i it warns of one, and
-- adds no other case to it: docs/MANUAL.md, Differences from lex and flex.)
use Rattle.std.specs.Prelude.{ℕ, ◌-◌, ◌==◌, ◌&&◌, ◌||◌, Bool, false, not, if◌then◌else◌, List, [], ◌∷◌, drop, codes}
use Rattle.lex_semantics.specs.ByteSets.{within}
use Rattle.lex_semantics.specs.Reading.{begins}

-- an upper case letter (65 to 90) before this text is the first end of a range whose other end is a lower case letter
-- (97 to 122); a `-` (45) stands between them
abbrev pub is_case_range : ℕ → List ℕ → Bool
is_case_range a [] = false
is_case_range a (b ∷ []) = false
is_case_range a (b ∷ c ∷ t) = within 65 90 a && b == 45 && within 97 122 c

-- so many bytes behind this one belong to its element of a class: the one behind a backslash (92), and of a range its
-- `-` and its other end; where the byte is one of k of the element before, the others of these do
abbrev pub element_rest : ℕ → ℕ → List ℕ → ℕ
element_rest k c t = if not (k == 0) then k - 1 else if c == 92 then 1 else if begins (codes "-") t then 2 else 0

-- such a range is an element of a class, of which this is a part; its first k bytes belong to the element before
abbrev pub has_case_range : ℕ → List ℕ → Bool
has_case_range k [] = false
has_case_range k (c ∷ t) = (k == 0 && is_case_range c t) || has_case_range (element_rest k c t) t

-- a class, which a `[` begins, has such a range
abbrev pub is_case_class : List ℕ → Bool
is_case_class piece = begins (codes "[") piece && has_case_range 0 (drop 1 piece)
