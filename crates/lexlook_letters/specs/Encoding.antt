-- Code points and their bytes in UTF-8. (RFC 3629, section 3.)
use Rattle.std.specs.Prelude.{◌≡◌, ℕ, ◌+◌, ◌/◌, ◌%◌, ◌<◌, ◌≤◌, nat_lt, if◌then◌else◌, ◌⊎◌, List, [], ◌∷◌}
use Rattle.lexlook_letters.specs.declared.ranges.CodeRange.{CodeRange}

-- Code points up to U+10FFFF have an encoding, less the surrogates, U+D800 to U+DFFF.
abbrev pub IsEncoded : ℕ → Type 0
IsEncoded c = (c ≤ 0x10FFFF) × ((c < 0xD800) ⊎ (0xDFFF < c))

-- `10xxxxxx`, with the lowest six bits of the number
abbrev pub going_on : ℕ → ℕ
going_on n = 0x80 + n % 64

-- `0xxxxxxx`, up to U+7F; `110xxxxx 10xxxxxx`, up to U+7FF; `1110xxxx 10xxxxxx 10xxxxxx`, up to U+FFFF; and
-- `11110xxx 10xxxxxx 10xxxxxx 10xxxxxx`
abbrev pub encoding : ℕ → List ℕ
encoding c =
    if nat_lt c 0x80 then c ∷ []
    else if nat_lt c 0x800 then (0xC0 + c / 64) ∷ going_on c ∷ []
    else if nat_lt c 0x10000 then (0xE0 + c / 64 / 64) ∷ going_on (c / 64) ∷ going_on c ∷ []
    else (0xF0 + c / 64 / 64 / 64) ∷ going_on (c / 64 / 64) ∷ going_on (c / 64) ∷ going_on c ∷ []

-- from the first of the range to its last
abbrev pub LiesWithin : CodeRange → ℕ → Type 0
LiesWithin r c = (r.first ≤ c) × (c ≤ r.last)

-- within one of the ranges
abbrev pub InOneOf : List CodeRange → ℕ → Type 0
InOneOf [] c = ⊥
InOneOf (r ∷ rs) c = LiesWithin r c ⊎ InOneOf rs c

-- a number up to U+10FFFF that is within none of them
abbrev pub InNoneOf : List CodeRange → ℕ → Type 0
InNoneOf rs c = (c ≤ 0x10FFFF) × (InOneOf rs c → ⊥)

-- the encoding of a code point that is so
abbrev pub IsEncodingOf : (ℕ → Type 0) → List ℕ → Type 0
IsEncodingOf P w = (c : ℕ) × P c × IsEncoded c × (w ≡ encoding c)
