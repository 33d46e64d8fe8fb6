-- Worked examples of encodings, and of ranges. (RFC 3629, section 7: its examples. The others are the ends of each
-- length.)
use Rattle.std.specs.Prelude.{◌≡◌, ℕ, [], ◌∷◌}
use Rattle.lexlook_letters.specs.Apart.{AreApart}
use Rattle.lexlook_letters.specs.Encoding.{IsEncoded, encoding}
use Rattle.lexlook_letters.specs.declared.ranges.CodeRange.{CodeRange}

-- U+0041, U+2262, U+0391, U+D55C, U+65E5, U+233B4 and U+FEFF
abbrev pub Encodings : Type 0
Encodings = (encoding 0x41 ≡ 0x41 ∷ [])
    × (encoding 0x2262 ≡ 0xE2 ∷ 0x89 ∷ 0xA2 ∷ [])
    × (encoding 0x391 ≡ 0xCE ∷ 0x91 ∷ [])
    × (encoding 0xD55C ≡ 0xED ∷ 0x95 ∷ 0x9C ∷ [])
    × (encoding 0x65E5 ≡ 0xE6 ∷ 0x97 ∷ 0xA5 ∷ [])
    × (encoding 0x233B4 ≡ 0xF0 ∷ 0xA3 ∷ 0x8E ∷ 0xB4 ∷ [])
    × (encoding 0xFEFF ≡ 0xEF ∷ 0xBB ∷ 0xBF ∷ [])

-- the first and the last code point of each length
abbrev pub EndsOfLengths : Type 0
EndsOfLengths = (encoding 0 ≡ 0 ∷ [])
    × (encoding 0x7F ≡ 0x7F ∷ [])
    × (encoding 0x80 ≡ 0xC2 ∷ 0x80 ∷ [])
    × (encoding 0x7FF ≡ 0xDF ∷ 0xBF ∷ [])
    × (encoding 0x800 ≡ 0xE0 ∷ 0xA0 ∷ 0x80 ∷ [])
    × (encoding 0xFFFF ≡ 0xEF ∷ 0xBF ∷ 0xBF ∷ [])
    × (encoding 0x10000 ≡ 0xF0 ∷ 0x90 ∷ 0x80 ∷ 0x80 ∷ [])
    × (encoding 0x10FFFF ≡ 0xF4 ∷ 0x8F ∷ 0xBF ∷ 0xBF ∷ [])

-- surrogates, and what is beside them
abbrev pub Surrogates : Type 0
Surrogates =
    IsEncoded 0xD7FF × (IsEncoded 0xD800 → ⊥) × (IsEncoded 0xDFFF → ⊥) × IsEncoded 0xE000 × IsEncoded 0x10FFFF
    × (IsEncoded 0x110000 → ⊥)

abbrev pub points_between : ℕ → ℕ → CodeRange
points_between first last = record { first = first; last = last }

-- U+41 to U+43 and U+45 to U+46 are apart; ranges that touch are not, nor those that descend or are empty
abbrev pub Ranges : Type 0
Ranges = AreApart (points_between 0x41 0x43 ∷ points_between 0x45 0x46 ∷ [])
    × (AreApart (points_between 0x41 0x43 ∷ points_between 0x44 0x46 ∷ []) → ⊥)
    × (AreApart (points_between 0x45 0x46 ∷ points_between 0x41 0x43 ∷ []) → ⊥)
    × (AreApart (points_between 0x43 0x41 ∷ []) → ⊥)
