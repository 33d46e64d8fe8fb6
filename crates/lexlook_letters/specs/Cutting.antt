-- Where a range of code points is cut: each piece is one sequence. (This project's; the bounds are those of RFC 3629.)
use Rattle.std.specs.Prelude.{◌≡◌, ℕ, ◌/◌, ◌%◌, ◌<◌, ◌≤◌, ◌⊎◌, List}
use Rattle.lexlook_letters.specs.Encoding.{encoding}

-- Both have the same bits above the lowest six; or those of the first are all 0, and those of the last all 1.
abbrev pub IsWhole : ℕ → ℕ → Type 0
IsWhole first last = (first / 64 ≡ last / 64) ⊎ ((first % 64 ≡ 0) × (last % 64 ≡ 63))

-- both have one, two, three or four bytes
abbrev pub HaveOneLength : ℕ → ℕ → Type 0
HaveOneLength first last = (last < 0x80)
    ⊎ (((0x80 ≤ first) × (last < 0x800))
    ⊎ (((0x800 ≤ first) × (last < 0x10000)) ⊎ ((0x10000 ≤ first) × (last ≤ 0x10FFFF))))

-- each byte of an encoding may be any one from that of the first code point to that of the last
abbrev pub IsPiece : ℕ → ℕ → Type 0
IsPiece first last = HaveOneLength first last
    × ((last < 0x80)
    ⊎ (IsWhole first last × IsWhole (first / 64) (last / 64) × IsWhole (first / 64 / 64) (last / 64 / 64)))

-- the encoding of a number from the first to the last
abbrev pub IsEncodingWithin : ℕ → ℕ → List ℕ → Type 0
IsEncodingWithin first last w = (c : ℕ) × (first ≤ c) × (c ≤ last) × (w ≡ encoding c)
