-- How a set of bytes is written as a class of a pattern. (POSIX, lex, Regular Expressions in lex; flex, Patterns.)
use Rattle.std.specs.Prelude.{ℕ, ◌+◌, ◌-◌, ◌==◌, Bool, true, false, not, ◌||◌, ◌&&◌, nat_lt, nat_le, if◌then◌else◌, List, [], ◌∷◌, ◌++◌, codes}
use Rattle.std.specs.List.{range_with_len, flat_map, count_by}
use Rattle.lex_io.specs.Octal.{octal}

-- the bytes, ascending
unfoldable pub all_bytes : List ℕ
all_bytes = range_with_len 0 256

-- signs that stand behind a backslash: `"` (34), `-` (45), `[`, `\`, `]` and `^` (91 to 94)
abbrev pub is_sign : ℕ → Bool
is_sign b = (b == 34) || ((b == 45) || (nat_le 91 b && nat_le b 94))

-- how a byte is spelled in a class
abbrev pub spelled : ℕ → List ℕ
spelled b =
    if b == 9 then codes "\\t"
    else if b == 10 then codes "\\n"
    else if is_sign b then 92 ∷ b ∷ []
    else if nat_le 32 b && nat_le b 126 then b ∷ []
    else octal b

-- the set has the byte before this one, too; and the one after it
abbrev pub has_before : (ℕ → Bool) → ℕ → Bool
has_before set b = nat_lt 0 b && set (b - 1)

abbrev pub has_after : (ℕ → Bool) → ℕ → Bool
has_after set b = nat_lt b 255 && set (b + 1)

-- What stands for a byte of a set. A range is its first byte, a dash and its last byte, and a byte alone is itself.
abbrev pub share : (ℕ → Bool) → ℕ → List ℕ
share set b =
    if not (set b) then []
    else if not (has_after set b) then spelled b
    else if has_before set b then []
    else spelled b ++ codes "-"

unfoldable pub ranges : (ℕ → Bool) → List ℕ
ranges set = flat_map (share set) all_bytes

unfoldable pub size : (ℕ → Bool) → ℕ
size set = count_by set all_bytes

-- a set that lacks some bytes, but has more than it lacks, is written by those that it lacks
abbrev pub is_mostly_full : (ℕ → Bool) → Bool
is_mostly_full set = nat_lt 128 (size set) && nat_lt (size set) 256

abbrev pub opening_of : Bool → List ℕ
opening_of others = if others then codes "[^" else codes "["

abbrev pub class_of : (ℕ → Bool) → List ℕ
class_of set =
    if is_mostly_full set then opening_of true ++ (ranges (λ b. not (set b)) ++ codes "]")
    else opening_of false ++ (ranges set ++ codes "]")
