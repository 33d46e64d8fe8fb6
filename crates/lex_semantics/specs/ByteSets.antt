-- Bytes, and sets of bytes. A set is a number whose bit b says whether the byte b is in it. Those that are made here
-- are below 2 ^ 256, so two of them with the same members are the same number.
-- (POSIX, lex, Regular Expressions in lex: bracket expressions in the POSIX locale.)
use Rattle.std.specs.Prelude.{◌≡◌, ℕ, zero, suc, ◌+◌, ◌-◌, ◌*◌, ◌^◌, ◌<◌, Bool, true, false, not, ◌&&◌, ◌||◌, ◌==◌, nat_eq, nat_le, if◌then◌else◌, List, [], ◌∷◌, Option, codes}
use Rattle.std.specs.Int.{bit_at}
use Rattle.std.specs.List.{sum_by, range_with_len}
use Rattle.std.specs.Map.{lookup}
use Rattle.std.specs.Option.{option_map}
use lib.Pointwise.{pointwise}

abbrev pub ByteSet : Type 0
ByteSet = ℕ

-- whether the bit of a number is set
unfoldable pub has : ByteSet → ℕ → Bool
has set byte = bit_at set byte == 1

-- the byte is in the set
abbrev pub IsIn : ByteSet → ℕ → Type 0
IsIn set byte = (byte < 256) × (has set byte ≡ true)

-- the set of the bytes that pass the test: byte b stands for 2 ^ b
unfoldable pub set_of : (ℕ → Bool) → ByteSet
set_of test = sum_by (λ b. if test b then 2 ^ b else 0) (range_with_len 0 256)

unfoldable pub single : ℕ → ByteSet
single byte = set_of (λ b. b == byte)

-- from lo to hi, both in it
abbrev pub within : ℕ → ℕ → ℕ → Bool
within lo hi b = nat_le lo b && nat_le b hi

unfoldable pub complement : ByteSet → ByteSet
complement s = set_of (λ b. not (has s b))

-- the letter in the other case, and any other byte itself
unfoldable pub other_case : ℕ → ℕ
other_case b = if within 65 90 b then b + 32 else if within 97 122 b then b - 32 else b

-- The character classes of the POSIX locale. (POSIX, Base Definitions, LC_CTYPE.)

unfoldable pub is_alpha : ℕ → Bool
is_alpha b = within 65 90 b || within 97 122 b

unfoldable pub is_digit : ℕ → Bool
is_digit b = within 48 57 b

unfoldable pub is_alnum : ℕ → Bool
is_alnum b = is_alpha b || is_digit b

unfoldable pub is_blank : ℕ → Bool
is_blank b = b == 9 || b == 32

unfoldable pub is_xdigit : ℕ → Bool
is_xdigit b = is_digit b || within 65 70 b || within 97 102 b

abbrev pub same_bytes : List ℕ → List ℕ → Bool
same_bytes name word = pointwise nat_eq name word

-- each class: its name, and which bytes are in it
abbrev pub classes : List (List ℕ × (ℕ → Bool))
classes =
    (codes "alpha", is_alpha)
    ∷ (codes "digit", is_digit)
    ∷ (codes "alnum", is_alnum)
    ∷ (codes "upper", within 65 90)
    ∷ (codes "lower", within 97 122)
    ∷ (codes "space", λ b. within 9 13 b || b == 32)
    ∷ (codes "blank", is_blank)
    ∷ (codes "cntrl", λ b. nat_le b 31 || b == 127)
    ∷ (codes "graph", within 33 126)
    ∷ (codes "print", within 32 126)
    ∷ (codes "punct", λ b. within 33 126 b && not (is_alnum b))
    ∷ (codes "xdigit", is_xdigit)
    ∷ []

-- the class of a name, where there is one
unfoldable pub named_set : List ℕ → Option ByteSet
named_set name = option_map set_of (lookup (same_bytes name) classes)

-- 1 for true, and 0 for false
abbrev pub bit_of : Bool → ℕ
bit_of b = if b then 1 else 0

-- Names that the code and proofs have: for sets and for the tests of the other classes, for a set that has a byte, and
-- for the set of the numbers below n that pass the test.

unfoldable pub empty_set : ByteSet
empty_set = set_of (λ b. false)

unfoldable pub range_set : ℕ → ℕ → ByteSet
range_set lo hi = set_of (within lo hi)

unfoldable pub union : ByteSet → ByteSet → ByteSet
union s t = set_of (λ b. has s b || has t b)

-- closed under changing the case of ASCII letters (flex, Scanner Options: case-insensitive)
unfoldable pub fold_case : ByteSet → ByteSet
fold_case s = set_of (λ b. has s b || has s (other_case b))

unfoldable pub set_below : ℕ → (ℕ → Bool) → ByteSet
set_below zero test = 0
set_below (suc n) test = (if test n then 1 else 0) * 2 ^ n + set_below n test

abbrev pub HasByte : ByteSet → Type 0
HasByte set = (byte : ℕ) × IsIn set byte

unfoldable pub is_upper : ℕ → Bool
is_upper b = within 65 90 b

unfoldable pub is_lower : ℕ → Bool
is_lower b = within 97 122 b

unfoldable pub is_space : ℕ → Bool
is_space b = within 9 13 b || b == 32

unfoldable pub is_cntrl : ℕ → Bool
is_cntrl b = nat_le b 31 || b == 127

unfoldable pub is_graph : ℕ → Bool
is_graph b = within 33 126 b

unfoldable pub is_print : ℕ → Bool
is_print b = within 32 126 b

unfoldable pub is_punct : ℕ → Bool
is_punct b = is_graph b && not (is_alnum b)
