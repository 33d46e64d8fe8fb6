-- The escapes that patterns and the strings of actions have in common.
-- (POSIX, lex, Regular Expressions in lex: Escape Sequences in lex; C's strings have them too.)
use Rattle.std.specs.Prelude.{ℕ, zero, suc, Bool, ◌==◌, nat_eq, nat_lt, if◌then◌else◌, List, [], ◌∷◌, zip, Some, None, unwrap_or, codes}
use Rattle.std.specs.Map.{lookup}
use Rattle.lex_semantics.specs.ByteSets.{within, is_xdigit}
use Rattle.lex_semantics.specs.Reading.{◌>>=◌, Reader, is_empty, take_up_to, value}

-- `\a \b \f \n \r \t \v` are C's; another byte is itself
unfoldable pub simple_escape : ℕ → ℕ
simple_escape c = unwrap_or (lookup (nat_eq c) (zip (codes "abfnrtv") (7 ∷ 8 ∷ 12 ∷ 10 ∷ 13 ∷ 9 ∷ 11 ∷ []))) c

abbrev pub is_octal : ℕ → Bool
is_octal c = within 48 55 c

-- one to three octal digits, as many as stand there, which write a byte
unfoldable pub octal_at : Reader ℕ
octal_at t =
    let (digits, rest) = take_up_to 3 is_octal t in
    if nat_lt (value 8 digits) 256 then Some (value 8 digits, rest) else None

-- one or two hexadecimal digits, as many as stand there
unfoldable pub hexadecimal_at : Reader ℕ
hexadecimal_at t =
    let (digits, rest) = take_up_to 2 is_xdigit t in
    if is_empty digits then None else Some (value 16 digits, rest)

-- an escape, by what follows its backslash, or any byte but a newline
abbrev pub byte_with : Reader ℕ → Reader ℕ
byte_with escape_at [] = None
byte_with escape_at (c ∷ t) = if c == 10 then None else if c == 92 then escape_at t else Some (c, t)

-- After an opening quote: the bytes, and what follows the closing one. The number bounds how many there are.
unfoldable pub until_quote : Reader ℕ → ℕ → Reader (List ℕ)
until_quote byte_at zero t = None
until_quote byte_at (suc n) [] = None
until_quote byte_at (suc n) (c ∷ t) =
    if c == 34 then Some ([], t)
    else byte_at (c ∷ t) >>= λ (b, rest). until_quote byte_at n rest >>= λ (bs, after). Some (b ∷ bs, after)
