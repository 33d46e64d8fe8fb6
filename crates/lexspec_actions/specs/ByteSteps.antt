-- Strings of an action, and what stands between its words, byte by byte, as the code reads them.
use Rattle.std.specs.Prelude.{ℕ, Bool, true, false, ◌||◌, ◌==◌, if◌then◌else◌, List, [], ◌∷◌, Option, Some, None, codes}
use Rattle.std.specs.List.{list_any}
use Rattle.lex_semantics.specs.ByteSets.{within, is_digit}
use Rattle.lex_semantics.specs.Reading.{◌>>=◌, Reader, is_white}
use Rattle.lex_semantics.specs.Escapes.{simple_escape, is_octal, octal_at, hexadecimal_at, byte_with, until_quote}
use Rattle.lexre_bytes.specs.Lexical.{run_at}

-- the digits of a number
abbrev pub digits_at : Reader (List ℕ)
digits_at = run_at is_digit

-- Comments by where a text stands: outside comments, after a slash there, in a `/* .. */` comment, after a star there,
-- or in a `//` comment.
pub data BytePlace : Type 0 where
  outside : BytePlace
  slash : BytePlace
  block : BytePlace
  star : BytePlace
  line : BytePlace

-- where a byte leads
abbrev pub after_byte : BytePlace → ℕ → BytePlace
after_byte outside c = if c == 47 then slash else outside
after_byte slash c = if c == 42 then block else if c == 47 then line else outside
after_byte block c = if c == 42 then star else block
after_byte star c = if c == 47 then outside else if c == 42 then star else block
after_byte line c = if c == 10 then outside else line

-- what follows blanks, newlines and comments
abbrev pub skip_in : BytePlace → List ℕ → List ℕ
skip_in slash [] = 47 ∷ []
skip_in p [] = []
skip_in outside (c ∷ t) = if is_white c then skip_in outside t else if c == 47 then skip_in slash t else c ∷ t
skip_in slash (c ∷ t) = if c == 42 || c == 47 then skip_in (after_byte slash c) t else 47 ∷ c ∷ t
skip_in p (c ∷ t) = skip_in (after_byte p c) t

-- in a comment, after a star or not
abbrev pub in_block : Bool → BytePlace
in_block true = star
in_block false = block

-- what follows the byte, where the text begins with it
abbrev pub first_is : ℕ → List ℕ → Option (List ℕ)
first_is c [] = None
first_is c (d ∷ t) = if d == c then Some t else None

-- a byte from 1 to 255
abbrev pub as_byte : ℕ → List ℕ → Option (ℕ × List ℕ)
as_byte n rest = if within 1 255 n then Some (n, rest) else None

-- a letter or sign of C's: `\a \b \f \n \r \t \v \\ \" \' \?`
unfoldable pub plain_escape : ℕ → Option ℕ
plain_escape c = if list_any (λ d. d == c) (codes "abfnrtv\\\"'?") then Some (simple_escape c) else None

-- after a backslash
unfoldable pub escape_from : Reader ℕ
escape_from [] = None
escape_from (c ∷ t) =
    if is_octal c then (octal_at (c ∷ t) >>= λ (n, rest). as_byte n rest)
    else if c == 120 then (hexadecimal_at t >>= λ (n, rest). as_byte n rest)
    else plain_escape c >>= λ b. Some (b, t)

-- a byte of a string: an escape, or any byte but a newline
unfoldable pub string_byte_at : Reader ℕ
string_byte_at t = byte_with escape_from t

-- the bytes of a string, after its opening quote
abbrev pub string_at : ℕ → Reader (List ℕ)
string_at n t = until_quote string_byte_at n t
