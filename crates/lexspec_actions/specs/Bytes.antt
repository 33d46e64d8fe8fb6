-- Strings of an action, and what stands between its words.
use Rattle.std.specs.Prelude.{ℕ, suc, not, ◌||◌, ◌==◌, if◌then◌else◌, List, [], length, take, drop, fold, Option, Some, None, is_some, unwrap_or, codes}
use Rattle.std.specs.List.{list_any}
use Rattle.std.specs.Option.{option_or}
use Rattle.lex_semantics.specs.Active.{contains}
use Rattle.lex_semantics.specs.ByteSets.{within}
use Rattle.lex_semantics.specs.Reading.{◌>>=◌, Reader, after_run, is_white}
use Rattle.lex_semantics.specs.Escapes.{is_octal, hexadecimal_at, byte_with, until_quote}
use Rattle.lexre_bytes.specs.Lexical.{after_word, escape_at}
use Rattle.lexspec_actions.specs.Comments.{after_star}

-- what follows a blank, a newline or a comment of C's: `/* .. */`, which is the whole rest where it is not closed, or
-- `//` and the rest of the line
unfoldable pub after_space : List ℕ → Option (List ℕ)
after_space t =
    if list_any is_white (take 1 t) then Some (drop 1 t)
    else option_or (after_word (codes "/*") t >>= λ u. Some (unwrap_or (after_star u) []))
    (after_word (codes "//") t >>= λ u. Some (after_run (λ b. not (b == 10)) u))

-- What follows all the blanks, newlines and comments. They are no more than the bytes of the text, so for each byte one
-- of them is passed over, where one is left.
unfoldable pub after_spaces : List ℕ → List ℕ
after_spaces t = fold (λ rest c. unwrap_or (after_space rest) rest) t t

-- what follows the word, where that comes next
unfoldable pub expect : List ℕ → List ℕ → Option (List ℕ)
expect word t = after_word word (after_spaces t)

-- after a backslash: one to three octal digits, a letter or sign of C's, or `x` and one or two hexadecimal digits: the
-- byte from 1 to 255 that these write, as in a pattern
unfoldable pub string_escape_at : Reader ℕ
string_escape_at t =
    let begins_one = list_any (λ c. is_octal c || contains (codes "abfnrtv\\\"'?") c) (take 1 t) in
    let hexadecimal = is_some (after_word (codes "x") t >>= hexadecimal_at) in
    (if begins_one || hexadecimal then escape_at t else None) >>= λ (b, rest). if within 1 255 b then Some (b, rest)
    else None

-- a string: its bytes are escapes, and any but a newline
unfoldable pub literal_at : Reader (List ℕ)
literal_at t = expect (codes "\"") t >>= λ inside. until_quote (byte_with string_escape_at) (suc (length inside)) inside
