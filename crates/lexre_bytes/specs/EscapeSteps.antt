-- Escapes, step by step, as the code reads them.
use Rattle.std.specs.Prelude.{ℕ, ◌==◌, if◌then◌else◌, [], ◌∷◌, Some, None, unwrap_or}
use Rattle.lex_semantics.specs.Escapes.{simple_escape, is_octal, octal_at, hexadecimal_at}
use Rattle.lex_semantics.specs.Reading.{Reader}

-- after a backslash
unfoldable pub escape_from : Reader ℕ
escape_from [] = None
escape_from (c ∷ t) =
    if c == 10 then None
    else if is_octal c then octal_at (c ∷ t)
    else if c == 120 then Some (unwrap_or (hexadecimal_at t) (c, t))
    else Some (simple_escape c, t)
