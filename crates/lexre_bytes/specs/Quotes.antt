-- A text in quotes, by a bound on how many bytes it has, and what follows it.
use Rattle.std.specs.Prelude.{ℕ, List, Option, option_map}
use Rattle.lex_semantics.specs.Escapes.{until_quote, byte_with}
use Rattle.lex_semantics.specs.Reading.{Reader}
use Rattle.lexre_bytes.specs.Lexical.{quoted_bytes, escape_at}

abbrev pub quoted_at : ℕ → Reader (List ℕ)
quoted_at n t = until_quote (byte_with escape_at) n t

-- what follows a text in quotes, after its first quote
unfoldable pub after_quotes : List ℕ → Option (List ℕ)
after_quotes t = option_map (λ x. x.1) (quoted_bytes t)
