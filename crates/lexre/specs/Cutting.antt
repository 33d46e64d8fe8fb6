-- Where the pattern of a rule ends, and what stands at its end. (POSIX, lex, Rules in lex; flex, Patterns: `r/s`,
-- `r$`.)
use Rattle.std.specs.Prelude.{◌≡◌, ℕ, suc, ◌+◌, ◌-◌, Bool, nat_lt, if◌then◌else◌, List, ◌∷◌, ◌++◌, length, take, drop, fold, filter, find, Option, Some, None, option_map, true, codes, ⊤}
use Rattle.std.specs.List.{list_all, list_any}
use Rattle.lex_semantics.specs.Reading.{Reader, IsReadAs, begins, is_white}
use Rattle.lexre_bytes.specs.Lexical.{escape_at, quoted_bytes, class_at}
use Rattle.lexre_bytes.specs.declared.error.PatternErrorKind.{PatternErrorKind}
use Rattle.lexre_bytes.specs.declared.error.PatternErrorKind.TheVariants.{UnclosedQuote, UnclosedClass, BadEscape, MisplacedSlash}

-- nothing follows, or a blank or a newline
abbrev pub ends_pattern : List ℕ → Bool
ends_pattern t = list_all is_white (take 1 t)

-- The piece that a pattern begins with, as the text from there on, and what follows it: a text in quotes, a class, an
-- escape, or one byte.
unfoldable pub piece_at : Reader (List ℕ)
piece_at t = option_map (λ rest. (t, rest)) (
    if ends_pattern t then None
    else if begins (codes "\"") t then option_map (λ x. x.1) (quoted_bytes (drop 1 t))
    else if begins (codes "[") t then option_map (λ x. x.2) (class_at (drop 1 t))
    else if begins (codes "\\") t then option_map (λ x. x.1) (escape_at (drop 1 t))
    else Some (drop 1 t))

-- how many parentheses are open behind a piece, where n are before it; a closing one with none open counts for nothing
abbrev pub deeper : ℕ → List ℕ → ℕ
deeper n p = if begins (codes "(") p then suc n else if begins (codes ")") p then n - 1 else n

-- how many are open after these pieces
abbrev pub depth : List (List ℕ) → ℕ
depth pieces = fold deeper 0 pieces

-- Where the pattern ends, its first slash, whether there is a second, and whether its last piece is a `$`, which is
-- special there. No slash stands in parentheses.
pub record IsCutting (text : List ℕ) (end : ℕ) (first_slash : Option ℕ) (two special : Bool) : Type 0 where
  -- for each piece up to the end of the pattern, the text from it on
  pub pieces : List (List ℕ)
  pub cut : IsReadAs piece_at (λ rest. (ends_pattern rest ≡ true) × (end + length rest ≡ length text)) text pieces
  pub outside : (before after : List (List ℕ)) (p : List ℕ) → pieces ≡ before ++ p ∷ after → begins (codes "/") p ≡ true
      → depth before ≡ 0
  pub first : first_slash ≡ option_map (λ p. length text - length p) (find (begins (codes "/")) pieces)
  pub second : two ≡ nat_lt 1 (length (filter (begins (codes "/")) pieces))
  pub last : special ≡ list_any (begins (codes "$")) (drop (length pieces - 1) pieces)

-- why a text in quotes has no end
abbrev pub IsQuoteFault : PatternErrorKind → Type 0
IsQuoteFault UnclosedQuote = ⊤
IsQuoteFault BadEscape = ⊤
IsQuoteFault _ = ⊥

-- why a text has no cutting
abbrev pub IsCuttingFault : PatternErrorKind → Type 0
IsCuttingFault UnclosedQuote = ⊤
IsCuttingFault UnclosedClass = ⊤
IsCuttingFault BadEscape = ⊤
IsCuttingFault MisplacedSlash = ⊤
IsCuttingFault _ = ⊥
