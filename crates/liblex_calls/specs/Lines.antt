-- Where the tokens of an input stand: their lines and columns. (flex, Values Available To the User: yylineno, but of
-- the first byte of a token; columns are this project's.)
use Rattle.std.specs.Prelude.{◌≡◌, ℕ, ◌+◌, ◌≤◌, Bool, true, false, not, List, length, take, reverse, fold, count_by, ◌==◌, ◌⊎◌, ⊤}
use Rattle.std.specs.List.{prefix_len}
use Rattle.lexscan.specs.declared.token.Token.{Token}
use Rattle.liblex_calls.specs.declared.lines.Mark.{Mark}
use Rattle.liblex_calls.specs.declared.lines.Lines.{Lines}
use Rattle.liblex_calls.specs.declared.lines.Spot.{Spot}

-- how many newlines are in a text
abbrev pub newline_count : List ℕ → ℕ
newline_count w = count_by (λ c. c == 10) w

-- how many bytes are after the last newline of a text
abbrev pub after_newline : List ℕ → ℕ
after_newline w = prefix_len (λ c. not (c == 10)) (reverse w)

-- the line of a place, from 1: the newline_count before it are counted
abbrev pub place_line : List ℕ → ℕ → ℕ
place_line x at = 1 + newline_count (take at x)

-- its column, from 1: the bytes after the last newline before it are counted
abbrev pub place_column : List ℕ → ℕ → ℕ
place_column x at = 1 + after_newline (take at x)

-- What is told of a token that begins at a place: its line and its column, or nothing, where lines are not counted.
abbrev pub IsSpotOf : Bool → List ℕ → ℕ → Spot → Type 0
IsSpotOf true x at spot = (spot.line ≡ place_line x at) × (spot.column ≡ place_column x at)
IsSpotOf false x at spot = (spot.line ≡ 0) × (spot.column ≡ 0)

-- the place is the one after this text
pub record IsAfter (before : List ℕ) (m : Mark) : Type 0 where
  pub at_is : m.at ≡ length before
  pub newlines_are : m.newlines ≡ newline_count before
  pub after_is : m.after ≡ after_newline before

-- where the text of the last of these tokens begins, and where it ends; the beginning of the input, where there is none
abbrev pub last_start : List Token → ℕ
last_start tokens = fold (λ at t. t.start) 0 tokens

abbrev pub last_end : List Token → ℕ
last_end tokens = fold (λ at t. t.end) 0 tokens

-- A token begins where the one before it ends or, after yymore, where that begins.
abbrev pub Follows : List Token → ℕ → Type 0
Follows tokens at = (at ≡ last_end tokens) ⊎ (at ≡ last_start tokens)

-- The lines are counted up to the last of these tokens of the bytes that were fed.
pub record Placed (fed : List ℕ) (tokens : List Token) (l : Lines) : Type 0 where
  pub start : IsAfter (take l.start.at fed) l.start
  pub end : IsAfter (take l.end.at fed) l.end
  pub start_is : l.start.at ≡ last_start tokens
  pub end_is : l.end.at ≡ last_end tokens
  pub order : l.start.at ≤ l.end.at

-- the same, where lines are counted
abbrev pub Counted : Bool → List ℕ → List Token → Lines → Type 0
Counted true fed tokens l = Placed fed tokens l
Counted false fed tokens l = ⊤
