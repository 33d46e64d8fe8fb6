-- Lines, blanks and words of a specification file. (POSIX, lex, Definitions in lex.)
use Rattle.std.specs.List.{slice_split}
use Rattle.std.specs.Prelude.{ℕ, zero, suc, Bool, not, filter, ◌&&◌, ◌==◌, if◌then◌else◌, List, [], ◌∷◌, count_by, Option, Some, None, codes}
use Rattle.lex_semantics.specs.ByteSets.{is_blank}
use Rattle.lex_semantics.specs.Reading.{◌>>=◌, Reader, take_run, after_blanks, is_empty, begins}
use Rattle.lexspec_actions.specs.Comments.{after_star}
use Rattle.lexspec_lines.specs.Runs.{split_before}

-- a carriage return directly before a newline is dropped
abbrev pub without_returns : List ℕ → List ℕ
without_returns [] = []
without_returns (c ∷ t) = if c == 13 && begins (codes "\n") t then without_returns t else c ∷ without_returns t

-- how many newlines a text has
abbrev pub newlines : List ℕ → ℕ
newlines t = count_by (λ c. c == 10) t

-- the text up to its first newline, and what follows that
abbrev pub line_in : List ℕ → List ℕ × List ℕ
line_in [] = ([], [])
line_in (c ∷ t) = if c == 10 then ([], t) else (let (line, rest) = line_in t in (c ∷ line, rest))

-- a line, without its newline, and what follows; a last line without a newline is one, and at the end there is none
abbrev pub line_at : Reader (List ℕ)
line_at t = if is_empty t then None else Some (line_in t)

-- the blanks at the front, and what follows them
abbrev pub blanks : List ℕ → List ℕ × List ℕ
blanks t = take_run is_blank t

-- nothing but blanks
abbrev pub is_all_blank : List ℕ → Bool
is_all_blank t = is_empty (after_blanks t)

-- what stands before the first blank, and the text from it on
abbrev pub before_blank : List ℕ → List ℕ × List ℕ
before_blank t = split_before is_blank t

-- the words between blanks
abbrev pub words : List ℕ → List (List ℕ)
words t = filter (λ word. not (is_empty word)) (slice_split is_blank t)

-- What both sections skip.

-- after a line that begins with `%{`: what follows the next line that begins with `%}`. The number bounds how many
-- lines there are.
unfoldable pub after_block : ℕ → List ℕ → Option (List ℕ)
after_block zero t = None
after_block (suc n) t = line_at t >>= λ (line, rest). if begins (codes "%}") line then Some rest else after_block n rest

-- after `/*`: what follows the line that has the next `*/`
abbrev pub after_comment : List ℕ → Option (List ℕ)
after_comment t = after_star t >>= λ rest. Some (line_in rest).1
