-- The pieces of a pattern, as they stand: classes, texts in quotes, names and intervals in braces, escapes, and single
-- bytes. (POSIX, lex, Regular Expressions in lex.)
use Rattle.std.specs.Prelude.{ℕ, zero, suc, ◌-◌, ◌==◌, ◌||◌, Bool, false, if◌then◌else◌, List, [], ◌∷◌, length, take, drop, unwrap_or}
use Rattle.lex_semantics.specs.Reading.{is_white}
use Rattle.lexre_bytes.specs.Lexical.{class_at}
use Rattle.lexre_bytes.specs.Passing.{rest_of_class}
use Rattle.lexspec_lines.specs.Runs.{split_before}

-- what follows the next quote (34) that stands behind no backslash (92); `escaped` where one stands before the text
abbrev pub behind_quote : Bool → List ℕ → List ℕ
behind_quote escaped [] = []
behind_quote escaped (c ∷ t) =
    if escaped then behind_quote false t else if c == 34 then t else behind_quote (c == 92) t

-- what follows the piece that begins the text: a quote (34), a `[` (91), a `{` (123) and a backslash (92) begin one of
-- several bytes
abbrev pub behind_piece : List ℕ → List ℕ
behind_piece [] = []
behind_piece (c ∷ t) =
    if c == 34 then behind_quote false t
    else if c == 91 then unwrap_or (rest_of_class (class_at t)) t
    else if c == 123 then drop 1 (split_before (λ b. b == 125) t).1
    else if c == 92 then drop 1 t
    else t

-- The pieces of the pattern that begins the text, up to the first blank or newline outside of them, each with its place
-- in the line: n bytes stand before the text, and the first k of it belong to a piece before.
abbrev pub pieces_from : ℕ → ℕ → List ℕ → List (ℕ × List ℕ)
pieces_from n k [] = []
pieces_from n (suc k) (c ∷ t) = pieces_from (suc n) k t
pieces_from n zero (c ∷ t) =
    if is_white c then []
    else let more =
    length t - length (behind_piece (c ∷ t)) in (n, take (suc more) (c ∷ t)) ∷ pieces_from (suc n) more t

-- what follows the pattern that begins the text, of which the first k bytes belong to a piece before
abbrev pub behind_pattern : ℕ → List ℕ → List ℕ
behind_pattern k [] = []
behind_pattern (suc k) (c ∷ t) = behind_pattern k t
behind_pattern zero (c ∷ t) =
    if is_white c then c ∷ t else behind_pattern (length t - length (behind_piece (c ∷ t))) t

-- a blank, a newline or a `/` (47)
abbrev pub stops_at_slash : ℕ → Bool
stops_at_slash c = is_white c || c == 47

-- what the first `/` of the pattern begins, outside of its other pieces, or else what follows the pattern; the first k
-- bytes belong to a piece before
abbrev pub from_slash : ℕ → List ℕ → List ℕ
from_slash k [] = []
from_slash (suc k) (c ∷ t) = from_slash k t
from_slash zero (c ∷ t) =
    if stops_at_slash c then c ∷ t else from_slash (length t - length (behind_piece (c ∷ t))) t
