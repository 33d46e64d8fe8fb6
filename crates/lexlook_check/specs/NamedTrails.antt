-- Definitions at the end of trailing context. (flex 2.6.4, as it was tried: it reads the pattern of such a one as if it
-- stood in no parentheses, so that a `|` of it divides what stands before it too: docs/MANUAL.md, Differences from lex
-- and flex.)
use Rattle.std.specs.Prelude.{ℕ, zero, suc, ◌-◌, ◌==◌, ◌&&◌, ◌||◌, Bool, true, false, not, if◌then◌else◌, List, [], ◌∷◌, flat_map, length, Option, Some, None, is_some, option_map, take, codes}
use Rattle.std.specs.List.{filter}
use Rattle.lex_semantics.specs.ByteSets.{same_bytes}
use Rattle.lex_semantics.specs.Reading.{after_blanks, goes_on_name, starts_name, take_run}
use Rattle.lexlook_text.specs.Pieces.{pieces_from}
use Rattle.lexlook_check.specs.BarTrails.{text_at}
use Rattle.lexlook_check.specs.Unused.{name_there}
use Rattle.lexlook_check.specs.declared.named_trails.End.{End}
use Rattle.lexlook_check.specs.declared.notices.Notice.{Notice}
use Rattle.lexlook_check.specs.declared.notices.NoticeKind.TheVariants.{NamedTrail}

-- the name in a piece, where it is one in braces (123 opens them), and no interval
abbrev pub piece_name : List ℕ → Option (List ℕ)
piece_name [] = None
piece_name (c ∷ []) = None
piece_name (c ∷ d ∷ t) = if c == 123 && starts_name d then Some (name_there (d ∷ t)) else None

-- the pattern of the first of these definitions that has the name; nothing where there is none
abbrev pub pattern_of : List (ℕ × List ℕ) → List ℕ → List ℕ
pattern_of [] name = []
pattern_of (l ∷ ls) name =
    if same_bytes (name_there l.1) name then after_blanks (take_run goes_on_name l.1).1 else pattern_of ls name

-- how many parentheses are open behind a piece, where k are before it
abbrev pub open_behind : ℕ → List ℕ → ℕ
open_behind k piece =
    if same_bytes piece (codes "(") then suc k else if same_bytes piece (codes ")") then k - 1 else k

-- a `|` stands among these pieces outside of parentheses, of which k are open before them
abbrev pub has_branches : ℕ → List (ℕ × List ℕ) → Bool
has_branches k [] = false
has_branches k (p ∷ ps) = (k == 0 && same_bytes p.1 (codes "|")) || has_branches (open_behind k p.1) ps

-- the last of these pieces, and whether it is a branch of its own: a `|` stands before it, or, where it is the only
-- one, `whole`
abbrev pub last_piece : Bool → List (ℕ × List ℕ) → Option (Bool × (ℕ × List ℕ))
last_piece whole [] = None
last_piece whole (p ∷ ps) =
    if length ps == 0 then Some (whole, p) else last_piece (same_bytes p.1 (codes "|")) ps

-- the same of the name in it
abbrev pub last_name : Option (Bool × (ℕ × List ℕ)) → Option (Bool × List ℕ)
last_name None = None
last_name (Some e) = option_map (λ name. (e.0, name)) (piece_name e.1.1)

-- what an `End` stands for
abbrev pub end_of : End → Bool × List ℕ
end_of e = (e.whole, e.name.now)

-- so many names are followed at most, each at the end of the pattern of the one before it
abbrev pub most_names : ℕ
most_names = 8

-- Without parentheses round the pattern of a name at the end a `|` of it divides more: the name is no branch of its
-- own. The same of the name at the end of that pattern, of which parentheses are left out too, through k names.
abbrev pub loses_bar : ℕ → List (ℕ × List ℕ) → Option (Bool × List ℕ) → Bool
loses_bar zero definitions end = false
loses_bar (suc k) definitions None = false
loses_bar (suc k) definitions (Some e) =
    let ps = pieces_from 0 0 (pattern_of definitions e.1) in
    (not e.0 && has_branches 0 ps) || loses_bar k definitions (last_name (last_piece e.0 ps))

-- the pieces behind the first `/`; none where there is none
abbrev pub behind_slash : List (ℕ × List ℕ) → List (ℕ × List ℕ)
behind_slash [] = []
behind_slash (p ∷ ps) = if same_bytes p.1 (codes "/") then ps else behind_slash ps

-- a piece of line n
abbrev pub last_notices : ℕ → Option (Bool × (ℕ × List ℕ)) → List Notice
last_notices n None = []
last_notices n (Some e) = record { line = n; at = e.1.0; size = length e.1.1; kind = NamedTrail } ∷ []

-- the name at the end of the trailing context of the rule at line n with this text, where a `|` divides more so
abbrev pub named_notices : List (ℕ × List ℕ) → ℕ → List ℕ → List Notice
named_notices definitions n text =
    let end = last_piece true (behind_slash (pieces_from 0 0 text)) in
    if loses_bar most_names definitions (last_name end) then last_notices n end else []

-- a name stands at the end of the trailing context of a rule with this text
abbrev pub ends_in_name : List ℕ → Bool
ends_in_name text = is_some (last_name (last_piece true (behind_slash (pieces_from 0 0 text))))

-- so many of such rules are looked at
abbrev pub most_trails : ℕ
most_trails = 100

-- the first of these lines of a text at which such a rule stands
abbrev pub trail_lines : List (ℕ × List ℕ) → List ℕ → List ℕ
trail_lines lines rules = take most_trails (filter (λ n. ends_in_name (text_at lines n)) rules)

-- of those of the rules at these lines of a text
abbrev pub named_trails : List (ℕ × List ℕ) → List (ℕ × List ℕ) → List ℕ → List Notice
named_trails definitions lines rules =
    flat_map (λ n. named_notices definitions n (text_at lines n)) (trail_lines lines rules)
