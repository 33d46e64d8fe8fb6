-- Trailing context behind a rule whose action is `|`. (flex 2.6.4, as it was tried: it takes such a context to vary in
-- length, and behind `r$` the next match is at the start of a line: docs/MANUAL.md, Differences from lex and flex.)
use Rattle.std.specs.Prelude.{ℕ, ◌-◌, ◌==◌, ◌&&◌, ◌||◌, Bool, true, false, if◌then◌else◌, List, [], ◌∷◌, ◌++◌, length, Option, Some, None, slice_get, codes}
use Rattle.std.specs.Option.{option_map_or}
use Rattle.lex_semantics.specs.ByteSets.{same_bytes}
use Rattle.lex_semantics.specs.Reading.{after_blanks}
use Rattle.lexlook_text.specs.Pieces.{behind_pattern, pieces_from}
use Rattle.lexlook_check.specs.FlexTrails.{sign_notices}
use Rattle.lexlook_check.specs.declared.notices.Notice.{Notice}
use Rattle.lexlook_check.specs.declared.notices.NoticeKind.TheVariants.{BarTrail}

-- nothing more stands in the line (10 ends it, and 13 may stand before that)
abbrev pub is_all_of_line : List ℕ → Bool
is_all_of_line [] = true
is_all_of_line (c ∷ t) = c == 10 || c == 13

-- what follows a pattern begins with a `|` (124) that is the whole action
abbrev pub is_bar_action : List ℕ → Bool
is_bar_action [] = false
is_bar_action (c ∷ t) = c == 124 && is_all_of_line (after_blanks t)

-- the action of the rule that begins a line is `|`
abbrev pub has_bar : List ℕ → Bool
has_bar text = is_bar_action (after_blanks (behind_pattern 0 text))

-- the place of the first `/` of these pieces of a pattern, or else that of a `$` that is the last
abbrev pub trail_place : List (ℕ × List ℕ) → Option ℕ
trail_place [] = None
trail_place (p ∷ ps) =
    if same_bytes p.1 (codes "/") || (same_bytes p.1 (codes "$") && length ps == 0) then Some p.0 else trail_place ps

-- that of the rule at line n with this text, where it stands behind a rule with `|`
abbrev pub bar_notices : Bool → ℕ → List ℕ → List Notice
bar_notices behind n text = if behind then sign_notices n BarTrail (trail_place (pieces_from 0 0 text)) else []

-- the text of line n; nothing where there is none
abbrev pub text_at : List (ℕ × List ℕ) → ℕ → List ℕ
text_at lines n = option_map_or (λ l. l.1) (slice_get lines (n - 1)) []

-- of the rules at these lines, in their order; `behind` where one with `|` stands before them
abbrev pub bar_trails : List (ℕ × List ℕ) → Bool → List ℕ → List Notice
bar_trails lines behind [] = []
bar_trails lines behind (n ∷ ns) =
    let text = text_at lines n in bar_notices behind n text ++ bar_trails lines (has_bar text) ns
