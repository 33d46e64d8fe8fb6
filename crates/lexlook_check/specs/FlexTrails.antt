-- Trailing context that flex takes otherwise: it takes a side in which some signs stand to vary in length, whatever its
-- texts are. (flex 2.6.4, as it was tried: docs/MANUAL.md, Differences from lex and flex.)
use Rattle.std.specs.Prelude.{ℕ, ◌-◌, ◌==◌, ◌&&◌, ◌||◌, Bool, false, not, if◌then◌else◌, List, [], ◌∷◌, length, Option, Some, None, codes}
use Rattle.std.specs.List.{list_any}
use Rattle.lex_semantics.specs.Active.{contains}
use Rattle.lex_semantics.specs.ByteSets.{same_bytes}
use Rattle.lex_semantics.specs.Reading.{starts_name}
use Rattle.lexlook_text.specs.Pieces.{pieces_from}
use Rattle.lexlook_check.specs.LineWalks.{behind_list}
use Rattle.lexlook_check.specs.declared.notices.Notice.{Notice}
use Rattle.lexlook_check.specs.declared.notices.NoticeKind.{NoticeKind}
use Rattle.lexlook_check.specs.declared.notices.NoticeKind.TheVariants.{FlexTrail}

-- a piece by which flex takes the length to vary: a sign, or an interval, which a `{` (123) opens if no name follows it
abbrev pub varies_piece : List ℕ → Bool
varies_piece [] = false
varies_piece (c ∷ []) = contains (codes "*+?|") c
varies_piece (c ∷ d ∷ t) = c == 123 && not (starts_name d)

abbrev pub any_varies : List (ℕ × List ℕ) → Bool
any_varies pieces = list_any (λ p. varies_piece p.1) pieces

-- a `/` at this place, where such a piece stands before it, and one among these behind it
abbrev pub slash_if : Bool → List (ℕ × List ℕ) → ℕ → Option ℕ
slash_if varies behind at = if varies && any_varies behind then Some at else None

-- the place of the `/`, where such pieces stand on both sides of it; `varies` where one stands before these
abbrev pub slash_varies : Bool → List (ℕ × List ℕ) → Option ℕ
slash_varies varies [] = None
slash_varies varies (p ∷ ps) =
    if same_bytes p.1 (codes "/") then slash_if varies ps p.0 else slash_varies (varies || varies_piece p.1) ps

-- the sign of a line at this place, if there is one, for which this is warned of
abbrev pub sign_notices : ℕ → NoticeKind → Option ℕ → List Notice
sign_notices line kind None = []
sign_notices line kind (Some at) = record { line = line; at = at; size = 1; kind = kind } ∷ []

-- the slash of the rule that begins a line, where flex takes both of its sides to vary
abbrev pub trail_notices : ℕ × List ℕ → List Notice
trail_notices l =
    let text = behind_list l.1 in
    sign_notices l.0 FlexTrail (slash_varies false (pieces_from (length l.1 - length text) 0 text))
