-- Rules with trailing context whose text may be empty. (flex 2.6.4, as it was tried: where what follows is there it
-- matches the empty text, again and again: docs/MANUAL.md, Differences from lex and flex.)
use Rattle.std.specs.Prelude.{ℕ, ◌==◌, ◌&&◌, Bool, if◌then◌else◌, List, [], flat_map, is_some}
use Rattle.lex_semantics.specs.Spec.{Rule}
use Rattle.lex_semantics.specs.Tree.{Tree}
use Rattle.lexlook_text.specs.Pieces.{pieces_from}
use Rattle.lexre.specs.Lengths.{least}
use Rattle.lexlook_check.specs.BarTrails.{text_at, trail_place}
use Rattle.lexlook_check.specs.FlexTrails.{sign_notices}
use Rattle.lexlook_check.specs.declared.notices.Notice.{Notice}
use Rattle.lexlook_check.specs.declared.notices.NoticeKind.TheVariants.{EmptyHead}

-- the least text of a pattern has no byte
abbrev pub takes_empty : Tree → Bool
takes_empty t = least t == 0

-- the `/` of a rule, or the `$` at its end, where what stands before it may be empty
abbrev pub empty_notices : List (ℕ × List ℕ) → Rule → List Notice
empty_notices lines r =
    if is_some r.trail && takes_empty r.head
    then sign_notices r.line EmptyHead (trail_place (pieces_from 0 0 (text_at lines r.line)))
    else []

-- of the rules of a text with these lines
abbrev pub empty_heads : List (ℕ × List ℕ) → List Rule → List Notice
empty_heads lines rules = flat_map (empty_notices lines) rules
