-- Carriage returns that stand before no newline, and so end no line. (This project's: one before a newline is dropped,
-- and any other is a byte.)
use Rattle.std.specs.Prelude.{ℕ, suc, ◌==◌, ◌&&◌, ◌||◌, Bool, true, false, not, if◌then◌else◌, List, [], ◌∷◌, flat_map, Option, Some, None, codes}
use Rattle.lex_semantics.specs.Reading.{begins}
use Rattle.lexlook_text.specs.DefinitionLines.{lines_from}
use Rattle.lexlook_check.specs.FlexTrails.{sign_notices}
use Rattle.lexlook_check.specs.declared.notices.Notice.{Notice}
use Rattle.lexlook_check.specs.declared.notices.NoticeKind.TheVariants.{LoneReturn}

-- a byte before this text is such a one (13)
abbrev pub is_lone : ℕ → List ℕ → Bool
is_lone c t = c == 13 && not (begins (codes "\n") t)

-- one stands in the text
abbrev pub has_lone_return : List ℕ → Bool
has_lone_return [] = false
has_lone_return (c ∷ t) = is_lone c t || has_lone_return t

-- the place of the first in the line that begins the text, which a newline (10) ends; n bytes of it stand before
abbrev pub lone_place : ℕ → List ℕ → Option ℕ
lone_place n [] = None
lone_place n (c ∷ t) = if c == 10 then None else if is_lone c t then Some n else lone_place (suc n) t

-- of a line
abbrev pub return_notices : ℕ × List ℕ → List Notice
return_notices l = sign_notices l.0 LoneReturn (lone_place 0 l.1)

-- of each line of a text
abbrev pub lone_returns : List ℕ → List Notice
lone_returns text = flat_map return_notices (lines_from 1 true text)
