-- `<<EOF>>` rules whose action does not end the scan. (flex 2.6.4, as it was tried: the end is met again then, for
-- ever: docs/MANUAL.md, Differences from lex and flex.)
use Rattle.std.specs.Prelude.{ℕ, ◌-◌, ◌&&◌, Bool, if◌then◌else◌, List, [], ◌∷◌, length, drop, codes}
use Rattle.lex_semantics.specs.Reading.{begins}
use Rattle.lexlook_text.specs.Spots.{prints_alone}
use Rattle.lexlook_check.specs.LineWalks.{behind_list}
use Rattle.lexlook_check.specs.declared.notices.Notice.{Notice}
use Rattle.lexlook_check.specs.declared.notices.NoticeKind.TheVariants.{EndAgain}

-- what stands behind the condition list of a rule is an `<<EOF>>` and an action that prints alone
abbrev pub meets_again : List ℕ → Bool
meets_again rule = begins (codes "<<EOF>>") rule && prints_alone (drop 7 rule)

-- the `<<EOF>>` of such a rule, which begins a line
abbrev pub end_notices : ℕ × List ℕ → List Notice
end_notices l =
    let rule = behind_list l.1 in
    if meets_again rule then record { line = l.0; at = length l.1 - length rule; size = 7; kind = EndAgain } ∷ []
    else []
