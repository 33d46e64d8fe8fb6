-- Rules that walk a line at each of its bytes. (This project's. POSIX, lex: the longest text is taken, and `.` is each
-- byte but a newline.)
use Rattle.std.specs.Prelude.{ℕ, ◌-◌, ◌==◌, ◌&&◌, ◌||◌, Bool, false, not, if◌then◌else◌, List, [], ◌∷◌, length, drop, codes}
use Rattle.lex_semantics.specs.Active.{contains}
use Rattle.lex_semantics.specs.Reading.{begins, is_white}
use Rattle.lexspec_lines.specs.Runs.{split_before}
use Rattle.lexlook_check.specs.declared.notices.Notice.{Notice}
use Rattle.lexlook_check.specs.declared.notices.NoticeKind.TheVariants.{LineWalk}

-- behind the condition list of a rule, which a `<` opens, and a `>` (62) ends
abbrev pub behind_list : List ℕ → List ℕ
behind_list text =
    if begins (codes "<") text && not (begins (codes "<<") text)
    then drop 1 (split_before (λ b. b == 62 || b == 10) text).1
    else text

-- what follows a class at the front that has each byte but a newline; nothing where there is none
abbrev pub behind_line_class : List ℕ → List ℕ
behind_line_class text =
    if begins (codes ".") text then drop 1 text
    else if begins (codes "[^\\n]") text then drop 5 text
    else []

-- a pattern goes on with the text: with more than what ends it, its branch, what is taken, or the line
abbrev pub goes_on_pattern : List ℕ → Bool
goes_on_pattern [] = false
goes_on_pattern (c ∷ t) = not (is_white c || contains (codes "$|/") c || begins (codes "\\n") (c ∷ t))

-- the text begins with a `*` (42) or a `+` (43), and a pattern goes on behind it
abbrev pub walks_on : List ℕ → Bool
walks_on [] = false
walks_on (c ∷ t) = (c == 42 || c == 43) && goes_on_pattern t

-- The rule that begins a line walks to the end of a line before it is known whether it matches. What is told is the
-- place of its first class.
abbrev pub walk_notices : ℕ × List ℕ → List Notice
walk_notices l =
    let text = behind_list l.1 in
    let rest = behind_line_class text in
    if walks_on rest
    then record { line = l.0; at = length l.1 - length text; size = length text - length rest; kind = LineWalk } ∷ []
    else []
