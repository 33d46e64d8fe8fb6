-- Definitions that no pattern uses. (POSIX, lex, Definitions in lex: a name in braces stands for its definition.)
use Rattle.std.specs.Prelude.{ℕ, ◌==◌, ◌&&◌, ◌||◌, nat_lt, Bool, false, if◌then◌else◌, List, [], ◌∷◌, length}
use Rattle.lex_semantics.specs.ByteSets.{same_bytes}
use Rattle.lex_semantics.specs.Reading.{goes_on_name, take_run}
use Rattle.lexlook_check.specs.declared.notices.Notice.{Notice}
use Rattle.lexlook_check.specs.declared.notices.NoticeKind.TheVariants.{UnusedDefinition}

-- the names of so many definitions are looked for at most, and so many rules are followed into definitions
abbrev pub max_looked_for : ℕ
max_looked_for = 1000

-- the bytes at the front with which a name may go on
abbrev pub name_there : List ℕ → List ℕ
name_there text = (take_run goes_on_name text).0

-- the name stands behind some `{` (123) of the text
abbrev pub stands_in : List ℕ → List ℕ → Bool
stands_in name [] = false
stands_in name (c ∷ t) = (c == 123 && same_bytes (name_there t) name) || stands_in name t

-- the definition whose line begins the text, where it stands at the line `own` or behind it and its name stands in the
-- whole nowhere in braces: what is told is its name
abbrev pub unused_notices : ℕ → List ℕ → ℕ × List ℕ → List Notice
unused_notices own whole l =
    let name = name_there l.1 in
    if nat_lt l.0 own || stands_in name whole then []
    else record { line = l.0; at = 0; size = length name; kind = UnusedDefinition } ∷ []
