-- Worked examples of condition lists and actions, each with what it spells.
use Rattle.std.specs.Prelude.{◌≡◌, ℕ, List, [], ◌∷◌, Option, Some, None, codes}
use Rattle.lexspec.specs.Items.{Conditions, unlisted, every, only, IsSides, conditions_at, action_at, action_of}

-- `<a,b>x`, `<*>x`, and `<<EOF>>`, which opens no list; a list that is not closed
abbrev pub ConditionLists : Type 0
ConditionLists =
    ◌≡◌ {A = Option (Conditions × List ℕ)} (conditions_at (codes "<a,b>x"))
    (Some (only (codes "a" ∷ codes "b" ∷ []), codes "x"))
    × ◌≡◌ {A = Option (Conditions × List ℕ)} (conditions_at (codes "<*>x")) (Some (every, codes "x"))
    × ◌≡◌ {A = Option (Conditions × List ℕ)} (conditions_at (codes "<<EOF>> ;")) (Some (unlisted, codes "<<EOF>> ;"))
    × (conditions_at (codes "<a") ≡ None)

-- A brace in a comment or in a string counts for nothing, and braces may stand on several lines. One that stays open
-- has no action. A bar alone takes the next action.
abbrev pub Actions : Type 0
Actions =
    ◌≡◌ {A = Option (List ℕ × List ℕ)} (action_at (codes "{ /* } */\n}\na")) (Some (codes "{ /* } */\n}", codes "a"))
    × ◌≡◌ {A = Option (List ℕ × List ℕ)} (action_at (codes "puts(\"{\");\n")) (Some (codes "puts(\"{\");", []))
    × ◌≡◌ {A = Option (List ℕ × List ℕ)} (action_at (codes "{ // }\n}\na")) (Some (codes "{ // }\n}", codes "a"))
    × (action_at (codes "{ ECHO;") ≡ None)
    × (action_of (codes "|  ") ≡ None)
    × (action_of (codes "| a") ≡ Some (codes "| a"))

-- the sides of `a`, of `a$`, whose trailing context is a newline, and of `a/b`, each before a blank
abbrev pub Sides : Type 0
Sides =
    IsSides (codes "a c") (codes "a") None (codes " c")
    × IsSides (codes "a$ c") (codes "a") (Some (codes "\\n")) (codes " c")
    × IsSides (codes "a/b c") (codes "a") (Some (codes "b")) (codes " c")
