-- By which of its statements a rule stands against cuts of an input at its newlines. (This project's.)
use Rattle.std.specs.Prelude.{ℕ, Bool, true, false, if◌then◌else◌, List, codes}
use Rattle.std.specs.List.{list_any}
use Rattle.lex_semantics.specs.Legal.{has_more}
use Rattle.lex_semantics.specs.Spec.{Statement, End, Push, Pop}

-- it ends the scan (flex, Actions: yyterminate; exit)
abbrev pub is_end : Statement → Bool
is_end (End status) = true
is_end other = false

-- it uses the stack of conditions (flex, Start Conditions)
abbrev pub uses_stack : Statement → Bool
uses_stack (Push d) = true
uses_stack Pop = true
uses_stack other = false

-- what an action does that may stand nowhere
abbrev pub unsteady_words : List Statement → List ℕ
unsteady_words ss =
    if list_any is_end ss then codes "it ends the scan"
    else if list_any uses_stack ss then codes "it uses the stack of conditions"
    else codes "it has BEGIN and REJECT"

-- what an action leaves that may not take a newline
abbrev pub straying_words : List Statement → List ℕ
straying_words ss = if has_more ss then codes "the text is kept" else codes "the scan is not in INITIAL"
