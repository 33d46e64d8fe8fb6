-- The name of a rule. (What a name is: ISO C, Identifiers. That what a rule writes first is its name: this project's.)
use Rattle.std.specs.Prelude.{ℕ, Bool, not, ◌&&◌, ◌||◌, ◌==◌, if◌then◌else◌, List, [], ◌∷◌, take}
use Rattle.std.specs.List.{list_all, list_any}
use Rattle.lex_semantics.specs.ByteSets.{is_alnum}
use Rattle.lex_semantics.specs.Reading.{starts_name, take_run}
use Rattle.lex_semantics.specs.Spec.{Statement, Print}

-- the first literal that an action writes, and no byte where it writes none
abbrev pub first_literal : List Statement → List ℕ
first_literal [] = []
first_literal (Print bytes ∷ ss) = bytes
first_literal (s ∷ ss) = first_literal ss

-- the bytes before the first newline
abbrev pub first_line : List ℕ → List ℕ
first_line bytes = (take_run (λ b. not (b == 10)) bytes).0

-- a letter, a digit or `_`
abbrev pub continues_name : ℕ → Bool
continues_name b = is_alnum b || b == 95

-- letters, digits and `_`, and no digit first
abbrev pub is_c_name : List ℕ → Bool
is_c_name bytes = list_any starts_name (take 1 bytes) && list_all continues_name bytes

-- The name of a rule that does this: the first line of its first literal, and no byte where that is no name.
abbrev pub rule_name : List Statement → List ℕ
rule_name ss = let line = first_line (first_literal ss) in if is_c_name line then line else []
