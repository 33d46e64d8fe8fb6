-- The line that tells of what two files do not do the same. (This project's.)
use Rattle.std.specs.Prelude.{◌≡◌, ℕ, Bool, true, false, if◌then◌else◌, nat_lt, List, [], ◌∷◌, ◌++◌, slice_index, slice_index_or, length, Option, Some, None, IfSome, codes, decimal}
use Rattle.std.specs.List.{concat, flat_map}
use Rattle.lex_semantics.specs.Spec.{Spec}
use Rattle.lex_semantics.specs.Machine.{Machine, state_after}
use Rattle.lexlook_specs.specs.Pictures.{in_quotes}
use Rattle.lexlook_tables.specs.Same.{is_single, number_in, rules_at}
use Rattle.lexlook_tables.specs.declared.same.differing.Difference.{Difference}
use Rattle.lexlook_tables.specs.declared.same.tables.Comparison.{Comparison}
use Rattle.lexlook_tables.specs.declared.same.tables.Comparison.TheVariants.{Same, Conditions, Ends, Texts}
use Rattle.lextab_packed.specs.Machines.{table_machine}
use Rattle.lexkit.specs.Generated.{lines_of}
use Rattle.lexlook_calls.specs.Looks.{names_of}
use Rattle.lexlook_calls.specs.Sides.{read_as}
use Rattle.lexlook_calls.specs.declared.sides.Side.{Side as Made}

-- a condition by its name in the specification, or without one by its number
abbrev pub condition_words : Option Spec → ℕ → List ℕ
condition_words (Some S) c = slice_index_or (names_of S.conditions) c []
condition_words None c = codes "condition " ++ decimal c

-- a rule by its line in the specification, or without one by its number
abbrev pub rule_words : Option Spec → ℕ → List ℕ
rule_words (Some S) i = codes " line " ++ decimal (slice_index (lines_of S.rules) i)
rule_words None i = codes " rule " ++ decimal i

-- A rule of which a match asks: there are so many, and the default rule has the number after them.
abbrev pub asked_words : Option Spec → ℕ → ℕ → List ℕ
asked_words given count i = if nat_lt i count then rule_words given i else codes " the default rule"

-- the rules of which a match asks
abbrev pub taken : Option Spec → ℕ → List ℕ → List ℕ
taken given count [] = codes " nothing"
taken given count (i ∷ is) = flat_map (asked_words given count) (i ∷ is)

abbrev pub start_words : Bool → List ℕ
start_words true = codes " at the start of a line"
start_words false = []

-- the specification that names the conditions of both
abbrev pub naming : Option Spec → Option Spec → Option Spec
naming (Some S) other = Some S
naming None other = other

-- a file's name, and what it does
abbrev pub side_words : List ℕ → Option Spec → ℕ → List ℕ → List ℕ
side_words name given count rules = name ++ taken given count rules

abbrev pub text_place : Option Spec → Difference → List ℕ
text_place given d = concat (
    codes "in " ∷ condition_words given d.condition ∷ start_words d.line_start ∷ codes " after \""
    ∷ flat_map in_quotes d.text.items
    ∷ codes "\": " ∷ [])

abbrev pub both : List ℕ → List ℕ → List ℕ
both name name' = concat (name ∷ codes " and " ∷ name' ∷ [])

-- a file that is compared: its name, its machine, and the specification if it is one
pub record Side : Type 0 where
  pub name : List ℕ
  pub machine : Machine
  pub given : Option Spec

abbrev pub side_as : List ℕ → Made → Side
side_as name s = record { name = name; machine = table_machine s.tables; given = read_as s.spec }

-- each of its conditions has a name, and each of its rules a line
abbrev pub IsLabelled : Side → Type 0
IsLabelled a = IfSome a.given (λ S. (length S.conditions ≡ a.machine.conditions) × (length S.rules ≡ a.machine.count))

abbrev pub taken_by : Side → ℕ → Difference → List ℕ
taken_by a c d =
    side_words a.name a.given a.machine.count
    (rules_at (is_single d.text.items) a.machine (state_after a.machine c d.line_start d.text.items))

-- the line of what is told, and none where they do the same
abbrev pub told_line : Side → Side → List ℕ → Comparison → List ℕ
told_line a b order Same = []
told_line a b order Conditions = both a.name b.name ++ codes " have different start conditions\n"
told_line a b order (Ends c) = concat (
    codes "in " ∷ condition_words (naming a.given b.given) c ∷ codes " at the end of the input " ∷ both a.name b.name
    ∷ codes " do different things" ∷ codes "\n" ∷ [])
told_line a b order (Texts d) = concat (
    text_place (naming a.given b.given) d ∷ taken_by a d.condition d ∷ codes ", "
    ∷ taken_by b (number_in order d.condition) d
    ∷ codes "\n" ∷ [])
