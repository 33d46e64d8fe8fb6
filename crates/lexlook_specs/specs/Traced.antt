-- The specification that tells its matches. (flex, Scanner Options: `-d`. What becomes of statements that write is this
-- project's.)
use Rattle.std.specs.Prelude.{ℕ, suc, ◌&&◌, Bool, true, false, nat_lt, List, [], ◌∷◌, ◌++◌, length, map, Some, None, codes, decimal}
use Rattle.std.specs.List.{concat, filter}
use Rattle.lex_semantics.specs.ByteSets.{complement, empty_set}
use Rattle.lex_semantics.specs.Limits.{max_rules}
use Rattle.lex_semantics.specs.Spec.{Spec, Condition, Rule, Statement, Echo, Print, Whole}
use Rattle.lex_semantics.specs.Text.{listed}
use Rattle.lex_semantics.specs.Tree.{Set}
use Rattle.lexspec_actions.specs.Actions.{are_few}

-- what is written before the text of a rule in this line, before that of the default rule, and after each
abbrev pub rule_front : ℕ → List ℕ
rule_front line = concat (codes "--accepting rule at line " ∷ decimal line ∷ codes " (\"" ∷ [])

abbrev pub default_front : List ℕ
default_front = codes "--accepting default rule (\""

abbrev pub text_end : List ℕ
text_end = codes "\")\n"

-- what is written at the end of the input in a condition
abbrev pub end_line : ℕ → List ℕ
end_line c = concat (codes "--EOF (start condition " ∷ decimal c ∷ codes ")\n" ∷ [])

-- a statement that writes nothing
abbrev pub steers : Statement → Bool
steers Echo = false
steers (Print s) = false
steers other = true

-- An action writes the line of its match, and then does of the old one what writes nothing, in its order.
abbrev pub telling : List ℕ → List Statement → List Statement
telling front ss = Print front ∷ Echo ∷ Print text_end ∷ filter steers ss

abbrev pub traced_rule : Rule → Rule
traced_rule r = record r { statements = telling (rule_front r.line) r.statements }

-- any byte, in each of n conditions (flex, Patterns: `<*>.|\n`)
abbrev pub default_rule : ℕ → Rule
default_rule n = record {
  line = 0;
  conditions = Some (listed (λ c. true) 0 n);
  anchored = false;
  head = Set (complement empty_set);
  trail = None;
  cut = Whole;
  statements = telling default_front [];
}

-- the conditions from number c on
abbrev pub traced_conditions : ℕ → List Condition → List Condition
traced_conditions c [] = []
traced_conditions c (k ∷ ks) =
    record k { end = record { print = end_line c; status = k.end.status } } ∷ traced_conditions (suc c) ks

-- The rules of the specification with actions that tell, and after them the default rule.
abbrev pub traced : Spec → Spec
traced S = record {
  conditions = traced_conditions 0 S.conditions;
  rules = map traced_rule S.rules ++ default_rule (length S.conditions) ∷ [];
}

-- an action that tells has no more statements, and bytes that it writes, than an action may have
abbrev pub is_short : Rule → Bool
is_short r = are_few (telling (rule_front r.line) r.statements)

abbrev pub are_short : List Rule → Bool
are_short [] = true
are_short (r ∷ rs) = is_short r && are_short rs

-- there is room for one more rule, and in each action for the line
abbrev pub has_room : Spec → Bool
has_room S = nat_lt (length S.rules) max_rules && are_short S.rules
