-- In which start condition a scan comes to the end of its input. (flex, End-of-File Rules; POSIX, lex, has no such
-- rules.)
use Rattle.std.specs.Prelude.{◌≡◌, ℕ, Bool, true, false, cond, List, length, fold, Option, Some, None}
use Rattle.std.specs.List.{list_any}
use Rattle.lex_semantics.specs.Demand.{Consistent}
use Rattle.lex_semantics.specs.Rules.{Rules}
use Rattle.lex_semantics.specs.Run.{State, Turns}
use Rattle.lex_semantics.specs.Spec.{Statement, End}
use Rattle.lexscan.specs.Tokens.{TokensOf}
use Rattle.lexscan.specs.declared.token.Token.{Token}
use Rattle.lexscan_window.specs.declared.matched.MatchedRule.{MatchedRule}
use Rattle.lexscan_window.specs.declared.matched.MatchedRule.TheVariants.{Numbered, Default}

-- A turn stands at the end of the input in this condition, so it carries out the condition's end rule.
abbrev pub EndsIn : Rules → List ℕ → ℕ → Type 0
EndsIn R x c =
    (n : ℕ) × (s : State) × Turns R x n s × (s.ended ≡ None) × (s.place.at ≡ length x) × (s.place.condition ≡ c)

-- the condition where that is so, or none, since a rule has ended the scan
abbrev pub IsEndOf : Rules → List ℕ → Option ℕ → Type 0
IsEndOf R x (Some c) = EndsIn R x c
IsEndOf R x None = (c : ℕ) → EndsIn R x c → ⊥

-- Over every input that goes on so, that is it.
abbrev pub EndsSo : Rules → List ℕ → Bool → Option ℕ → Type 0
EndsSo R given at_end ended = (x : List ℕ) → Consistent given at_end x → IsEndOf R x ended

-- whether an action ends the scan: it has exit or yyterminate
abbrev pub is_exit : Statement → Bool
is_exit (End status) = true
is_exit other = false

abbrev pub has_exit : List Statement → Bool
has_exit ss = list_any is_exit ss

abbrev pub exits_by : Rules → MatchedRule → Bool
exits_by R (Numbered i) = has_exit (R.statements i)
exits_by R Default = false

-- the rule of the last of these tokens, and whether its action does
abbrev pub last_rule : List Token → Option MatchedRule
last_rule us = fold (λ before t. Some t.rule) None us

abbrev pub exits_last : (MatchedRule → Bool) → Option MatchedRule → Bool
exits_last exits_in None = false
exits_last exits_in (Some rule) = exits_in rule

-- where the scan ends then, whose last condition is this one
abbrev pub ended_in : Bool → ℕ → Option ℕ
ended_in exited condition = cond exited None (Some condition)

-- After some turns, of which these are the tokens, the scan is in this condition; and so over every input that goes on
-- so.
abbrev pub ComesTo : Rules → List ℕ → List Token → ℕ → Type 0
ComesTo R x us c = (n : ℕ) × (s : State) × Turns R x n s × TokensOf R x n us × (s.place.condition ≡ c)

abbrev pub ComesToSo : Rules → List ℕ → Bool → List Token → ℕ → Type 0
ComesToSo R given at_end us c = (x : List ℕ) → Consistent given at_end x → ComesTo R x us c
