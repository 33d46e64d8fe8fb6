-- What the reader of a rule answers.
use Rattle.std.specs.Prelude.{◌≡◌, ℕ, ◌+◌, ◌<◌, Bool, true, List, ◌∷◌, ◌++◌, map, length, Option, Some, option_map}
use Rattle.lex_semantics.specs.Spec.{Cut, Rule}
use Rattle.lex_semantics.specs.Tree.{Tree}
use Rattle.lexre.specs.Spelling.{Spells}
use Rattle.lexspec_actions.specs.Names.{number_from, names_of}
use Rattle.lexspec.specs.ItemRuns.{Item, rule, IsLine, Trailing, at_end, matching, brings_rule}
use Rattle.lexspec.specs.Items.{Conditions, action_of}
use Rattle.lex_semantics.specs.Sound.{IsCutOf}
use Rattle.lexspec.specs.RuleItems.{numbers_of, EndRule}
use Rattle.lexspec.specs.WaitingRules.{Left, IsTrail, HasHead}
use Rattle.lexspec.specs.RuleViews.{rule_of}
use Rattle.lexspec.specs.EndRules.{end_rule_of}
use Rattle.lexspec.specs.Files.{AreSingle}
use Rattle.lex_semantics.specs.Limits.{max_rules}
use Rattle.lexre_bytes.specs.declared.refusals.SpecErrorKind.{SpecErrorKind}
use Rattle.lexre_bytes.specs.declared.refusals.SpecErrorKind.TheVariants.{DanglingBar}
use Rattle.lexspec_lines.specs.Outcome.{UnlessMemory}
use Rattle.lexspec_lines.specs.declared.declarations.Declarations.{Declarations}
use Rattle.lexspec.specs.declared.rule_text.Front.{Front}
use Rattle.lexspec.specs.declared.rule_text.Front.TheVariants as F
use Rattle.lexspec.specs.declared.rule_text.RuleText.{RuleText}
use Rattle.lexspec.specs.declared.rules_so_far.RulesSoFar.{RulesSoFar}

-- the names that rules may list, as the code keeps them
abbrev pub names_in : Declarations → List (List ℕ)
names_in d = names_of d.conditions.items

-- no item that begins the text has rules, whatever items follow it
abbrev pub NoRules : Declarations → List ℕ → Type 0
NoRules d t = (n : ℕ) (i : Item) (next : List ℕ) (is : List (ℕ × Item)) (w R : List Rule) (E : List EndRule)
    → IsLine t i next → Left (names_in d) d.options d.stack d.definitions ((n, i) ∷ is) w R E → ⊥

-- the sides of a pattern have no trees, or neither gives a cut
abbrev pub NoSides : Declarations → List ℕ → Trailing → Type 0
NoSides d head after =
    (h : Tree) (t : Option Tree) (cut : Cut) → Spells d.options d.definitions head h
    → IsTrail d.options d.definitions after t → IsCutOf h t cut → ⊥

-- a rule with a pattern begins the text t, at the line n
pub record ReadsRule (d : Declarations) (n : ℕ) (t action rest : List ℕ) (r : Rule) : Type 0 where
  pub asked : Conditions
  pub anchored : Bool
  pub head : List ℕ
  pub after : Trailing
  pub item : IsLine t (rule asked (matching anchored head after) (action_of action)) rest
  pub has_head : HasHead (names_in d) d.options d.stack d.definitions n asked anchored head after r

-- an `<<EOF>>` rule begins it
pub record ReadsEnd (d : Declarations) (t action rest : List ℕ) (numbers : Option (List ℕ)) : Type 0 where
  pub asked : Conditions
  pub item : IsLine t (rule asked at_end (action_of action)) rest
  pub numbered : numbers_of (number_from 0 (names_in d)) (length (names_in d)) asked ≡ Some numbers

abbrev pub ReadsFront : Declarations → ℕ → List ℕ → List ℕ → List ℕ → Front → Type 0
ReadsFront d n t action rest (F.Matching r) = ReadsRule d n t action rest (rule_of r)
ReadsFront d n t action rest (F.AtEnd numbers) = ReadsEnd d t action rest (option_map (λ v. v.items) numbers)

abbrev pub ReadsItem : Declarations → ℕ → List ℕ → RuleText → Type 0
ReadsItem d n t x = ReadsFront d n t x.action.now x.rest.now x.front

-- an item brings a rule only where there is room for one, and no condition has two ends
abbrev pub MayFollow : Declarations → RulesSoFar → Item → List EndRule → Type 0
MayFollow d s i E =
    (brings_rule i ≡ true → length s.rules.items + length s.waiting.items < max_rules)
    × AreSingle (length d.conditions.items) (map end_rule_of s.ends.items ++ E)

-- no item that begins the text, at the line n, may follow these rules, whatever items follow it
abbrev pub NoneLeft : Declarations → RulesSoFar → ℕ → List ℕ → Type 0
NoneLeft d s n t = (i : Item) (next : List ℕ) (is : List (ℕ × Item)) (R : List Rule) (E : List EndRule)
    → IsLine t i next
    → Left (names_in d) d.options d.stack d.definitions ((n, i) ∷ is) (map rule_of s.waiting.items) R E
    → MayFollow d s i E → ⊥

-- rules wait for the action of the next one
abbrev pub SomeWait : RulesSoFar → Type 0
SomeWait s = length s.waiting.items ≡ 0 → ⊥

-- The item that begins the text may not follow, unless memory ran out. It is told as a `|` only where rules wait.
abbrev pub RefusesItem : Declarations → RulesSoFar → ℕ → List ℕ → SpecErrorKind → Type 0
RefusesItem d s n t e = UnlessMemory e (NoneLeft d s n t) × (e ≡ DanglingBar → SomeWait s)

-- so for a rule with this front and this action
abbrev pub NoRulesAfter : Declarations → RulesSoFar → Front → List ℕ → Type 0
NoRulesAfter d s front action = (n : ℕ) (t rest : List ℕ) → ReadsFront d n t action rest front → NoneLeft d s n t
