-- What is read so far, and what is left.
use Rattle.std.specs.Prelude.{◌≡◌, ℕ, ◌+◌, ◌-◌, ◌<◌, List, [], ◌∷◌, ◌++◌, map, length, take}
use Rattle.lex_semantics.specs.Spec.{Rule}
use Rattle.lexspec.specs.RuleItems.{EndRule}
use Rattle.lexspec.specs.WaitingRules.{Left}
use Rattle.lexspec.specs.RuleViews.{rule_of}
use Rattle.lexspec.specs.EndRules.{end_rule_of}
use Rattle.lexspec.specs.ItemReads.{names_in, ReadsFront}
use Rattle.lexspec.specs.ItemRuns.{Item, IsLine}
use Rattle.lexspec.specs.Keeping.{Keeps}
use Rattle.lexspec.specs.SkipViews.{TakesItem}
use Rattle.lexspec_lines.specs.Lines.{newlines}
use Rattle.lexspec_lines.specs.declared.skipped.Skipped.{Skipped}
use Rattle.lexspec.specs.declared.rule_text.Front.{Front}
use Rattle.lexspec_lines.specs.declared.declarations.Declarations.{Declarations}
use Rattle.lexspec.specs.declared.rules_so_far.RulesSoFar.{RulesSoFar}

-- The items that were read spell, with any others behind them, just the rules that were read with those that the others
-- spell, where some of those that were read wait.
pub record Agrees (d : Declarations) (before : List (ℕ × Item)) (s : RulesSoFar) : Type 0 where
  pub back : (is : List (ℕ × Item)) (R : List Rule) (E : List EndRule)
      → Left (names_in d) d.options d.stack d.definitions is (map rule_of s.waiting.items) R E
      → Left (names_in d) d.options d.stack d.definitions (before ++ is) [] (map rule_of s.rules.items ++ R)
      (map end_rule_of s.ends.items ++ E)
  pub on : (is : List (ℕ × Item)) (R : List Rule) (E : List EndRule)
      → Left (names_in d) d.options d.stack d.definitions (before ++ is) [] R E
      → (S : List Rule) × (F : List EndRule) × (R ≡ map rule_of s.rules.items ++ S)
      × (E ≡ map end_rule_of s.ends.items ++ F)
      × Left (names_in d) d.options d.stack d.definitions is (map rule_of s.waiting.items) S F

-- what agrees before the item that begins a text at the line n, agrees after it
abbrev pub Passes : Declarations → ℕ → List ℕ → List ℕ → RulesSoFar → RulesSoFar → Type 0
Passes d n t rest s later =
    (before : List (ℕ × Item)) → Agrees d before s → (i : Item) × IsLine t i rest
    × Agrees d (before ++ (n, i) ∷ []) later

-- so for a rule with this front and this action
abbrev pub GoesOn : Declarations → Front → List ℕ → RulesSoFar → RulesSoFar → Type 0
GoesOn d front action s later =
    (n : ℕ) (t rest : List ℕ) → ReadsFront d n t action rest front → Passes d n t rest s later

-- An item that begins a text at the line n is taken: it is read, what is kept to is kept, its code is told, and it has
-- a byte at least.
pub record IsTaken (d : Declarations) (n : ℕ) (t rest : List ℕ) (s later : RulesSoFar)
    (old new : Skipped) : Type 0 where
  pub found : Passes d n t rest s later
  pub keeps : Keeps d s → Keeps d later
  pub code : TakesItem n t rest old new
  pub counts : newlines (take (length t - length rest) t) + newlines rest ≡ newlines t
  pub shorter : length rest < length t
