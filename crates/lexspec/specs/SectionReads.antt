-- What the reader of the rules section answers.
use Rattle.std.specs.Prelude.{ℕ, ◌≤◌, ◌-◌, Some, None, slice_get, List, map, length}
use Rattle.lex_semantics.specs.Spec.{Rule}
use Rattle.lexspec.specs.WaitingRules.{RulesFrom}
use Rattle.lexspec.specs.RuleItems.{EndRule}
use Rattle.lexspec.specs.RuleViews.{rule_of}
use Rattle.lexspec.specs.EndRules.{end_rule_of}
use Rattle.lexspec.specs.Files.{AreSingle}
use Rattle.lexspec.specs.FaultLines.{IsFirstFault}
use Rattle.lexre_bytes.specs.declared.refusals.SpecError.{SpecError}
use Rattle.lexspec.specs.ItemReads.{names_in}
use Rattle.lex_semantics.specs.Sound.{HaveSoundSides}
use Rattle.lexspec_lines.specs.declared.declarations.Declarations.{Declarations}
use Rattle.lexspec.specs.declared.rule.Rule.{Rule as RuleKept}
use Rattle.lexspec.specs.declared.rules_section.RulesSection.{RulesSection}
use Rattle.lexspec.specs.ItemRuns.{ItemsFrom, EndsRules, Item}
use Rattle.lex_semantics.specs.Limits.{max_rules}

-- the items of the text, which begins at the line n, and the rules that they spell; after them nothing is left, or a
-- line of `%%`
pub record HasRules (d : Declarations) (n : ℕ) (text : List ℕ) (s : RulesSection) : Type 0 where
  pub items : List (ℕ × Item)
  pub here : ItemsFrom n text items
  pub are : RulesFrom (names_in d) d.options d.stack d.definitions items (map rule_of s.rules.items)
      (map end_rule_of s.ends.items)
  pub stops : EndsRules s.rest.now
  pub sound : HaveSoundSides (map rule_of s.rules.items)
  pub single : AreSingle (length d.conditions.items) (map end_rule_of s.ends.items)
  pub few : length s.rules.items ≤ max_rules

-- the items of the text spell no rules, or too many, or two ends of a condition
abbrev pub NoSuchRules : Declarations → ℕ → List ℕ → Type 0
NoSuchRules d n text =
    (items : List (ℕ × Item)) (rules : List Rule) (ends : List EndRule) → ItemsFrom n text items
    → RulesFrom (names_in d) d.options d.stack d.definitions items rules ends
    → length rules ≤ max_rules → AreSingle (length d.conditions.items) ends → ⊥

-- a refusal: the items spell no rules, and the first faulty line is told
pub record IsRefused (d : Declarations) (n : ℕ) (text : List ℕ) (e : SpecError) : Type 0 where
  pub none : NoSuchRules d n text
  pub first : IsFirstFault (names_in d) d.options d.stack d.definitions n text e
  pub from_first : n ≤ e.line

-- the line of the last rule that waits for an action, or else n
abbrev pub line_of_last : ℕ → List RuleKept → ℕ
line_of_last n waiting = elim (slice_get waiting (length waiting - 1)) [ None ↦ n | Some r ↦ r.line ]
