-- What the reader of files makes of the parts of a file.
use Rattle.std.specs.Prelude.{◌≡◌, ℕ, ◌+◌, ◌-◌, ◌≤◌, List, ◌++◌, map, length}
use Rattle.lex_semantics.specs.Spec.{Spec}
use Rattle.lexspec_lines.specs.Lines.{line_in, newlines}
use Rattle.lexspec_lines.specs.SkippedCode.{told_lines}
use Rattle.lexspec_lines.specs.Skips.{AreFrom}
use Rattle.std.specs.Prelude.{flat_map}
use Rattle.lexspec.specs.WaitingRules.{RulesFrom}
use Rattle.lexspec.specs.Skipped.{user_section}
use Rattle.lexspec.specs.RuleItems.{EndRule}
use Rattle.lexspec.specs.RuleViews.{rule_of}
use Rattle.lexspec.specs.EndRules.{end_rule_of}
use Rattle.lexspec.specs.Files.{AreSingle}
use Rattle.lexspec.specs.Endings.{conditions_with}
use Rattle.lexspec.specs.FaultLines.{IsFirstFault}
use Rattle.lexre_bytes.specs.declared.refusals.SpecError.{SpecError}
use Rattle.lexspec_lines.specs.Declaring.{declared_of}
use Rattle.lexspec.specs.ItemReads.{names_in}
use Rattle.lexspec_lines.specs.declared.declarations.Declarations.{Declarations}
use Rattle.lexspec.specs.declared.rules_section.RulesSection.{RulesSection}
use Rattle.lexspec.specs.ItemRuns.{ItemsFrom, EndsRules, Item, IsLine, code_of_item}
use Rattle.lexspec_lines.specs.declared.section.Section.{Section}
use Rattle.lex_semantics.specs.Limits.{max_rules}

-- the specification of what the two sections declare and spell
abbrev pub of_sections : Declarations → RulesSection → Spec
of_sections d x =
    record {
      conditions = conditions_with 0 (map declared_of d.conditions.items) (map end_rule_of x.ends.items);
      rules = map rule_of x.rules.items;
    }

-- what follows the first section spells this specification, by what that declares
pub record SpellsRest (s : Section) (S : Spec) : Type 0 where
  pub items : List (ℕ × Item)
  pub here : ItemsFrom (s.line + 1) (line_in s.rest.now).1 items
  pub ends : List EndRule
  pub are : RulesFrom (names_in s.declarations) s.declarations.options s.declarations.stack s.declarations.definitions
      items S.rules ends
  pub one_end : AreSingle (length s.declarations.conditions.items) ends
  pub conditions : S.conditions ≡ conditions_with 0 (map declared_of s.declarations.conditions.items) ends
  pub few_rules : length S.rules ≤ max_rules

-- what follows the first section spells none, and its first faulty line is told
pub record IsRefusedRest (s : Section) (e : SpecError) : Type 0 where
  pub none : (S : Spec) → SpellsRest s S → ⊥
  pub first : IsFirstFault (names_in s.declarations) s.declarations.options s.declarations.stack
      s.declarations.definitions (s.line + 1) (line_in s.rest.now).1 e
  pub line : 1 ≤ e.line

-- the lines at which code was skipped are those of the first section, and of what follows it
pub record SkipsRest (s : Section) (lines : List ℕ) : Type 0 where
  pub items : List (ℕ × Item)
  pub rest : List ℕ
  pub pieces : AreFrom IsLine (s.line + 1) (line_in s.rest.now).1 items rest
  pub stops : EndsRules rest
  pub lines_are : lines ≡ s.declarations.skipped.lines.items ++ told_lines 0 (flat_map code_of_item items)
      ++ user_section (s.line + 1 + newlines (line_in s.rest.now).1 - newlines rest) rest
