-- What the parts of tables stand for.
use Rattle.std.specs.Prelude.{ℕ, Bool, List, map, zip}
use Rattle.lex_semantics.specs.Text.{flag}
use Rattle.lex_semantics.specs.Machine.{Machine}
use Rattle.lex_machine.specs.Views.{statement_of, end_action_of, cut_of}
use Rattle.lextab_packed.specs.Table as T
use Rattle.lextab_packed.specs.Steps.{machine_of_table}
use Rattle.lextab_packed.specs.declared.parts.TableCondition.{TableCondition}
use Rattle.lextab_packed.specs.declared.parts.TableRule.{TableRule}
use Rattle.lextab_packed.specs.declared.parts.Row.{Row}
use Rattle.lextab_packed.specs.declared.parts.TableParts.{TableParts}

abbrev pub table_of : TableParts → T.Table
table_of p = record {
  conditions =
      map (λ c. record { start = c.start; line_start = c.line_start; end = end_action_of c.end }) p.conditions.items;
  rules = map (λ r. record { cut = cut_of r.cut; statements = map statement_of r.statements.items }) p.rules.items;
  classes = p.classes;
  class_of = p.class_of.items;
  rows = map (λ r. record { default_target = r.default_target; base = r.base; rules = r.rules.items }) p.rows.items;
  slots = map (λ s. record { check = s.0; next = s.1 }) (zip p.checks.items p.nexts.items);
}

-- Names that proofs have for a condition, a rule, a row, the slots of two columns, and the machine of parts.
abbrev pub condition_of : TableCondition → T.ConditionOfTable
condition_of c = record { start = c.start; line_start = c.line_start; end = end_action_of c.end }

abbrev pub table_rule_of : TableRule → T.RuleOfTable
table_rule_of r = record { cut = cut_of r.cut; statements = map statement_of r.statements.items }

abbrev pub row_of : Row → T.Row
row_of r = record { default_target = r.default_target; base = r.base; rules = r.rules.items }

abbrev pub slots_of : List ℕ → List ℕ → List T.Slot
slots_of checks nexts = map (λ p. record { check = p.0; next = p.1 }) (zip checks nexts)

abbrev pub machine_of_parts : TableParts → List Bool → Machine
machine_of_parts p flags = machine_of_table (table_of p) (λ s. flag flags s)
