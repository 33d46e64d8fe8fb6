-- Parts whose lengths four bytes hold. (A device of the writer.)
use Rattle.std.specs.Prelude.{◌≤◌, length, All}
use Rattle.lex_machine.specs.Views.{statement_of}
use Rattle.lex_semantics.specs.Literals.{literal_of}
use Rattle.lex_machine.specs.declared.action.Statement.{Statement}
use Rattle.lextab_packed.specs.Views.{slots_of}
use Rattle.lextab_packed.specs.declared.parts.TableCondition.{TableCondition}
use Rattle.lextab_packed.specs.declared.parts.TableRule.{TableRule}
use Rattle.lextab_packed.specs.declared.parts.Row.{Row}
use Rattle.lextab_packed.specs.declared.parts.TableParts.{TableParts}
use Rattle.lex_semantics.specs.Limits.{max_conditions, max_statements, max_literal_bytes, max_rules, max_states, max_slots}

abbrev pub FitsStatement : Statement → Type 0
FitsStatement s = length (literal_of (statement_of s)) ≤ max_literal_bytes

pub record FitsRule (r : TableRule) : Type 0 where
  pub few : length r.statements.items ≤ max_statements
  pub each : All FitsStatement r.statements.items

abbrev pub FitsCondition : TableCondition → Type 0
FitsCondition c = length c.end.print.items ≤ max_literal_bytes

abbrev pub FitsRow : Row → Type 0
FitsRow r = length r.rules.items ≤ max_rules

pub record FitsParts (p : TableParts) : Type 0 where
  pub conditions : length p.conditions.items ≤ max_conditions
  pub rules : length p.rules.items ≤ max_rules
  pub rows : length p.rows.items ≤ max_states
  pub slots : length (slots_of p.checks.items p.nexts.items) ≤ max_slots
  pub each_condition : All FitsCondition p.conditions.items
  pub each_rule : All FitsRule p.rules.items
  pub each_row : All FitsRow p.rows.items
