use Rattle.std.proofs.Common.{◌≡◌, Bool, true, false, List, map, sym, ◌∙◌, subst}
use Rattle.lextab_packed.specs.Rejections.{some_rule_acts_and_rejects}
use Rattle.lextab_packed.specs.Views.{table_rule_of}
use Rattle.lextab_packed.specs.declared.parts.TableRule.{TableRule}
use Rattle.lextab_packed.proofs.Quieting.{none_loud, some_loud}
use Rattle.lextab_packed.proofs.quiet.QuietMachine.rejects.Goals as goal

abbrev Says : Bool → List TableRule → Type 0
Says b rules = some_rule_acts_and_rejects (map table_rule_of rules) ≡ b

pub returns-clause-no : goal.returns-clause-no
returns-clause-no c = λ e. none_loud (map table_rule_of c.args.self.now.flat.now.tables.parts.rules.items) (subst (Says false) c.deref.ensures.value (sym c.any_acts_and_rejects.ensures ∙ e))

pub returns-clause-yes : goal.returns-clause-yes
returns-clause-yes c = λ e. some_loud (map table_rule_of c.args.self.now.flat.now.tables.parts.rules.items) (subst (Says true) c.deref.ensures.value (sym c.any_acts_and_rejects.ensures ∙ e))
