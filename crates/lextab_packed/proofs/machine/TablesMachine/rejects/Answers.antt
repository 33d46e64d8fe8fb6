use Rattle.std.proofs.Common.{map, sym, ◌∙◌}
use Rattle.lextab_packed.specs.Views.{table_rule_of}
use Rattle.lextab_packed.proofs.Rejecting.{none_rejects, some_rejects}
use Rattle.lextab_packed.proofs.machine.TablesMachine.rejects.Goals as goal

pub returns-clause-no : goal.returns-clause-no
returns-clause-no c = λ e. none_rejects (map table_rule_of c.args.self.now.parts.rules.items) (sym c.args.self.now.rejecting ∙ e)

pub returns-clause-yes : goal.returns-clause-yes
returns-clause-yes c = λ e. some_rejects (map table_rule_of c.args.self.now.parts.rules.items) (sym c.args.self.now.rejecting ∙ e)
