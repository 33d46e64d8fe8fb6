use Rattle.std.proofs.Common.{sym, ◌∙◌}
use Rattle.lexspec.specs.Views.{spec_of}
use Rattle.lex_semantics.proofs.States.{none_rejects, some_rejects}
use Rattle.lextab.proofs.plain_machine.PlainMachine.rejects.Goals as goal

pub returns-clause-no : goal.returns-clause-no
returns-clause-no c = λ e i h. none_rejects (spec_of c.args.self.now.spec.now).rules (sym c.args.self.now.rejecting ∙ e) i h

pub returns-clause-yes : goal.returns-clause-yes
returns-clause-yes c = λ e. some_rejects (spec_of c.args.self.now.spec.now).rules (sym c.args.self.now.rejecting ∙ e)
