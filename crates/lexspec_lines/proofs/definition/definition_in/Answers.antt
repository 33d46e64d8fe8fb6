use Rattle.std.proofs.Common.{rules}
use Rattle.lexspec_lines.specs.LineSteps.{definition_from}
use Rattle.lexspec_lines.proofs.LineForms.{definition_is}
use Rattle.lexspec_lines.proofs.definition.definition_in.Goals as goal

pub returns-then-not-starts_name-clause-none : goal.returns-then-not-starts_name-clause-none
unfolding definition_from
returns-then-not-starts_name-clause-none c = rw (definition_is c.args.line.now) (search rules)
