use Rattle.std.proofs.Common.{rules}
use Rattle.std.proofs.lemmas.Result.{err_from_is_err_and}
use Rattle.lexspec_actions.specs.Names.{known_in, names_of}
use Rattle.lexspec_actions.proofs.ReadLemmas.{none_read, none_checked}
use Rattle.lexspec_actions.proofs.action.read_action.Goals as goal

pub returns-in_err-statements-clause-none : goal.returns-in_err-statements-clause-none
returns-in_err-statements-clause-none c =
    let p = err_from_is_err_and c.from_residual.result c.from_residual.ensures.1 in
    rw (p.1, p.2) (none_read (known_in (names_of c.args.conditions.now) c.args.stack) c.args.text.now _ c.in_err-statements.ensures.none)

pub returns-in_err-check-clause-none : goal.returns-in_err-check-clause-none
returns-in_err-check-clause-none c =
    let p = err_from_is_err_and c.from_residual-in_err-check.result c.from_residual-in_err-check.ensures.1 in
    rw (p.1, p.2) (none_checked (known_in (names_of c.args.conditions.now) c.args.stack) c.args.text.now _ _ c.in_ok-statements.ensures.found (search rules))
