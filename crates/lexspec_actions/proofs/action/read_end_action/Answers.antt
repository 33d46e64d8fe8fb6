use Rattle.std.proofs.Common.{rules}
use Rattle.std.proofs.lemmas.Result.{err_from_is_err_and}
use Rattle.lexspec_actions.specs.Names.{known_in, names_of}
use Rattle.lexspec_actions.proofs.ReadLemmas.{end_read, no_end_read, no_end_few, no_end_action}
use Rattle.lexspec_actions.proofs.action.read_end_action.Goals as goal

pub returns-in_err-statements-clause-none : goal.returns-in_err-statements-clause-none
returns-in_err-statements-clause-none c =
    let p = err_from_is_err_and c.from_residual.result c.from_residual.ensures.1 in
    rw (p.1, p.2) (no_end_read (known_in (names_of c.args.conditions.now) c.args.stack) c.args.text.now _ c.in_err-statements.ensures.none)

pub returns-then-not-are_few-clause-none : goal.returns-then-not-are_few-clause-none
returns-then-not-are_few-clause-none c =
    no_end_few (known_in (names_of c.args.conditions.now) c.args.stack) c.args.text.now _ c.in_ok-statements.ensures.found (search rules)

pub returns-in-None-clause-none : goal.returns-in-None-clause-none
returns-in-None-clause-none c =
    no_end_action (known_in (names_of c.args.conditions.now) c.args.stack) c.args.text.now _ c.in_ok-statements.ensures.found (search rules)

pub returns-in-Some-clause-found : goal.returns-in-Some-clause-found
returns-in-Some-clause-found c =
    end_read (known_in (names_of c.args.conditions.now) c.args.stack) c.args.text.now _ _ c.in_ok-statements.ensures.found (search rules) (search rules)
