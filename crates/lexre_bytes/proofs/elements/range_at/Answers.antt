use Rattle.std.proofs.lemmas.Result.{err_from_is_err_and}
use Rattle.lexre_bytes.proofs.ShorterLaws.{range_of_bracket}
use Rattle.lexre_bytes.proofs.UnreadLaws.{bracket_left, byte_left, none_left}
use Rattle.lexre_bytes.proofs.elements.range_at.Goals as goal

pub returns-in_err-high-in-None-clause-left : goal.returns-in_err-high-in-None-clause-left
returns-in_err-high-in-None-clause-left c =
    let p = err_from_is_err_and c.from_residual.result c.from_residual.ensures.1 in
    rw (p.1, p.2, none_left c.args.text.now c.in-None.ensures.found c.in_err-high-in-None.ensures.found) c.in_err-high-in-None.ensures.told

pub returns-in-Some-Named-default-clause-left : goal.returns-in-Some-Named-default-clause-left
returns-in-Some-Named-default-clause-left c = bracket_left c.args.text.now _ c.in-Some-Named-default.ensures.found

pub returns-in-Some : goal.returns-in-Some
returns-in-Some c =
    let found = rw c.in-Some.is at c.bracketed_at.ensures.found in
    record { found = range_of_bracket c.args.low c.args.text.now _ found; refused = tt; fault = tt; left = bracket_left c.args.text.now _ found }

pub returns-in_ok-high-in-None-clause-left : goal.returns-in_ok-high-in-None-clause-left
returns-in_ok-high-in-None-clause-left c = byte_left c.args.text.now _ c.in-None.ensures.found c.in_ok-high-in-None.ensures.found
