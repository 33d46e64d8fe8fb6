use Rattle.lextab_file.specs.Reading.{many, read_accepted, above}
use Rattle.std.proofs.lemmas.Result.{err_from_is_err_and}
use Rattle.lextab_file.proofs.Loops.{goes_on, ends, is_done}
use Rattle.lextab_file.proofs.reading.states.accepted.Goals as goal

pub returns-in_err-one : goal.returns-in_err-one
returns-in_err-one c =
    let p = err_from_is_err_and c.from_residual-in_err-one.result c.from_residual-in_err-one.ensures.1 in
    rw (p.1, p.2) (ends (read_accepted c.args.rules) above c.in_err-one.field-0.0 c.loop-i.read.items c.args.count c.loop-i.i c.loop-i.low c.loop-i.rest.now (many (read_accepted c.args.rules) above c.args.count 0 c.args.bytes.now) c.loop-i-test.true c.in_err-one.ensures.gives c.loop-i.invariant)

pub loop-i-preserved : goal.loop-i-preserved
loop-i-preserved c =
    rw c.in_ok-push.ensures.items (goes_on (read_accepted c.args.rules) above c.loop-i.read.items c.args.count c.loop-i.i c.loop-i.low c.loop-i.rest.now c.in_ok-one.one c.in_ok-one.after.now (many (read_accepted c.args.rules) above c.args.count 0 c.args.bytes.now) c.loop-i-test.true c.in_ok-one.ensures.gives c.loop-i.invariant)

pub returns : goal.returns
returns c = is_done (read_accepted c.args.rules) above c.loop-i.read.items c.args.count c.loop-i.i c.loop-i.low c.loop-i.rest.now (many (read_accepted c.args.rules) above c.args.count 0 c.args.bytes.now) c.loop-i-test.false c.loop-i.invariant
