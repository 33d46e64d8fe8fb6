use Rattle.std.proofs.Common.{arith}
use Rattle.lextab_packed.proofs.Lanes.{none_found, some_found}
use Rattle.lextab_packed.proofs.leaps.others_at.Goals as goal

pub returns-then-found-eq0-clause-others : goal.returns-then-found-eq0-clause-others
returns-then-found-eq0-clause-others c = none_found c.args.leavers c.args.bytes.now c.args.start c.leavers_in-found.result c.requires c.leavers_in-found.ensures (omega (arith, c.if-found-eq0.true))

pub returns-else-found-eq0-clause-few : goal.returns-else-found-eq0-clause-few
returns-else-found-eq0-clause-few c = (some_found c.args.leavers c.args.bytes.now c.args.start c.leavers_in-found.result c.requires c.leavers_in-found.ensures c.if-found-eq0.false).0

pub returns-else-found-eq0-clause-others : goal.returns-else-found-eq0-clause-others
returns-else-found-eq0-clause-others c = (some_found c.args.leavers c.args.bytes.now c.args.start c.leavers_in-found.result c.requires c.leavers_in-found.ensures c.if-found-eq0.false).1
