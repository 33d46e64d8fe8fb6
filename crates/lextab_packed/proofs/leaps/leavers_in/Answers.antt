use Rattle.lextab_packed.proofs.Lanes.{three_masked}
use Rattle.lextab_packed.proofs.leaps.leavers_in.Goals as goal

pub returns : goal.returns
returns c = three_masked c.args.leavers c.args.lanes c.fits-lanes.0
