use Rattle.lexscan.proofs.Turning.{made, refused}
use Rattle.lexscan.proofs.scan.Scan.turn_without_reject.Goals as goal

pub returns-in-Ok : goal.returns-in-Ok
returns-in-Ok g c = made (g.M.Machine.machine c.args.machine.now) _ _ _ _ (g.M.Machine.laws c.args.machine.now) c.in-Ok.turn c.requires.going c.requires.ready c.in-Ok.ensures

pub returns-in-Err : goal.returns-in-Err
returns-in-Err g c = refused (g.M.Machine.machine c.args.machine.now) _ _ _ _ (g.M.Machine.laws c.args.machine.now) c.in-Err.e c.requires.going c.requires.ready c.in-Err.ensures
