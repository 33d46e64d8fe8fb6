use Rattle.lexlook_counts.proofs.Turns.{turn_by_path}
use Rattle.lexlook_counts.proofs.given_up.GivenUp.count_from.Goals as goal

pub returns-clause-counted : goal.returns-clause-counted
returns-clause-counted g c given at condition starts =
    turn_by_path (g.M.Machine.machine c.args.machine.now) (g.M.Machine.laws c.args.machine.now) given at condition c.args.finished c.args.turn c.walk_path.new.path.items c.deref.result.now c.in-Ok.stopped _ _ starts c.in-Ok.ensures.path
    c.else-not-stopped.either c.deref.ensures.value c.count_matches.ensures
