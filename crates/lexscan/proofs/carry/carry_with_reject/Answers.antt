use Rattle.std.proofs.Common.{◌∙◌}
use Rattle.lex_semantics.specs.Machine.{Machine}
use Rattle.lexscan.proofs.Leaving.{match_cut, match_left}
use Rattle.lexscan.proofs.Tying.{write_only}
use Rattle.lexscan.proofs.carry.carry_with_reject.Goals as goal

pub returns-in-Err : goal.returns-in-Err
returns-in-Err g c =
    let M : Machine = g.M.Machine.machine c.args.machine.now in
    record {
      same = c.in-Err.ensures.same;
      handed_on = write_only _ c.in-Err.e c.in-Err.ensures.sink.refusals;
      left = match_cut M g.K.Sink.wrote g.K.Sink.failures _ _ _ c.args.state.now c.args.path.now.states c.descend.new.acting c.descend.new.matched c.in-Err.e c.in-Err.ensures.cut_off c.in-Err.ensures.sink.refusals c.in-Err.ensures.sink.write_faults;
    }

pub returns-in-Ok : goal.returns-in-Ok
returns-in-Ok g c =
    let ens = c.in-Ok.ensures in
    let M : Machine = g.M.Machine.machine c.args.machine.now in
    record {
      same = c.leave_match.ensures.same ∙ ens.same;
      handed_on = c.leave_match.ensures.handed_on;
      left = match_left M g.K.Sink.wrote g.K.Sink.failures _ _ _ c.args.state.now c.args.path.now.states _ c.descend.new.acting c.descend.new.matched c.leave_match.new.state c.in-Ok.finish c.leave_match.result g.met.K.Sink.wrote_more
          ens.performed ens.inside ens.sink.write_faults c.leave_match.ensures.ends ens.takes;
    }
