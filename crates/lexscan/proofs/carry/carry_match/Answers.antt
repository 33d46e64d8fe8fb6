use Rattle.std.proofs.Common.{ℕ, List, Some, sym, subst, ◌∙◌, arith}
use Rattle.lex_semantics.specs.Machine.{Machine}
use Rattle.lexscan_matching.specs.Picks.{path_of}
use Rattle.lexscan_matching.specs.Descends.{conditions_at, matches_of, Takes}
use Rattle.lexscan_matching.proofs.Picking.{picked_takes}
use Rattle.lexscan.proofs.Leaving.{match_cut, match_left}
use Rattle.lexscan.proofs.Tying.{write_only}
use Rattle.lexscan.proofs.carry.carry_match.Goals as goal

pub returns-in-Err : goal.returns-in-Err
returns-in-Err g c =
    let M : Machine = g.M.Machine.machine c.args.machine.now in
    record {
      same = c.in-Err.ensures.same;
      handed_on = write_only _ c.in-Err.e c.in-Err.ensures.sink.refusals;
      left = match_cut M g.K.Sink.wrote g.K.Sink.failures _ _ _ c.args.state.now (path_of M c.args.state.now.place c.args.state.now.reading.window.bytes c.args.reach) c.carry_pick.new.acting (Some c.rule_of.result) c.in-Err.e c.in-Err.ensures.cut_off c.in-Err.ensures.sink.refusals c.in-Err.ensures.sink.write_faults;
    }

pub returns-in-Ok : goal.returns-in-Ok
returns-in-Ok g c =
    let ens = c.in-Ok.ensures in
    let M : Machine = g.M.Machine.machine c.args.machine.now in
    let w : List ℕ = c.args.state.now.reading.window.bytes in
    let at : ℕ = c.args.state.now.place.at in
    let path : List ℕ = path_of M c.args.state.now.place w c.args.reach in
    let takes = subst (λ z. Takes M w at (matches_of M w at path) (conditions_at c.args.state.now) (Some z)) (sym c.rule_of.ensures)
    (picked_takes M w at path c.args.pick (conditions_at c.args.state.now) c.requires.no_reject (omega (arith, c.requires.place, c.requires.some)) c.requires.longest.first c.requires.longest.known) in
    record {
      same = c.leave_match.ensures.same ∙ ens.same;
      handed_on = c.leave_match.ensures.handed_on;
      left = match_left M g.K.Sink.wrote g.K.Sink.failures _ _ _ c.args.state.now path _ c.carry_pick.new.acting (Some c.rule_of.result) c.leave_match.new.state c.in-Ok.finish c.leave_match.result g.met.K.Sink.wrote_more
          ens.performed ens.inside ens.sink.write_faults c.leave_match.ensures.ends takes;
    }
