use Rattle.std.proofs.lemmas.Grind.{common_steps}
use Rattle.std.proofs.Common.{arith}
use Rattle.lex_semantics.specs.Machine.{Machine}
use Rattle.lexscan_matching.specs.Picks.{path_of}
use Rattle.lexscan_matching.proofs.Limiting.{carried, not_wanted, late_only, write_only}
use Rattle.lexscan.proofs.Leaving.{matched_moved, finished_moved}
use Rattle.lexscan.proofs.Turning.{match_made}
use Rattle.lexscan.proofs.Tying.{tied_moved}
use Rattle.lexscan.proofs.scan.Scan.match_without_reject.Goals as goal

pub returns-in-Ok-Some : goal.returns-in-Ok-Some
returns-in-Ok-Some g c =
    let M : Machine = g.M.Machine.machine c.args.machine.now in
    match_made M _ _ _ _ _ (grind (arith, common_steps)) c.carry_longest.ensures.handed_on (tied_moved M g.S.Source.gave g.K.Sink.wrote _ _ _ _ _ c.args.self.now.state _ g.met.K.Sink.wrote_more c.look_ahead_last.ensures.put.sink _ (matched_moved M g.S.Source.gave g.K.Sink.wrote _ _ _ _ c.args.self.now.state c.look_ahead_last.new.reading c.carry_longest.new.state c.look_ahead_last.ensures.took g.K.Sink.failures _ (path_of M c.args.self.now.state.place c.look_ahead_last.new.reading.window.bytes c.in-Ok-Some.ahead.reach) c.carry_longest.result (rw c.in-Ok-Some.field-0-is at c.in-Ok-Some.ensures).looked
    c.carry_longest.ensures.left)) (grind (arith, common_steps)) (grind (arith, common_steps)) (c.requires.ready.kept.marks c.requires.going.working)
    (carried M _ c.args.self.now.state.place _ _ _ (late_only _ c.carry_longest.ensures.left.refusals) (not_wanted M _ c.args.self.now.state.place _ _ _ (rw c.in-Ok-Some.field-0-is at c.in-Ok-Some.ensures).limit))

pub returns-in-Ok-None : goal.returns-in-Ok-None
returns-in-Ok-None g c =
    let M : Machine = g.M.Machine.machine c.args.machine.now in
    match_made M _ _ _ _ _ (grind (arith, common_steps)) c.carry_end.ensures.handed_on (tied_moved M g.S.Source.gave g.K.Sink.wrote _ _ _ _ _ c.args.self.now.state _ g.met.K.Sink.wrote_more c.look_ahead_last.ensures.put.sink _ (finished_moved M g.S.Source.gave g.K.Sink.wrote _ _ _ _ c.args.self.now.state c.look_ahead_last.new.reading c.carry_end.new.state c.look_ahead_last.ensures.took c.carry_end.result
    (rw c.in-Ok-None.field-0-is at c.in-Ok-None.ensures).looked c.carry_end.ensures.bytes c.carry_end.ensures.left c.carry_end.ensures.sink.refusals c.carry_end.ensures.unchanged)) (grind (arith, common_steps)) (grind (arith, common_steps)) (c.requires.ready.kept.marks c.requires.going.working)
    (carried M _ c.args.self.now.state.place _ _ _ (write_only _ c.carry_end.ensures.sink.refusals) (not_wanted M _ c.args.self.now.state.place _ _ _ (rw c.in-Ok-None.field-0-is at c.in-Ok-None.ensures).limit))
