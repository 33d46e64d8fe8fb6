use Rattle.std.proofs.lemmas.Grind.{common_steps}
use Rattle.std.proofs.Common.{subst, arith}
use Rattle.lex_semantics.specs.Machine.{Machine}
use Rattle.lexscan_matching.specs.Looks.{LookedOrAtEnd, Looked, LookedAtEnd}
use Rattle.lexscan_matching.proofs.Limiting.{carried, not_wanted, late_only, write_only}
use Rattle.lexscan.proofs.Leaving.{matched_moved, finished_moved}
use Rattle.lexscan.proofs.Turning.{match_made}
use Rattle.lexscan.proofs.Tying.{tied_moved}
use Rattle.lexscan.proofs.scan.Scan.match_with_reject.Goals as goal

pub returns-in-Ok-true : goal.returns-in-Ok-true
returns-in-Ok-true g c =
    let M : Machine = g.M.Machine.machine c.args.machine.now in
    let looked : Looked M c.args.self.now.state.place c.args.self.now.state.reading c.look_ahead.new.reading c.look_ahead.new.path.states =
    subst (LookedOrAtEnd M c.args.self.now.state.place c.args.self.now.state.reading c.look_ahead.new.reading c.look_ahead.new.path.states) c.in-Ok-true.field-0-test c.in-Ok-true.ensures.looked in
    match_made M _ _ _ _ _ (grind (arith, common_steps)) c.carry_with_reject.ensures.handed_on (tied_moved M g.S.Source.gave g.K.Sink.wrote _ _ _ _ _ c.args.self.now.state _ g.met.K.Sink.wrote_more c.look_ahead.ensures.put.sink _ (matched_moved M g.S.Source.gave g.K.Sink.wrote _ _ _ _ c.args.self.now.state c.look_ahead.new.reading c.carry_with_reject.new.state c.look_ahead.ensures.took g.K.Sink.failures _ c.look_ahead.new.path.states c.carry_with_reject.result looked
    c.carry_with_reject.ensures.left)) (grind (arith, common_steps)) (grind (arith, common_steps)) (c.requires.ready.kept.marks c.requires.going.working)
    (carried M _ c.args.self.now.state.place _ _ _ (late_only _ c.carry_with_reject.ensures.left.refusals) (not_wanted M _ c.args.self.now.state.place _ _ _ (c.in-Ok-true.ensures).limit))

pub returns-in-Ok-false : goal.returns-in-Ok-false
returns-in-Ok-false g c =
    let M : Machine = g.M.Machine.machine c.args.machine.now in
    let looked : LookedAtEnd c.args.self.now.state.place c.args.self.now.state.reading c.look_ahead.new.reading =
    subst (LookedOrAtEnd M c.args.self.now.state.place c.args.self.now.state.reading c.look_ahead.new.reading c.look_ahead.new.path.states) c.in-Ok-false.field-0-test c.in-Ok-false.ensures.looked in
    match_made M _ _ _ _ _ (grind (arith, common_steps)) c.carry_end.ensures.handed_on (tied_moved M g.S.Source.gave g.K.Sink.wrote _ _ _ _ _ c.args.self.now.state _ g.met.K.Sink.wrote_more c.look_ahead.ensures.put.sink _ (finished_moved M g.S.Source.gave g.K.Sink.wrote _ _ _ _ c.args.self.now.state c.look_ahead.new.reading c.carry_end.new.state c.look_ahead.ensures.took c.carry_end.result
    looked c.carry_end.ensures.bytes c.carry_end.ensures.left c.carry_end.ensures.sink.refusals c.carry_end.ensures.unchanged)) (grind (arith, common_steps)) (grind (arith, common_steps)) (c.requires.ready.kept.marks c.requires.going.working)
    (carried M _ c.args.self.now.state.place _ _ _ (write_only _ c.carry_end.ensures.sink.refusals) (not_wanted M _ c.args.self.now.state.place _ _ _ (c.in-Ok-false.ensures).limit))
