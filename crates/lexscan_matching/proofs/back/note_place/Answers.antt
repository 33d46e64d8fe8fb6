use Rattle.std.proofs.Common.{arith}
use Rattle.lexscan_matching.proofs.Barrens as Look
use Rattle.lexscan_matching.proofs.back.note_place.Goals as goal

pub returns-then-left-reading : goal.returns-then-left-reading
returns-then-left-reading g c =
    let h = c.requires.settled in
    record {
      marks = Look.place_put (g.M.Machine.machine c.args.machine.now) (g.M.Machine.states c.args.machine.now) c.args.place c.args.reading.now c.args.settled c.args.passed c.args.memo.now c.put_silent.new.self _ h c.requires.passed
          (omega (arith, c.if-passed-settled.false)) (omega (arith, c.if-settled-passed.false)) c.requires.marks c.put_silent.ensures (omega (arith, c.if-left-reading.true)) (omega (arith, c.if-left-reading.true, c.len.ensures, c.requires.passed.inside));
    }
