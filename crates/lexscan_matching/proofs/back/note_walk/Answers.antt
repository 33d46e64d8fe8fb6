use Rattle.std.proofs.Common.{arith}
use Rattle.lexscan_matching.proofs.Barrens as Look
use Rattle.lexscan_matching.proofs.back.note_walk.Goals as goal

pub returns-then-left-reading : goal.returns-then-left-reading
returns-then-left-reading g c =
    let h = c.requires.settled in
    record {
      marks = Look.true_walk (g.M.Machine.machine c.args.machine.now) _ c.args.place c.args.reading.now c.args.settled c.args.memo.now c.put_walk.new.self c.args.passed.len _ c.args.passed.state c.requires.marks h c.put_walk.ensures c.requires.passed.state_is
          (omega (arith, c.if-settled-passed.false)) (omega (arith, c.if-left-reading.true, c.len.ensures, c.requires.passed.inside));
    }
