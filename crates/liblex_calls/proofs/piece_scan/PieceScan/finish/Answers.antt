use Rattle.std.proofs.Common.{true, take}
use Rattle.liblex_calls.proofs.Following.{handed_on}
use Rattle.liblex_calls.proofs.piece_scan.PieceScan.finish.Goals as goal

pub returns-clause-follows : goal.returns-clause-follows
returns-clause-follows c =
    handed_on c.args.self.now c.end.new.self c.hand_on.new.self (take c.hand_on.new.count c.hand_on.new.buffer) c.end.ensures.follows c.hand_on.ensures.stage c.hand_on.ensures.all

pub returns-clause-finished : goal.returns-clause-finished
returns-clause-finished c file told fed out P = c.hand_on.ensures.handed file true fed out (c.end.ensures.progress file told fed out P)
