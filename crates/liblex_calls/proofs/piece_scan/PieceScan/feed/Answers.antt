use Rattle.std.proofs.Common.{take}
use Rattle.liblex_calls.specs.Progress.{fed_with}
use Rattle.liblex_calls.proofs.Following.{handed_on}
use Rattle.liblex_calls.proofs.piece_scan.PieceScan.feed.Goals as goal

pub returns-clause-follows : goal.returns-clause-follows
returns-clause-follows c =
    handed_on c.args.self.now c.take.new.self c.hand_on.new.self (take c.hand_on.new.count c.hand_on.new.buffer) c.take.ensures.follows c.hand_on.ensures.stage c.hand_on.ensures.all

pub returns-clause-fed : goal.returns-clause-fed
returns-clause-fed c file told fed out P = c.hand_on.ensures.handed file told (fed_with told fed c.args.piece.now) out (c.take.ensures.progress file told fed out P)
