use Rattle.liblex_calls.specs.Backlogs.{rest}
use Rattle.liblex_calls.proofs.Handing.{hands_on, all_handed}
use Rattle.liblex_calls.proofs.piece_scan.PieceScan.hand_on.Goals as goal

pub returns-clause-handed : goal.returns-clause-handed
returns-clause-handed c file told fed out P = hands_on file told fed out c.args.self.now c.hand_out.new.self c.args.buffer.now c.hand_out.new.buffer c.hand_out.new.count P c.hand_out.ensures.handed c.hand_out.ensures.left

pub returns-clause-all : goal.returns-clause-all
returns-clause-all c = all_handed (rest c.args.self.now.backlog) c.args.buffer.now c.hand_out.new.buffer (rest c.hand_out.new.self) c.hand_out.new.count c.hand_out.ensures.handed c.hand_out.ensures.left
