use Rattle.std.proofs.Common.{arith}
use Rattle.lexspec.proofs.ActionPieces.{read_first}
use Rattle.lexspec.proofs.action_text.split_action.Goals as goal

pub loop-i-init : goal.loop-i-init
loop-i-init c = record { read = read_first c.args.text.now; few = omega arith }
