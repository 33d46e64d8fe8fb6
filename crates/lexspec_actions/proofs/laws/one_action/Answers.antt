use Rattle.lexspec_actions.proofs.OneAction.{one_statements}
use Rattle.lexspec_actions.proofs.laws.one_action.Goals as goal

pub returns : goal.returns
returns c = λ condition text ss ss' h k. one_statements condition text ss ss' h.0 k.0
