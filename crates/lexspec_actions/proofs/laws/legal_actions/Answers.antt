use Rattle.lexspec_actions.proofs.NormalLemmas.{legal_action}
use Rattle.lexspec_actions.proofs.laws.legal_actions.Goals as goal

pub returns : goal.returns
returns c = λ names text ss some h. legal_action names text ss some h
