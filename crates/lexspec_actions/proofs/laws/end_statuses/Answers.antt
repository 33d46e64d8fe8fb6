use Rattle.lexspec_actions.proofs.NormalLemmas.{end_status}
use Rattle.lexspec_actions.proofs.laws.end_statuses.Goals as goal

pub returns : goal.returns
returns c = λ names text e some h. end_status names text e some h
