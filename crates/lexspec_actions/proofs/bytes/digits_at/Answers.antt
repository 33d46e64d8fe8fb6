use Rattle.lexspec_actions.proofs.ByteLemmas.{digits_within}
use Rattle.lexspec_actions.proofs.bytes.digits_at.Goals as goal

pub returns-clause-shorter : goal.returns-clause-shorter
returns-clause-shorter c = digits_within _ _ _ c.split_digits.ensures
