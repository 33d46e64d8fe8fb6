use Rattle.lexspec_actions.proofs.SameBytes.{next_found}
use Rattle.lexspec_actions.proofs.bytes.next.Goals as goal

pub returns-in-len1-up-clause-next : goal.returns-in-len1-up-clause-next
returns-in-len1-up-clause-next c = next_found _ _ _ c.skip.ensures.skipped c.in-len1-up.len_at_least c.if-first-byte.true
