use Rattle.liblex_calls.proofs.AheadComputed as Computed
use Rattle.liblex_calls.proofs.examples.examples_of_ahead.Goals as goal

pub returns-clause-kept : goal.returns-clause-kept
returns-clause-kept c = Computed.kept

pub returns-clause-handed : goal.returns-clause-handed
returns-clause-handed c = Computed.next

pub returns-clause-told : goal.returns-clause-told
returns-clause-told c = Computed.told
