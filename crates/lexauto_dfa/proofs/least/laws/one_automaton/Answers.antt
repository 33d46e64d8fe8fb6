use Rattle.lexauto_dfa.proofs.Joined.{one_least}
use Rattle.lexauto_dfa.proofs.least.laws.one_automaton.Goals as goal

pub returns : goal.returns
returns c = one_least
