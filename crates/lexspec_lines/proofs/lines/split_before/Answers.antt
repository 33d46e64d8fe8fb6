use Rattle.std.proofs.Common.{not, rules}
use Rattle.lexspec_lines.proofs.lines.split_before.Goals as goal

pub returns-clause-split : goal.returns-clause-split
returns-clause-split g c p h = c.take_up_to.ensures.front (λ b. not (p b)) (λ b r k post. search (rules, h))
