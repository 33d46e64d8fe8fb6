use Rattle.std.proofs.Common.{arith}
use Rattle.std.proofs.lemmas.Grind.{common_steps}
use Rattle.lexauto_positions.proofs.rules.pass_rule.Goals as goal

pub enter-requires-in-Some-clause-cursor : goal.enter-requires-in-Some-clause-cursor
enter-requires-in-Some-clause-cursor = grind (arith, common_steps)

pub enter-requires-in-Some-clause-few : goal.enter-requires-in-Some-clause-few
enter-requires-in-Some-clause-few = grind (arith, common_steps)

pub enter-requires-in-Some-clause-front : goal.enter-requires-in-Some-clause-front
enter-requires-in-Some-clause-front = grind (arith, common_steps)

pub enter-requires-in-Some-clause-sized : goal.enter-requires-in-Some-clause-sized
enter-requires-in-Some-clause-sized = grind (arith, common_steps)

pub returns-in-None-clause-cursor : goal.returns-in-None-clause-cursor
returns-in-None-clause-cursor = grind (arith, common_steps)

pub returns-in-None-clause-front : goal.returns-in-None-clause-front
returns-in-None-clause-front = grind (arith, common_steps)

pub returns-in-None-clause-next : goal.returns-in-None-clause-next
returns-in-None-clause-next = grind (arith, common_steps)

pub returns-in-Some-clause-cursor : goal.returns-in-Some-clause-cursor
returns-in-Some-clause-cursor = grind (arith, common_steps)

pub returns-in-Some-clause-front : goal.returns-in-Some-clause-front
returns-in-Some-clause-front = grind (arith, common_steps)

pub returns-in-Some-clause-left : goal.returns-in-Some-clause-left
returns-in-Some-clause-left = grind (arith, common_steps)

pub returns-in-Some-clause-next : goal.returns-in-Some-clause-next
returns-in-Some-clause-next = grind (arith, common_steps)
