use Rattle.lexauto_positions.proofs.Moves.{live_after, live_first}
use Rattle.lexauto_positions.proofs.laws.live_positions.Goals as goal

pub returns-clause-after : goal.returns-clause-after
returns-clause-after c = λ S sound c line_start w some. live_after S sound c line_start w some

pub returns-clause-first : goal.returns-clause-first
returns-clause-first c = λ S sound c line_start. live_first S sound c line_start
