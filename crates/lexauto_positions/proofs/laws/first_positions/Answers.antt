use Rattle.lexauto_positions.proofs.Moves.{first_move}
use Rattle.lexauto_positions.proofs.laws.first_positions.Goals as goal

pub returns : goal.returns
returns c = λ S sound c line_start b q. first_move S sound c line_start b q
