use Rattle.lexauto_positions.proofs.Moves.{move}
use Rattle.lexauto_positions.proofs.laws.next_positions.Goals as goal

pub returns : goal.returns
returns c = λ S sound c line_start w b q some. move S sound c line_start w b q some
