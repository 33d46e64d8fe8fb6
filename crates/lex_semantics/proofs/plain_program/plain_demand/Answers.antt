use Rattle.lex_semantics.proofs.Told.{rows_are_told}
use Rattle.lex_semantics.proofs.plain_program.plain_demand.Goals as goal

pub returns : goal.returns
returns c = λ M laws x n i row text h. rows_are_told M laws x text n i row h
