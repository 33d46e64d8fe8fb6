use Rattle.lextab_file.proofs.Whole as whole
use Rattle.lextab_file.proofs.laws.one_table.Goals as goal

pub returns : goal.returns
returns c = whole.one_table
