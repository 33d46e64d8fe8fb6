use Rattle.lex_machine.proofs.Quieting.{quiet_laws, same_quiet}
use Rattle.lex_machine.proofs.laws.quiet_scan.Goals as goal

pub returns-clause-laws : goal.returns-clause-laws
returns-clause-laws c = λ M laws. quiet_laws M laws

pub returns-clause-scan : goal.returns-clause-scan
returns-clause-scan c = λ M laws x text. same_quiet M laws x
