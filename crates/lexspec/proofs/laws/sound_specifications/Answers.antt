use Rattle.lexspec_lines.specs.Declaring.{names_of}
use Rattle.lexspec.proofs.PassLaws.{spec_passes}
use Rattle.lexspec.proofs.RuleRunLaws.{as_passed, rules_passed}
use Rattle.lexspec.proofs.laws.sound_specifications.Goals as goal

pub returns : goal.returns
returns c = λ cs how stack defined items rules ends some few few_rules are sides. spec_passes cs how stack defined (as_passed items) rules ends some few few_rules (rules_passed (names_of cs) how stack defined items rules ends are) sides
