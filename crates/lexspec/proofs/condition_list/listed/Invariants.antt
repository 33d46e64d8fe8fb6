use Rattle.std.proofs.Common.{length}
use Rattle.lexspec_actions.specs.Names.{number_from, names_of}
use Rattle.lexspec.specs.SubjectViews.{parts}
use Rattle.lexspec.proofs.ListedLaws.{Marks}
use Rattle.lexspec.proofs.condition_list.listed.Given as goal

abbrev pub invariant-names : goal.invariant-names
invariant-names l = Marks (number_from 0 (names_of l.conditions)) (parts l.names) (parts l.rest) l.flags

abbrev pub decreases-names : goal.decreases-names
decreases-names l = length l.rest
