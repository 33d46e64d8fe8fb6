use Rattle.std.proofs.Common.{◌≡◌, drop}
use Rattle.lexspec_actions.specs.Names.{number_from, names_of}
use Rattle.lexspec_actions.proofs.condition.number_of.Given as goal

abbrev pub invariant-loop-i : goal.invariant-loop-i
invariant-loop-i l = number_from l.i (names_of (drop l.i l.conditions)) l.name ≡ number_from 0 (names_of l.conditions) l.name
