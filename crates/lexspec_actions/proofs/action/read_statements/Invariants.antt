use Rattle.std.proofs.Common.{◌≤◌, ◌+◌, length, map}
use Rattle.lexspec_actions.specs.Names.{known_in, names_of}
use Rattle.lexspec_actions.specs.Views.{statement_of}
use Rattle.lexspec_actions.proofs.ActionLemmas.{Agree}
use Rattle.lexspec_actions.proofs.action.read_statements.Given as goal

abbrev pub invariant-pieces : goal.invariant-pieces
invariant-pieces l = record {
  agree : Agree (known_in (names_of l.conditions) l.stack) l.open (map statement_of l.statements.items) l.rest l.text;
  bound : l.open + length l.rest ≤ length l.text;
}

abbrev pub decreases-pieces : goal.decreases-pieces
decreases-pieces l = length l.rest
