use Rattle.std.proofs.Common.{◌≡◌, ◌++◌, map}
use Rattle.std.specs.List.{filter}
use Rattle.std.specs.Vec.Iter.{into_iter_items}
use Rattle.lex_machine.specs.Views.{statement_of}
use Rattle.lexlook_specs.specs.Traced.{steers, telling}
use Rattle.lexlook_specs.proofs.trace.actions.telling.Given as goal

-- the statements so far, and those of the rest that write nothing
abbrev pub invariant-loop-statement : goal.invariant-loop-statement
invariant-loop-statement l =
    map statement_of l.told.items ++ filter steers (map statement_of (into_iter_items l.statement-iterator))
    ≡ telling l.fn.front.items (map statement_of l.fn.statements.items)
