use Rattle.std.proofs.Common.{◌≡◌, drop, map}
use Rattle.std.specs.List.{list_any}
use Rattle.lex_machine.specs.Views.{statement_of}
use Rattle.lexlook_tables.specs.Lines.{is_begin}
use Rattle.lexlook_tables.proofs.lines.actions.any_begin.Given as goal

abbrev pub invariant-loop-statement : goal.invariant-loop-statement
invariant-loop-statement l = list_any is_begin (map statement_of (drop l.statement-index l.statements)) ≡ list_any is_begin (map statement_of l.statements)
