use Rattle.std.proofs.Common.{◌≡◌, take}
use Rattle.std.specs.List.{flat_map}
use Rattle.lex_machine.specs.Views.{statement_of}
use Rattle.lextab_file.specs.File.{statement_text}
use Rattle.lextab_file.proofs.writing.actions.put_statements.Given as goal

abbrev pub invariant-loop-statement : goal.invariant-loop-statement
invariant-loop-statement g l = record {
  told : g.K.Sink.wrote l.fn.sink (flat_map (λ s. statement_text (statement_of s)) (take l.statement-index l.statements)) l.sink;
  good : g.K.Sink.failures l.sink ≡ g.K.Sink.failures l.fn.sink;
}
