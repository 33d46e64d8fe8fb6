use Rattle.std.proofs.Common.{arith}
use Rattle.std.proofs.lemmas.Result.{err_from_is_err_and}
use Rattle.lex_machine.specs.Views.{statement_of}
use Rattle.lextab_file.specs.File.{statement_text}
use Rattle.lextab_file.proofs.Written.{loop_more, loop_fails}
use Rattle.lextab_file.proofs.writing.actions.put_statements.Goals as goal

pub returns-in_err-put_statement-clause-bytes : goal.returns-in_err-put_statement-clause-bytes
returns-in_err-put_statement-clause-bytes g c =
    let p = err_from_is_err_and c.from_residual.result c.from_residual.ensures.1 in
    rw p.1 (loop_fails g.K.Sink.wrote g.met.K.Sink.wrote_more (λ s. statement_text (statement_of s)) c.args.statements.now c.loop-statement.statement-index _ c.loop-statement-test.true c.statement-item.is c.args.sink.now c.loop-statement.sink c.put_statement.new.sink c.loop-statement.invariant.told c.in_err-put_statement.ensures.bytes)

pub loop-statement-preserved : goal.loop-statement-preserved
loop-statement-preserved g c = record {
  told = loop_more g.K.Sink.wrote g.met.K.Sink.wrote_more (λ s. statement_text (statement_of s)) c.args.statements.now c.loop-statement.statement-index _ c.loop-statement-test.true c.statement-item.is c.args.sink.now c.loop-statement.sink c.put_statement.new.sink c.loop-statement.invariant.told c.in_ok-put_statement.ensures.bytes;
  good = let a = c.in_ok-put_statement.ensures.failures in let b = c.loop-statement.invariant.good in omega arith;
}
