use Rattle.std.proofs.Common.{arith}
use Rattle.std.proofs.lemmas.Result.{err_from_is_err_and}
use Rattle.lextab_packed.specs.Views.{row_of}
use Rattle.lextab_file.specs.File.{row_text}
use Rattle.lextab_file.proofs.Written.{loop_more, loop_fails}
use Rattle.lextab_file.proofs.writing.states.put_rows.Goals as goal

pub returns-in_err-put_row-clause-bytes : goal.returns-in_err-put_row-clause-bytes
returns-in_err-put_row-clause-bytes g c =
    let p = err_from_is_err_and c.from_residual.result c.from_residual.ensures.1 in
    rw p.1 (loop_fails g.K.Sink.wrote g.met.K.Sink.wrote_more (λ r. row_text (row_of r)) c.args.rows.now c.loop-row.row-index _ c.loop-row-test.true c.row-item.is c.args.sink.now c.loop-row.sink c.put_row.new.sink c.loop-row.invariant.told c.in_err-put_row.ensures.bytes)

pub loop-row-preserved : goal.loop-row-preserved
loop-row-preserved g c = record {
  told = loop_more g.K.Sink.wrote g.met.K.Sink.wrote_more (λ r. row_text (row_of r)) c.args.rows.now c.loop-row.row-index _ c.loop-row-test.true c.row-item.is c.args.sink.now c.loop-row.sink c.put_row.new.sink c.loop-row.invariant.told c.in_ok-put_row.ensures.bytes;
  good = let a = c.in_ok-put_row.ensures.failures in let b = c.loop-row.invariant.good in omega arith;
}
