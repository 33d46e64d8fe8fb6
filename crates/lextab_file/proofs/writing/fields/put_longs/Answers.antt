use Rattle.std.proofs.Common.{arith, rules}
use Rattle.std.specs.Int.{w32, to_be_bytes}
use Rattle.std.proofs.lemmas.Result.{err_from_is_err_and}
use Rattle.lextab_file.proofs.Written.{loop_more, loop_fails}
use Rattle.lextab_file.proofs.writing.fields.put_longs.Goals as goal

pub returns-in_err-put_long-clause-bytes : goal.returns-in_err-put_long-clause-bytes
returns-in_err-put_long-clause-bytes g c =
    let p = err_from_is_err_and c.from_residual.result c.from_residual.ensures.1 in
    rw p.1 (loop_fails g.K.Sink.wrote g.met.K.Sink.wrote_more (to_be_bytes w32) c.args.numbers.now c.loop-number.number-index _ c.loop-number-test.true (search rules) c.args.sink.now c.loop-number.sink c.put_long.new.sink c.loop-number.invariant.told c.in_err-put_long.ensures.bytes)

pub loop-number-preserved : goal.loop-number-preserved
loop-number-preserved g c = record {
  told = loop_more g.K.Sink.wrote g.met.K.Sink.wrote_more (to_be_bytes w32) c.args.numbers.now c.loop-number.number-index _ c.loop-number-test.true (search rules) c.args.sink.now c.loop-number.sink c.put_long.new.sink c.loop-number.invariant.told c.in_ok-put_long.ensures.bytes;
  good = let a = c.in_ok-put_long.ensures.failures in let b = c.loop-number.invariant.good in omega arith;
}
