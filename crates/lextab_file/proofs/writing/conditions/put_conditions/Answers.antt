use Rattle.std.proofs.Common.{arith}
use Rattle.std.proofs.lemmas.Result.{err_from_is_err_and}
use Rattle.lextab_packed.specs.Views.{condition_of}
use Rattle.lextab_file.specs.File.{condition_text}
use Rattle.lextab_file.proofs.Written.{loop_more, loop_fails}
use Rattle.lextab_file.proofs.writing.conditions.put_conditions.Goals as goal

pub returns-in_err-put_condition-clause-bytes : goal.returns-in_err-put_condition-clause-bytes
returns-in_err-put_condition-clause-bytes g c =
    let p = err_from_is_err_and c.from_residual.result c.from_residual.ensures.1 in
    rw p.1 (loop_fails g.K.Sink.wrote g.met.K.Sink.wrote_more (λ c. condition_text (condition_of c)) c.args.conditions.now c.loop-condition.condition-index _ c.loop-condition-test.true c.condition-item.is c.args.sink.now c.loop-condition.sink c.put_condition.new.sink c.loop-condition.invariant.told c.in_err-put_condition.ensures.bytes)

pub loop-condition-preserved : goal.loop-condition-preserved
loop-condition-preserved g c = record {
  told = loop_more g.K.Sink.wrote g.met.K.Sink.wrote_more (λ c. condition_text (condition_of c)) c.args.conditions.now c.loop-condition.condition-index _ c.loop-condition-test.true c.condition-item.is c.args.sink.now c.loop-condition.sink c.put_condition.new.sink c.loop-condition.invariant.told c.in_ok-put_condition.ensures.bytes;
  good = let a = c.in_ok-put_condition.ensures.failures in let b = c.loop-condition.invariant.good in omega arith;
}
