use Rattle.std.proofs.Common.{arith}
use Rattle.std.proofs.lemmas.Result.{err_from_is_err_and}
use Rattle.lextab_packed.specs.Views.{table_rule_of}
use Rattle.lextab_file.specs.File.{rule_text}
use Rattle.lextab_file.proofs.Written.{loop_more, loop_fails}
use Rattle.lextab_file.proofs.writing.actions.put_rules.Goals as goal

pub returns-in_err-put_rule-clause-bytes : goal.returns-in_err-put_rule-clause-bytes
returns-in_err-put_rule-clause-bytes g c =
    let p = err_from_is_err_and c.from_residual.result c.from_residual.ensures.1 in
    rw p.1 (loop_fails g.K.Sink.wrote g.met.K.Sink.wrote_more (λ r. rule_text (table_rule_of r)) c.args.rules.now c.loop-rule.rule-index _ c.loop-rule-test.true c.rule-item.is c.args.sink.now c.loop-rule.sink c.put_rule.new.sink c.loop-rule.invariant.told c.in_err-put_rule.ensures.bytes)

pub loop-rule-preserved : goal.loop-rule-preserved
loop-rule-preserved g c = record {
  told = loop_more g.K.Sink.wrote g.met.K.Sink.wrote_more (λ r. rule_text (table_rule_of r)) c.args.rules.now c.loop-rule.rule-index _ c.loop-rule-test.true c.rule-item.is c.args.sink.now c.loop-rule.sink c.put_rule.new.sink c.loop-rule.invariant.told c.in_ok-put_rule.ensures.bytes;
  good = let a = c.in_ok-put_rule.ensures.failures in let b = c.loop-rule.invariant.good in omega arith;
}
