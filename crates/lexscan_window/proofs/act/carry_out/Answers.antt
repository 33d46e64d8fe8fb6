use Rattle.std.proofs.Common.{◌+◌, drop, rules, ◌∙◌, ap, arith}
use Rattle.std.proofs.lemmas.List.{drop_all}
use Rattle.std.proofs.lemmas.Result.{err_from_is_err_and}
use Rattle.std.specs.Prelude.{map}
use Rattle.lex_machine.specs.Views.{statement_of}
use Rattle.lexscan_window.proofs.Saying as Say
use Rattle.lexscan_window.proofs.act.carry_out.Goals as goal

pub loop-statement-init : goal.loop-statement-init
loop-statement-init g c = record {
  same = search rules;
  failures = search rules;
  live = search rules;
  inside = search rules;
  carried = Say.carried_first g.K.Sink.wrote g.met.K.Sink.wrote_none g.met.K.Sink.wrote_more c.args.outlet.now.sink.now c.args.window.now.bytes (map statement_of c.args.statements.now) c.args.acting.now;
}

pub returns-in_err-stop-clause-cut_short : goal.returns-in_err-stop-clause-cut_short
returns-in_err-stop-clause-cut_short g c =
    let p = err_from_is_err_and c.from_residual.result c.from_residual.ensures.1 in
    rw p.1 (Say.cut_short g.K.Sink.wrote g.met.K.Sink.wrote_none g.met.K.Sink.wrote_more _ _ _ c.args.window.now.bytes (map statement_of c.args.statements.now) (map statement_of (drop (c.loop-statement.statement-index + 1) c.args.statements.now))
    (statement_of c.statement-item.result) c.args.acting.now c.loop-statement.acting (map statement_of (drop c.loop-statement.statement-index c.args.statements.now))
    (Say.left_is c.args.statements.now c.loop-statement.statement-index c.statement-item.result c.loop-statement-test.true c.statement-item.is) c.loop-statement.invariant.carried c.in_err-stop.ensures.bytes)

pub returns-in_default-clause-carried : goal.returns-in_default-clause-carried
returns-in_default-clause-carried g c =
    let ens = c.in_ok-stop.ensures in
    Say.carried_stop g.K.Sink.wrote g.met.K.Sink.wrote_none g.met.K.Sink.wrote_more _ _ _ c.args.window.now.bytes (map statement_of c.args.statements.now) (map statement_of (drop (c.loop-statement.statement-index + 1) c.args.statements.now))
    (statement_of c.statement-item.result) c.args.acting.now c.loop-statement.acting c.carry_one.new.acting (map statement_of (drop c.loop-statement.statement-index c.args.statements.now)) c.in_ok-stop.stop c.in_default.not-Next
    (Say.left_is c.args.statements.now c.loop-statement.statement-index c.statement-item.result c.loop-statement-test.true c.statement-item.is) c.loop-statement.invariant.carried ens.bytes ens.steps

pub loop-statement-preserved : goal.loop-statement-preserved
loop-statement-preserved g c =
    let ens = rw c.in-Next.is at c.in_ok-stop.ensures in
    record {
      same = ens.same ∙ c.loop-statement.invariant.same;
      failures = omega (arith, ens.sink.write_faults, c.loop-statement.invariant.failures);
      live = ens.sink.may_write;
      inside = ens.inside;
      carried = Say.carried_next g.K.Sink.wrote g.met.K.Sink.wrote_none g.met.K.Sink.wrote_more _ _ _ c.args.window.now.bytes (map statement_of c.args.statements.now) (map statement_of (drop (c.loop-statement.statement-index + 1) c.args.statements.now))
          (statement_of c.statement-item.result) c.args.acting.now c.loop-statement.acting c.carry_one.new.acting (map statement_of (drop c.loop-statement.statement-index c.args.statements.now))
          (Say.left_is c.args.statements.now c.loop-statement.statement-index c.statement-item.result c.loop-statement-test.true c.statement-item.is) c.loop-statement.invariant.carried ens.bytes ens.steps;
    }

pub returns-clause-carried : goal.returns-clause-carried
returns-clause-carried g c =
    Say.carried_last g.K.Sink.wrote g.met.K.Sink.wrote_none g.met.K.Sink.wrote_more _ _ c.args.window.now.bytes (map statement_of c.args.statements.now) (map statement_of (drop c.loop-statement.statement-index c.args.statements.now)) c.args.acting.now c.loop-statement.acting
    (ap (map statement_of) (drop_all c.loop-statement.statement-index c.args.statements.now c.loop-statement-test.false)) c.loop-statement.invariant.carried
