use Rattle.std.proofs.Common.{◌+◌, drop, ◌∙◌, arith}
use Rattle.std.proofs.lemmas.Result.{err_from_is_err_and}
use Rattle.std.specs.Prelude.{map}
use Rattle.lex_machine.specs.Views.{statement_of}
use Rattle.lexscan_window.proofs.Saying.{left_is}
use Rattle.lexscan_matching.proofs.Telling as Tell
use Rattle.lexscan_matching.proofs.glanced.do_several.Goals as goal

pub returns-in_err-after-clause-bytes : goal.returns-in_err-after-clause-bytes
returns-in_err-after-clause-bytes g c =
    let i = c.loop-statement.statement-index in
    let ss = c.args.statements.now in
    let p = err_from_is_err_and c.from_residual.result c.from_residual.ensures.1 in
    rw p.1 (Tell.said_cut g.K.Sink.wrote g.met.K.Sink.wrote_more _ _ _ c.args.text.now (map statement_of ss) (map statement_of (drop i ss)) (map statement_of (drop (i + 1) ss)) (statement_of c.statement-item.result) c.args.condition c.loop-statement.after
    (left_is ss i c.statement-item.result c.loop-statement-test.true c.statement-item.is) c.loop-statement.invariant.said c.in_err-after.ensures.bytes)

pub loop-statement-preserved : goal.loop-statement-preserved
loop-statement-preserved g c =
    let i = c.loop-statement.statement-index in
    let ss = c.args.statements.now in
    let ens = c.in_ok-after.ensures in
    record {
      same = ens.same ∙ c.loop-statement.invariant.same;
      failures = omega (arith, ens.sink.write_faults, c.loop-statement.invariant.failures);
      live = ens.sink.may_write;
      said = Tell.said_next g.K.Sink.wrote g.met.K.Sink.wrote_more _ _ _ c.args.text.now (map statement_of ss) (map statement_of (drop i ss)) (map statement_of (drop (i + 1) ss)) (statement_of c.statement-item.result) c.args.condition c.loop-statement.after
          (left_is ss i c.statement-item.result c.loop-statement-test.true c.statement-item.is) c.loop-statement.invariant.said ens.bytes c.in_ok-after.after ens.condition;
    }
