use Rattle.std.proofs.lemmas.Grind.{common_steps}
use Rattle.std.proofs.Common.{List, ℕ, ◌≡◌, ap, subst, ◌∙◌, arith}
use Rattle.lex_semantics.specs.Machine.{Machine}
use Rattle.lex_semantics.specs.Spec.{EndAction}
use Rattle.lexscan_window.proofs.Saying.{prefix_same}
use Rattle.lexscan_matching.proofs.Descending.{wrote_flushed}
use Rattle.lexscan.proofs.Tying.{write_only}
use Rattle.lexscan.proofs.carry.carry_end.Goals as goal

pub returns-in-Err : goal.returns-in-Err
returns-in-Err g c = record {
  same = grind (arith, common_steps);
  handed_on = write_only _ c.in-Err.e c.in-Err.ensures.sink.refusals;
  sink = grind (arith, common_steps);
  failed = grind (arith, common_steps);
  max_reads = grind (arith, common_steps);
  bytes = grind (arith, common_steps);
  left = grind (arith, common_steps);
  unchanged = grind (arith, common_steps);
}

pub returns-in-Err-flush : goal.returns-in-Err-flush
returns-in-Err-flush g c = record {
  same = grind (arith, common_steps);
  handed_on = write_only _ c.in-Err-flush.e c.in-Err-flush.ensures.sink.refusals;
  sink = grind (arith, common_steps);
  failed = grind (arith, common_steps);
  max_reads = grind (arith, common_steps);
  bytes = (print, prefix_same print, wrote_flushed g.K.Sink.wrote _ _ _ print g.met.K.Sink.wrote_more (subst (λ z. g.K.Sink.wrote c.args.outlet.now.sink.now z c.put.new.outlet.sink.now) same c.in-Ok.ensures.bytes) c.in-Err-flush.ensures.bytes);
  left = grind (arith, common_steps);
  unchanged = grind (arith, common_steps);
}
  where
    M : Machine
    M = g.M.Machine.machine c.args.machine.now

    print : List ℕ
    print = (M.ending c.args.state.now.place.condition).print

    same : c.as_slice.result.now ≡ print
    same = c.as_slice.ensures.value ∙ ap (λ (z : EndAction). z.print) c.eof-action.ensures

pub returns-in-Ok-flush : goal.returns-in-Ok-flush
returns-in-Ok-flush g c = record {
  same = grind (arith, common_steps);
  handed_on = c.in-Ok-flush.ensures.flushed;
  sink = grind (arith, common_steps);
  failed = grind (arith, common_steps);
  max_reads = grind (arith, common_steps);
  bytes = wrote_flushed g.K.Sink.wrote _ _ _ print g.met.K.Sink.wrote_more (subst (λ z. g.K.Sink.wrote c.args.outlet.now.sink.now z c.put.new.outlet.sink.now) same c.in-Ok.ensures.bytes) c.in-Ok-flush.ensures.bytes;
  left = grind (arith, common_steps);
  unchanged = grind (arith, common_steps);
}
  where
    M : Machine
    M = g.M.Machine.machine c.args.machine.now

    print : List ℕ
    print = (M.ending c.args.state.now.place.condition).print

    same : c.as_slice.result.now ≡ print
    same = c.as_slice.ensures.value ∙ ap (λ (z : EndAction). z.print) c.eof-action.ensures
