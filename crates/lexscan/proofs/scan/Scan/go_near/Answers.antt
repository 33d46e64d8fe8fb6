use Rattle.std.proofs.lemmas.Grind.{common_steps}
use Rattle.std.proofs.Common.{[], refl, arith}
use Rattle.lexscan.proofs.Furthering as Further
use Rattle.lexscan.proofs.scan.Scan.go_near.Goals as goal

pub returns-then-not-looks : goal.returns-then-not-looks
returns-then-not-looks g c = record {
  same = grind (arith, common_steps);
  goes_on = ([], [], g.met.S.Source.gave_none _, g.met.K.Sink.wrote_none _, λ e. (refl, e), (0, λ n given out h. Further.no_further (g.M.Machine.machine c.args.machine.now) n given out c.args.self.now.state h));
  ends = grind (arith, common_steps);
  read_faults = grind (arith, common_steps);
  write_faults = grind (arith, common_steps);
  refusals = grind (arith, common_steps);
  at_end = grind (arith, common_steps);
  max_reads = grind (arith, common_steps);
  no_earlier = λ _. grind (arith, common_steps);
  going = grind (arith, common_steps);
  working = grind (arith, common_steps);
  next = record {
    may_read = grind (arith, common_steps);
    may_write = grind (arith, common_steps);
    kept = grind (arith, common_steps);
  };
}
