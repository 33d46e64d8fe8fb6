use Rattle.std.proofs.Common.{refl, arith}
use Rattle.std.proofs.lemmas.List.{take_rest}
use Rattle.lexscan.proofs.singles.pass_dropped.Goals as goal

pub returns-then-not-tried : goal.returns-then-not-tried
returns-then-not-tried g c = record {
  count = 0;
  singles = (omega arith, λ i less. absurd (omega (arith, less)));
  left_is = refl;
}

pub returns : goal.returns
returns g c = record {
  count = c.dropped-count.result;
  singles = c.dropped-count.ensures;
  left_is = take_rest c.args.bytes.now c.dropped-count.result;
}
