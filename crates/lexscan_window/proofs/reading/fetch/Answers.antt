use Rattle.std.proofs.lemmas.Grind.{common_steps}
use Rattle.std.proofs.Common.{length, ap, sym, ◌∙◌, arith}
use Rattle.std.proofs.lemmas.List.{length-append}
use Rattle.lexscan_window.proofs.reading.fetch.Goals as goal

pub returns-in-Ok-Some : goal.returns-in-Ok-Some
returns-in-Ok-Some g c = record {
  same = grind (arith, common_steps);
  same_sink = grind (arith, common_steps);
  put = grind (arith, common_steps);
  took = grind (arith, common_steps);
  there = (let ens = rw c.in-Ok-Some.field-0-is at c.in-Ok-Some.ensures in
      let sizes = ap length ens.byte.held ∙ length-append c.args.reading.now.window.bytes _ in
      (omega (arith, sizes, c.requires.place, c.len.ensures, c.if-next-len.false), omega (arith, sizes, c.requires.place, c.len.ensures, c.if-next-len.false), ens.byte.at_end ∙ sym c.if-ended.false));
  wanted = grind (arith, common_steps);
  source = grind (arith, common_steps);
  states = grind (arith, common_steps);
  room = grind (arith, common_steps);
  too_many = grind (arith, common_steps);
  at_limit = grind (arith, common_steps);
  short = grind (arith, common_steps);
}
