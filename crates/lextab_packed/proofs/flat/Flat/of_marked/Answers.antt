use Rattle.std.proofs.Common.{◌*◌, subst, arith}
use Rattle.lextab_packed.specs.Leaps.{OthersStay}
use Rattle.lextab_packed.specs.Machines.{table_machine}
use Rattle.lextab_packed.specs.Singles.{TellsSingles}
use Rattle.lextab_packed.proofs.flat.Flat.of_marked.Goals as goal

pub invariant_of-result : goal.invariant_of-result
invariant_of-result c = record {
  sizes = c.requires.len;
  targets = c.requires.marked;
  column = c.requires.column;
  told = c.requires.told;
  leap_column = omega (arith, c.in_ok-leaps.ensures.len, c.len.ensures, c.requires.column);
  leap_told = λ s known l is.
      subst (λ r. OthersStay r (256 * s) l) c.deref.ensures.value (c.in_ok-leaps.ensures.each s (omega (arith, known, c.len.ensures, c.requires.column)) l is);
  most_column = c.in_ok-most.ensures.len;
  most_told = λ k m is. subst (λ r. TellsSingles (table_machine c.args.tables) r k m) c.deref-2.ensures.value (c.in_ok-most.ensures.each k m is);
  source_column = c.in_ok-sources.ensures.len;
  source_told = c.in_ok-sources.ensures.each;
  more_column = c.in_ok-mores.ensures.len;
  more_told = c.in_ok-mores.ensures.told;
  begun_told = c.in_ok-begun.ensures;
}
