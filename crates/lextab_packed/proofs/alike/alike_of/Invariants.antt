use Rattle.std.proofs.Common.{◌≡◌, ◌≤◌, length}
use Rattle.lextab_packed.specs.Alike.{AreAlike}
use Rattle.lextab_packed.proofs.alike.alike_of.Given as goal

abbrev pub invariant-bytes : goal.invariant-bytes
invariant-bytes l = record {
  inside : l.byte ≤ 256;
  firsts_len : length l.first ≡ 256;
  afters_len : length l.after ≡ 256;
  alike : AreAlike l.class_of l.first l.after l.byte;
}

abbrev pub decreases-bytes : goal.decreases-bytes
decreases-bytes l = l.byte
