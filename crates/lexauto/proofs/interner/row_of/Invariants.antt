use Rattle.std.proofs.Common.{◌≡◌, drop}
use Rattle.lexauto.specs.Interned.{digest}
use Rattle.lexauto.proofs.interner.row_of.Given as goal

abbrev pub invariant-loop-number : goal.invariant-loop-number
invariant-loop-number l = digest l.hash (drop l.number-index l.kept) ≡ digest 0 l.kept
