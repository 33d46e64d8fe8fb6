use Rattle.std.proofs.Common.{◌≡◌, map, take}
use Rattle.lextab_packed.proofs.Going.{accepts}
use Rattle.lextab_packed.proofs.laying.accepting.Given as goal

abbrev pub invariant-loop-row : goal.invariant-loop-row
invariant-loop-row l = l.flags.items ≡ map accepts (take l.row-index l.rows)
