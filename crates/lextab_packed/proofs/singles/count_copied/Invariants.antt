use Rattle.std.proofs.Common.{◌≤◌}
use Rattle.lextab_packed.proofs.singles.count_copied.Given as goal

abbrev pub invariant-loop-letter : goal.invariant-loop-letter
invariant-loop-letter l = l.count ≤ l.letter
