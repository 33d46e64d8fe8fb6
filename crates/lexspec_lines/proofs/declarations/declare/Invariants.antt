use Rattle.std.proofs.Common.{◌≡◌, ◌++◌, map, length}
use Rattle.lexspec_lines.specs.Lines.{words}
use Rattle.lexspec_lines.specs.Declaring.{declared_of, with_kind, AreGood}
use Rattle.lexspec_lines.proofs.declarations.declare.Given as goal

abbrev pub invariant-loop-name : goal.invariant-loop-name
invariant-loop-name l = record {
  good : AreGood (map declared_of l.conditions.items);
  same : map declared_of l.conditions.items ++ with_kind l.exclusive (words l.rest) ≡ map declared_of l.initial.conditions.items ++ with_kind l.exclusive (words l.names);
}

abbrev pub decreases-loop-name : goal.decreases-loop-name
decreases-loop-name l = length l.rest
