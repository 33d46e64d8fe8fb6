use Rattle.std.proofs.Common.{◌≡◌, length}
use Rattle.lexauto_dfa.specs.Numbers.{AreCalled, AreNumbers, AreStarts, Keeps}
use Rattle.lexauto_dfa.proofs.least.numbering.number_starts.Given as goal

abbrev pub invariant-loop-start : goal.invariant-loop-start
invariant-loop-start l = record {
  numbers : AreNumbers l.classes l.numbers;
  len : length l.called.items ≡ l.start-index;
  each : AreStarts l.classes l.starts l.numbers.members.items l.called.items;
  called : AreCalled (length l.starts) l.numbers.members.items l.called.items;
  keeps : Keeps l.fn.numbers.members.items l.numbers.members.items;
}
