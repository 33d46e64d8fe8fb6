use Rattle.std.proofs.Common.{◌≡◌, ◌++◌, ℕ, List, length, take}
use Rattle.lexauto_dfa.specs.Numbers.{AreCalled, AreNumbers, AreRows, IsNumberOf, Keeps}
use Rattle.lexauto_dfa.proofs.least.numbering.number_row.Given as goal

abbrev pub invariant-loop-byte : goal.invariant-loop-byte
invariant-loop-byte l = record {
  numbers : AreNumbers l.classes l.numbers;
  len : length l.called ≡ 256;
  each : AreRows l.classes l.table l.numbers.members.items (l.fn.rows.items ++ take l.byte l.called);
  called : (starts : List ℕ) → AreCalled (length starts) l.fn.numbers.members.items (starts ++ l.fn.rows.items)
      → AreCalled (length starts) l.numbers.members.items (starts ++ (l.fn.rows.items ++ take l.byte l.called));
  keeps : Keeps l.fn.numbers.members.items l.numbers.members.items;
  before : IsNumberOf l.classes l.numbers.members.items l.before.number l.before.state;
}
