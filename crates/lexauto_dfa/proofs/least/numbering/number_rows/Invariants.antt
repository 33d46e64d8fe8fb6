use Rattle.std.proofs.Common.{◌≡◌, ◌≤◌, ◌*◌, ◌%◌, ◌-◌, ◌++◌, ℕ, List, length}
use Rattle.lexauto_dfa.specs.Numbers.{AreCalled, AreNumbers, AreRows, Keeps}
use Rattle.lexauto_dfa.proofs.least.numbering.number_rows.Given as goal

abbrev pub invariant-rows : goal.invariant-rows
invariant-rows l = record {
  numbers : AreNumbers l.classes l.numbers;
  whole : length l.rows.items % 256 ≡ 0;
  most : length l.rows.items ≤ 256 * length l.numbers.members.items;
  each : AreRows l.classes l.table l.numbers.members.items l.rows.items;
  called : (starts : List ℕ) → AreCalled (length starts) l.fn.numbers.members.items starts → AreCalled (length starts) l.numbers.members.items (starts ++ l.rows.items);
  keeps : Keeps l.fn.numbers.members.items l.numbers.members.items;
}

abbrev pub decreases-rows : goal.decreases-rows
decreases-rows l = 256 * length l.classes - length l.rows.items
