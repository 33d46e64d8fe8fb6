-- A worked example of a packing.
use Rattle.std.specs.Prelude.{ℕ, ◌==◌, cond, [], ◌∷◌, ◌++◌, replicate, slice_index}
use Rattle.lextab_packed.specs.Table.{Table, Row, Slot}
use Rattle.lextab.specs.Packing.{IsPacked}

-- four states, where `a` leads from state 1 to state 2 and from there to state 3, and all else to state 0
abbrev pub by_a : ℕ → ℕ → ℕ
by_a s b = cond (b == 97) (slice_index (0 ∷ 2 ∷ 3 ∷ 0 ∷ []) s) 0

abbrev pub row_based : ℕ → Row
row_based b = record { default_target = 0; base = b; rules = [] }

abbrev pub slot_for : ℕ → ℕ → Slot
slot_for s target = record { check = s; next = target }

-- `a` has a class by itself; the exception of state 2 is placed by one slot further than that of state 1
abbrev pub twice_a : Table
twice_a = record {
  conditions = [];
  rules = [];
  classes = 2;
  class_of = replicate 97 0 ++ 1 ∷ replicate 158 0;
  rows = row_based 0 ∷ row_based 0 ∷ row_based 1 ∷ row_based 0 ∷ [];
  slots = slot_for 0 0 ∷ slot_for 1 2 ∷ slot_for 2 3 ∷ [];
}

abbrev pub TwiceA : Type 0
TwiceA = IsPacked 4 by_a twice_a
