-- How a table goes from state to state. (Aho, Sethi and Ullman, Compilers, 3.9.)
use Rattle.std.specs.Prelude.{ℕ, ◌+◌, Bool, cond, ◌&&◌, ◌==◌, nat_lt, [], length, slice_index, slice_index_or, slice_get, option_map, unwrap_or}
use Rattle.lex_semantics.specs.Spec.{Whole}
use Rattle.lex_semantics.specs.Machine.{Machine}
use Rattle.lextab_packed.specs.Table.{Row, Slot, Table}

abbrev pub row_in : Table → ℕ → Row
row_in t s = slice_index_or t.rows s (record { default_target = 0; base = 0; rules = [] })

abbrev pub slot_at : Table → ℕ → Slot
slot_at t i = slice_index_or t.slots i (record { check = 0; next = 0 })

-- the target in the slot where that is the state's, else the target of most classes
abbrev pub target : Row → Slot → ℕ → ℕ
target row slot s = cond (slot.check == s) slot.next row.default_target

-- the state after one byte more; out of range the dead state
abbrev pub step_of : Table → ℕ → ℕ → ℕ
step_of t s b = cond (nat_lt s (length t.rows) && nat_lt b 256)
    (target (row_in t s) (slot_at t ((row_in t s).base + slice_index t.class_of b)) s) 0

-- the machine of a table, where these states go on
abbrev pub machine_of_table : Table → (ℕ → Bool) → Machine
machine_of_table t goes_on = record {
  conditions = length t.conditions;
  count = length t.rules;
  start = λ c line_start. unwrap_or (option_map (λ k. cond line_start k.line_start k.start) (slice_get t.conditions c))
      0;
  next = step_of t;
  accepts = λ s. (row_in t s).rules;
  goes_on = goes_on;
  cut = λ i. unwrap_or (option_map (λ r. r.cut) (slice_get t.rules i)) Whole;
  statements = λ i. unwrap_or (option_map (λ r. r.statements) (slice_get t.rules i)) [];
  ending = λ c. unwrap_or (option_map (λ k. k.end) (slice_get t.conditions c)) (record { print = []; status = 0 });
}
