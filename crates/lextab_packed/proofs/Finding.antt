-- What a table has at a place, and what it is taken for past its end.
use Rattle.std.specs.Prelude.{ℕ, ◌+◌, Bool, cond, List, [], Option, option_map, unwrap_or, slice_index}
use Rattle.lex_semantics.specs.Spec.{Cut, Whole, Statement, EndAction}
use Rattle.lextab_packed.specs.Table.{ConditionOfTable, RuleOfTable, Row, Slot, Table}
use Rattle.lextab_packed.specs.Steps.{row_in, slot_at}

abbrev pub no_row : Row
no_row = record { default_target = 0; base = 0; rules = [] }

abbrev pub no_slot : Slot
no_slot = record { check = 0; next = 0 }

abbrev pub start_at : Option ConditionOfTable → Bool → ℕ
start_at o line_start = unwrap_or (option_map (λ k. cond line_start k.line_start k.start) o) 0

abbrev pub cut_at : Option RuleOfTable → Cut
cut_at o = unwrap_or (option_map (λ r. r.cut) o) Whole

abbrev pub statements_at : Option RuleOfTable → List Statement
statements_at o = unwrap_or (option_map (λ r. r.statements) o) []

abbrev pub ending_at : Option ConditionOfTable → EndAction
ending_at o = unwrap_or (option_map (λ k. k.end) o) (record { print = []; status = 0 })

-- the slot for a state and a byte
abbrev pub slot_in : Table → ℕ → ℕ → Slot
slot_in t s b = slot_at t ((row_in t s).base + slice_index t.class_of b)

-- the rules that a state accepts
abbrev pub accepted_in : Table → ℕ → List ℕ
accepted_in t s = (row_in t s).rules
