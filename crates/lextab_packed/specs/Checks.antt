-- What a table keeps to. (This project's; what actions keep to: POSIX and flex, Actions.)
use Rattle.std.specs.Prelude.{◌≡◌, ℕ, ◌+◌, ◌<◌, ◌≤◌, ◌==◌, Bool, cond, true, false, List, [], length, map, sum_by, slice_index, ⊤}
use Rattle.std.specs.List.{list_any}
use Rattle.lex_semantics.specs.Limits.{max_conditions, max_rules, max_states, max_classes, max_slots, max_literal_bytes, max_status, max_fixed_length, max_statements}
use Rattle.lex_semantics.specs.Text.{IsText, Among, Pairwise}
use Rattle.lex_semantics.specs.Spec.{Cut, Whole, Head, Trail, has_reject, is_reject}
use Rattle.lex_semantics.specs.Legal.{IsLegal}
use Rattle.lex_semantics.specs.Literals.{literal_of}
pub use Rattle.lex_machine.specs.Literals.{Each, HasText, literal_bytes}
use Rattle.lextab_packed.specs.Table.{ConditionOfTable, RuleOfTable, Row, Slot, Table}

-- how many there may be of each kind
pub record AreSizes (conditions rules states classes slots : ℕ) : Type 0 where
  pub some_conditions : (1 ≤ conditions) × (conditions ≤ max_conditions)
  pub few_rules : rules ≤ max_rules
  pub some_states : (1 ≤ states) × (states ≤ max_states)
  pub some_classes : (1 ≤ classes) × (classes ≤ max_classes)
  pub some_slots : (classes ≤ slots) × (slots ≤ max_slots)

pub record IsCondition (states : ℕ) (i : ℕ) (c : ConditionOfTable) : Type 0 where
  pub start : c.start < states
  pub line_start : c.line_start < states
  pub print : length c.end.print ≤ max_literal_bytes
  pub bytes : IsText c.end.print
  pub status : c.end.status ≤ max_status

abbrev pub IsCutInRange : Cut → Type 0
IsCutInRange Whole = ⊤
IsCutInRange (Head n) = n ≤ max_fixed_length
IsCutInRange (Trail n) = n ≤ max_fixed_length

-- a legal action in normal form, of at most 256 statements and 4,096 literal bytes
pub record IsTableRule (conditions : ℕ) (i : ℕ) (r : RuleOfTable) : Type 0 where
  pub cut : IsCutInRange r.cut
  pub few : length r.statements ≤ max_statements
  pub literals : sum_by (λ s. length (literal_of s)) r.statements ≤ max_literal_bytes
  pub legal : IsLegal conditions r.statements
  pub bytes : Each (λ i s. IsText (literal_of s)) 0 r.statements

-- the row of state s, where some rule has REJECT or none has: then a state accepts at most one
pub record IsRow (rule_count states classes slots : ℕ) (rejects : Bool) (s : ℕ) (r : Row) : Type 0 where
  pub default_target : r.default_target < states
  pub base : r.base + classes ≤ slots
  pub rules : (i : ℕ) → Among r.rules i → i < rule_count
  pub ascending : Pairwise ◌<◌ r.rules
  pub first_alone : rejects ≡ false → length r.rules ≤ 1
  -- state 0 is dead
  pub dead : s ≡ 0 → (r.default_target ≡ 0) × (r.base ≡ 0) × (r.rules ≡ [])

-- the slot at place i, where the rows have these bases: an unused one is 0 and 0, another one is within its state's row
pub record IsSlot (states classes : ℕ) (bases : List ℕ) (i : ℕ) (s : Slot) : Type 0 where
  pub next : s.next < states
  pub check : s.check < states
  pub unused : s.check ≡ 0 → s.next ≡ 0
  pub from : 1 ≤ s.check → slice_index bases s.check ≤ i
  pub to : 1 ≤ s.check → i < slice_index bases s.check + classes

pub record IsTable (t : Table) : Type 0 where
  pub sizes : AreSizes (length t.conditions) (length t.rules) (length t.rows) t.classes (length t.slots)
  pub conditions : Each (IsCondition (length t.rows)) 0 t.conditions
  pub rules : Each (IsTableRule (length t.conditions)) 0 t.rules
  pub bytes : length t.class_of ≡ 256
  pub class_of : Each (λ b k. k < t.classes) 0 t.class_of
  pub rows : Each (IsRow (length t.rules) (length t.rows) t.classes (length t.slots)
      (list_any (λ r. list_any is_reject r.statements) t.rules)) 0 t.rows
  pub slots : Each (IsSlot (length t.rows) t.classes (map (λ r. r.base) t.rows)) 0 t.slots

-- where the state is 0, which is the dead one and that of an unused slot, the number is 0
abbrev pub none_at_0 : ℕ → ℕ → Bool
none_at_0 s n = cond (s == 0) (n == 0) true

-- Names that proofs have: how many there are of each kind, whether some rule has REJECT, and the bases of rows.
pub record Sizes : Type 0 where
  pub conditions : ℕ
  pub rules : ℕ
  pub states : ℕ
  pub classes : ℕ
  pub slots : ℕ

abbrev pub sizes_of : Table → Sizes
sizes_of t =
    record {
      conditions = length t.conditions;
      rules = length t.rules;
      states = length t.rows;
      classes = t.classes;
      slots = length t.slots;
    }

abbrev pub some_rule_rejects : List RuleOfTable → Bool
some_rule_rejects rs = list_any (λ r. has_reject r.statements) rs

abbrev pub bases_of : List Row → List ℕ
bases_of rows = map (λ r. r.base) rows
