-- What holds at each place of a list, and where a table's states go.
use Rattle.std.proofs.Common.{◌≡◌, ℕ, zero, suc, ◌+◌, ◌<◌, ◌≤◌, Bool, true, false, cond, List, [], ◌∷◌, length, get_or, refl, ap, subst, ◌∙◌, arith}
use Rattle.std.specs.Prelude.{◌&&◌, ◌==◌, nat_lt, slice_index, slice_index_or}
use Rattle.std.proofs.lemmas.Bool.{and_parts, ltb-true, lt-ltb, eqb-true, cond-true, cond-false, and_from, le-ltb, and_left}
use Rattle.lex_semantics.specs.Text.{Among}
use Rattle.lex_semantics.specs.Machine.{Machine, walk}
use Rattle.lex_semantics.specs.MachineLaws.{LeadsToAccept}
use Rattle.lextab_packed.specs.Table.{Table, Row, Slot}
use Rattle.lextab_packed.specs.Checks.{Each, Sizes, sizes_of, bases_of, some_rule_rejects, IsRow, IsSlot, IsTable}
use Rattle.lextab_packed.specs.Steps.{row_in, target, step_of, machine_of_table}
use Rattle.lextab_packed.proofs.Finding.{no_row, no_slot, slot_in, accepted_in}

each_from : {A : Type 0} (P : ℕ → A → Type 0) (n : ℕ) (xs : List A) (i : ℕ) (d : A) → Each P n xs → i < length xs → P (n + i) (get_or xs i d)
each_from P n [] i d h lt = absurd (omega arith)
each_from P n (x ∷ xs) zero d h lt = let e : n ≡ n + 0 = omega arith in subst (λ (k : ℕ). P k x) e h.0
each_from P n (x ∷ xs) (suc i) d h lt =
    let e : suc n + i ≡ n + suc i = omega arith in
    let low : i < length xs = omega arith in
    subst (λ (k : ℕ). P k (get_or xs i d)) e (each_from P (suc n) xs i d h.1 low)

-- what each meets is met at its place
pub each_at : {A : Type 0} (P : ℕ → A → Type 0) (xs : List A) (i : ℕ) (d : A) → Each P 0 xs → i < length xs → P i (get_or xs i d)
each_at P xs i d h lt = let e : 0 + i ≡ i = omega arith in subst (λ (k : ℕ). P k (get_or xs i d)) e (each_from P 0 xs i d h lt)

each_where : {A : Type 0} (P : ℕ → A → Type 0) (n : ℕ) (xs : List A) (d : A) → ((i : ℕ) → i < length xs → P (n + i) (slice_index_or xs i d)) → Each P n xs
each_where P n [] d h = tt
each_where P n (x ∷ xs) d h = (
  (let e : n + 0 ≡ n = omega arith in subst (λ (i : ℕ). P i x) e (h 0 (omega arith))),
  each_where P (suc n) xs d (λ i lt. let e : n + suc i ≡ suc n + i = omega arith in subst (λ (k : ℕ). P k (slice_index_or xs i d)) e (h (suc i) (omega (arith, lt)))),
)

-- and what is met at each place is met by each
pub each_of : {A : Type 0} (P : ℕ → A → Type 0) (xs : List A) (d : A) → ((i : ℕ) → i < length xs → P i (slice_index_or xs i d)) → Each P 0 xs
each_of P xs d h = each_where P 0 xs d (λ i lt. let e : i ≡ 0 + i = omega arith in subst (λ (k : ℕ). P k (slice_index_or xs i d)) e (h i lt))

pub past_end : {A : Type 0} (xs : List A) (i : ℕ) (d : A) → length xs ≤ i → get_or xs i d ≡ d
past_end [] i d h = refl
past_end (x ∷ xs) zero d h = absurd (omega (arith, h))
past_end (x ∷ xs) (suc i) d h = past_end xs i d (omega (arith, h))

target_below : (z : Sizes) (bases : List ℕ) (i n : ℕ) (row : Row) (slot : Slot) → row.default_target < n → z.states ≡ n → IsSlot z.states z.classes bases i slot → (b : Bool) → cond b slot.next row.default_target < n
target_below z bases i n row slot o e h false = o
target_below z bases i n row slot o e h true = let low = h.next in omega (arith, low, e)

dead_slot : (z : Sizes) (bases : List ℕ) (i o : ℕ) (slot : Slot) → o ≡ 0 → IsSlot z.states z.classes bases i slot → (b : Bool) → (slot.check == 0) ≡ b → cond b slot.next o ≡ 0
dead_slot z bases i o slot e h false q = e
dead_slot z bases i o slot e h true q = h.unused (eqb-true slot.check 0 q)

in_range_or_zero : (b : Bool) (x n : ℕ) → 1 ≤ n → (b ≡ true → x < n) → cond b x 0 < n
in_range_or_zero true x n one h = h refl
in_range_or_zero false x n one h = one

zero_or_zero : (b : Bool) (x : ℕ) → (b ≡ true → x ≡ 0) → cond b x 0 ≡ 0
zero_or_zero true x h = h refl
zero_or_zero false x h = refl

module _ (t : Table) (ok : IsTable t) where
  pub row_is : (s : ℕ) → s < length t.rows → IsRow (sizes_of t).rules (sizes_of t).states (sizes_of t).classes (sizes_of t).slots (some_rule_rejects t.rules) s (row_in t s)
  row_is s lt = each_at (IsRow (sizes_of t).rules (sizes_of t).states (sizes_of t).classes (sizes_of t).slots (some_rule_rejects t.rules)) t.rows s no_row ok.rows lt

  pub slot_is : (i : ℕ) → i < length t.slots → IsSlot (sizes_of t).states (sizes_of t).classes (bases_of t.rows) i (slice_index_or t.slots i no_slot)
  slot_is i lt = each_at (IsSlot (sizes_of t).states (sizes_of t).classes (bases_of t.rows)) t.slots i no_slot ok.slots lt

  pub class_below : (b : ℕ) → b < 256 → get_or t.class_of b 0 < t.classes
  class_below b lt = let len = ok.bytes in each_at (λ i k. k < t.classes) t.class_of b 0 ok.class_of (omega (arith, len, lt))

  pub place_below : (s b : ℕ) → s < length t.rows → b < 256 → (row_in t s).base + slice_index t.class_of b < length t.slots
  place_below s b h k = let r = (row_is s h).base in let c = class_below b k in omega (arith, r, c)

  target_in : (s b : ℕ) → s < length t.rows → b < 256 → target (row_in t s) (slot_in t s b) s < length t.rows
  target_in s b h k =
      let i = (row_in t s).base + slice_index t.class_of b in
      target_below (sizes_of t) (bases_of t.rows) i (length t.rows) (row_in t s) (slot_in t s b) (row_is s h).default_target refl (slot_is i (place_below s b h k)) ((slot_in t s b).check == s)

  -- states stay in range
  pub step_below : (s b : ℕ) → step_of t s b < length t.rows
  step_below s b = in_range_or_zero (nat_lt s (length t.rows) && nat_lt b 256) (target (row_in t s) (slot_in t s b) s) (length t.rows) ok.sizes.some_states.0
      (λ e. let p = and_parts (nat_lt s (length t.rows)) (nat_lt b 256) e in target_in s b (ltb-true s (length t.rows) p.0) (ltb-true b 256 p.1))

  -- the dead state stays dead
  pub step_dead : (b : ℕ) → step_of t 0 b ≡ 0
  step_dead b = zero_or_zero (nat_lt 0 (length t.rows) && nat_lt b 256) (target (row_in t 0) (slot_in t 0 b) 0) (λ e.
      let p = and_parts (nat_lt 0 (length t.rows)) (nat_lt b 256) e in
      let h = ltb-true 0 (length t.rows) p.0 in let k = ltb-true b 256 p.1 in
      let i = (row_in t 0).base + slice_index t.class_of b in
      dead_slot (sizes_of t) (bases_of t.rows) i (row_in t 0).default_target (slot_in t 0 b) ((row_is 0 h).dead refl).0 (slot_is i (place_below 0 b h k)) ((slot_in t 0 b).check == 0) refl)

  pub dead_accepts : accepted_in t 0 ≡ []
  dead_accepts = ((row_is 0 ok.sizes.some_states.0).dead refl).2

  -- a step of a state of the table, by a byte
  pub step_is : (s b : ℕ) → s < length t.rows → b < 256 → step_of t s b ≡ target (row_in t s) (slot_in t s b) s
  step_is s b h k = cond-true (nat_lt s (length t.rows) && nat_lt b 256) (target (row_in t s) (slot_in t s b) s) 0 (and_from (nat_lt s (length t.rows)) (nat_lt b 256) (lt-ltb s (length t.rows) h) (lt-ltb b 256 k))

  -- any other number leads to the dead state, and accepts nothing
  pub past_step : (s b : ℕ) → length t.rows ≤ s → step_of t s b ≡ 0
  past_step s b h = cond-false (nat_lt s (length t.rows) && nat_lt b 256) (target (row_in t s) (slot_in t s b) s) 0 (and_left (nat_lt s (length t.rows)) (nat_lt b 256) (le-ltb s (length t.rows) h))

  pub past_accepts : (s : ℕ) → length t.rows ≤ s → accepted_in t s ≡ []
  past_accepts s h = ap (λ (r : Row). r.rules) (past_end t.rows s no_row h)

  -- its machine, whatever goes on there
  abbrev plain : Machine
  plain = machine_of_table t (λ q. false)

  pub dead_after : (w : List ℕ) → walk plain 0 w ≡ 0
  dead_after [] = refl
  dead_after (b ∷ w) = ap (λ (s : ℕ). walk plain s w) (step_dead b) ∙ dead_after w

  pub nowhere : (s : ℕ) → length t.rows ≤ s → LeadsToAccept plain s → ⊥
  nowhere s h ([], text, some, i, among) = omega (arith, some)
  nowhere s h (b ∷ w, text, some, i, among) =
      let there : walk plain (step_of t s b) w ≡ 0 = ap (λ (u : ℕ). walk plain u w) (past_step s b h) ∙ dead_after w in
      absurd (subst (λ (l : List ℕ). Among l i) (ap (λ (u : ℕ). accepted_in t u) there ∙ dead_accepts) among)
