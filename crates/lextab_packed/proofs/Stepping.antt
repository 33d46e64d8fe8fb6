-- Steps over the columns of a table.
use Rattle.std.proofs.Common.{◌≡◌, ℕ, zero, suc, ◌+◌, ◌<◌, ◌≤◌, cond, List, [], ◌∷◌, length, map, get_or, refl, sym, ap, subst, ◌∙◌, arith}
use Rattle.std.specs.Prelude.{◌==◌, slice_index, slice_index_or}
use Rattle.std.proofs.lemmas.Bool.{cond-true, cond-false, eq-eqb, ne_eqb}
use Rattle.std.proofs.lemmas.List.{length-map}
use Rattle.lextab_packed.specs.Table as T
use Rattle.lextab_packed.specs.Checks.{IsTable}
use Rattle.lextab_packed.specs.Steps.{row_in, slot_at, target, step_of}
use Rattle.lextab_packed.proofs.Finding.{no_row, no_slot}
use Rattle.lextab_packed.specs.Views.{row_of, slots_of, table_of}
use Rattle.lextab_packed.specs.declared.parts.Row.{Row}
use Rattle.lextab_packed.specs.declared.parts.TableParts.{TableParts}
use Rattle.lextab_packed.proofs.Places.{row_is, slot_is, class_below, step_is}

pub slots_low : (cs ns : List ℕ) (i : ℕ) → i < length (slots_of cs ns) → (i < length cs) × (i < length ns)
slots_low [] ns i h = absurd (omega (arith, h))
slots_low (c ∷ cs) [] i h = absurd (omega (arith, h))
slots_low (c ∷ cs) (n ∷ ns) zero h = (omega arith, omega arith)
slots_low (c ∷ cs) (n ∷ ns) (suc i) h = let k = slots_low cs ns i (omega (arith, h)) in (omega (arith, k.0), omega (arith, k.1))

pub slots_at : (cs ns : List ℕ) (i : ℕ) → i < length (slots_of cs ns) → slice_index_or (slots_of cs ns) i no_slot ≡ record { check = slice_index cs i; next = slice_index ns i }
slots_at [] ns i h = absurd (omega (arith, h))
slots_at (c ∷ cs) [] i h = absurd (omega (arith, h))
slots_at (c ∷ cs) (n ∷ ns) zero h = refl
slots_at (c ∷ cs) (n ∷ ns) (suc i) h = slots_at cs ns i (omega (arith, h))

pub row_at : (rows : List Row) (s : ℕ) (row : Row) → s < length rows → row ≡ get_or rows s row → slice_index_or (map row_of rows) s no_row ≡ row_of row
row_at [] s row h e = absurd (omega (arith, h))
row_at (r ∷ rows) zero row h e = ap row_of (sym e)
row_at (r ∷ rows) (suc s) row h e = row_at rows s row (omega (arith, h)) e

-- the target of the bytes of a class
abbrev pub class_target : T.Table → ℕ → ℕ → ℕ
class_target t s k = target (row_in t s) (slot_at t ((row_in t s).base + k)) s

module _ (p : TableParts) (ok : IsTable (table_of p)) (s : ℕ) (low : s < length p.rows.items) (row : Row) (is : row ≡ get_or p.rows.items s row) where
  low_row : s < length (map row_of p.rows.items)
  low_row = let n = length-map p.rows.items row_of in omega (arith, low, n)

  pub row_there : row_in (table_of p) s ≡ row_of row
  row_there = row_at p.rows.items s row low is

  pub default_known : row.default_target < length p.rows.items
  default_known =
      let d = subst (λ (r : T.Row). r.default_target < length (map row_of p.rows.items)) row_there (row_is (table_of p) ok s low_row).default_target in
      let n = length-map p.rows.items row_of in omega (arith, d, n)

  module _ (k : ℕ) (known : k < p.classes) where
    place_low : row.base + k < length (slots_of p.checks.items p.nexts.items)
    place_low = let r = subst (λ (r : T.Row). r.base + p.classes ≤ length (slots_of p.checks.items p.nexts.items)) row_there (row_is (table_of p) ok s low_row).base in omega (arith, r, known)

    pub class_check_low : row.base + k < length p.checks.items
    class_check_low = (slots_low p.checks.items p.nexts.items (row.base + k) place_low).0

    pub class_next_low : row.base + k < length p.nexts.items
    class_next_low = (slots_low p.checks.items p.nexts.items (row.base + k) place_low).1

    pub class_next_known : slice_index p.nexts.items (row.base + k) < length p.rows.items
    class_next_known =
        let d = subst (λ (l : T.Slot). l.next < length (map row_of p.rows.items)) (slots_at p.checks.items p.nexts.items (row.base + k) place_low) (slot_is (table_of p) ok (row.base + k) place_low).next in
        let n = length-map p.rows.items row_of in omega (arith, d, n)

    goes : class_target (table_of p) s k ≡ cond (slice_index p.checks.items (row.base + k) == s) (slice_index p.nexts.items (row.base + k)) row.default_target
    goes =
        ap (λ (r : T.Row). target r (slice_index_or (slots_of p.checks.items p.nexts.items) (r.base + k) no_slot) s) row_there
        ∙ ap (λ (l : T.Slot). target (row_of row) l s) (slots_at p.checks.items p.nexts.items (row.base + k) place_low)

    -- the slot has the state's target
    pub class_by_slot : slice_index p.checks.items (row.base + k) ≡ s → slice_index p.nexts.items (row.base + k) ≡ class_target (table_of p) s k
    class_by_slot e = sym (goes ∙ cond-true (slice_index p.checks.items (row.base + k) == s) (slice_index p.nexts.items (row.base + k)) row.default_target (eq-eqb (slice_index p.checks.items (row.base + k)) s e))

    -- the slot has another state's
    pub class_by_default : (slice_index p.checks.items (row.base + k) ≡ s → ⊥) → row.default_target ≡ class_target (table_of p) s k
    class_by_default n = sym (goes ∙ cond-false (slice_index p.checks.items (row.base + k) == s) (slice_index p.nexts.items (row.base + k)) row.default_target (ne_eqb (slice_index p.checks.items (row.base + k)) s n))

  module _ (b : ℕ) (byte : b < 256) where
    abbrev class : ℕ
    class = slice_index p.class_of.items b

    known_class : class < p.classes
    known_class = class_below (table_of p) ok b byte

    -- a step goes by the byte's class
    pub step_by_class : class_target (table_of p) s class ≡ step_of (table_of p) s b
    step_by_class = sym (step_is (table_of p) ok s b low_row byte)

    pub classes_len : b < length p.class_of.items
    classes_len = let n = ok.bytes in omega (arith, n, byte)

    pub check_low : row.base + class < length p.checks.items
    check_low = class_check_low class known_class

    pub next_low : row.base + class < length p.nexts.items
    next_low = class_next_low class known_class

    pub by_slot : slice_index p.checks.items (row.base + class) ≡ s → slice_index p.nexts.items (row.base + class) ≡ step_of (table_of p) s b
    by_slot e = class_by_slot class known_class e ∙ step_by_class

    pub by_default : (slice_index p.checks.items (row.base + class) ≡ s → ⊥) → row.default_target ≡ step_of (table_of p) s b
    by_default n = class_by_default class known_class n ∙ step_by_class
