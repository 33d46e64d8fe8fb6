-- Rows and slots by columns, and how a table goes by what it has of a packing.
use Rattle.std.proofs.Common.{◌≡◌, ℕ, suc, ◌+◌, ◌<◌, List, [], ◌∷◌, length, map, refl, sym, ap, ◌∙◌, arith}
use Rattle.std.specs.Prelude.{cond, ◌&&◌, ◌==◌, nat_lt, slice_index, slice_index_or}
use Rattle.std.proofs.Math.ListN.{get_or-map}
use Rattle.std.proofs.lemmas.Bool.{cond-true, and_from, lt-ltb}
use Rattle.lextab_packed.specs.Table.{Table, Row, Slot}
use Rattle.lextab_packed.specs.Steps.{row_in, target, step_of}
use Rattle.lextab_packed.proofs.Finding.{no_row, no_slot, slot_in}
use Rattle.lextab_packed.specs.Views.{slots_of}
use Rattle.lextab.specs.Assembled.{rows_with}
use Rattle.lextab.specs.Columns.{packed_step}
use Rattle.lextab.specs.Columns.{packing_in}

pub rows_len : (ds bs : List ℕ) (ls : List (List ℕ)) → length bs ≡ length ds → length ls ≡ length ds → length (rows_with ds bs ls) ≡ length ds
rows_len [] bs ls h k = refl
rows_len (d ∷ ds) [] ls h k = absurd (omega (arith, h))
rows_len (d ∷ ds) (b ∷ bs) [] h k = absurd (omega (arith, k))
rows_len (d ∷ ds) (b ∷ bs) (l ∷ ls) h k = ap suc (rows_len ds bs ls (omega (arith, h)) (omega (arith, k)))

pub defaults_are : (ds bs : List ℕ) (ls : List (List ℕ)) → length bs ≡ length ds → length ls ≡ length ds → map (λ (r : Row). r.default_target) (rows_with ds bs ls) ≡ ds
defaults_are [] bs ls h k = refl
defaults_are (d ∷ ds) [] ls h k = absurd (omega (arith, h))
defaults_are (d ∷ ds) (b ∷ bs) [] h k = absurd (omega (arith, k))
defaults_are (d ∷ ds) (b ∷ bs) (l ∷ ls) h k = ap (λ (xs : List ℕ). d ∷ xs) (defaults_are ds bs ls (omega (arith, h)) (omega (arith, k)))

pub bases_are : (ds bs : List ℕ) (ls : List (List ℕ)) → length bs ≡ length ds → length ls ≡ length ds → map (λ (r : Row). r.base) (rows_with ds bs ls) ≡ bs
bases_are [] [] ls h k = refl
bases_are [] (b ∷ bs) ls h k = absurd (omega (arith, h))
bases_are (d ∷ ds) [] ls h k = absurd (omega (arith, h))
bases_are (d ∷ ds) (b ∷ bs) [] h k = absurd (omega (arith, k))
bases_are (d ∷ ds) (b ∷ bs) (l ∷ ls) h k = ap (λ (xs : List ℕ). b ∷ xs) (bases_are ds bs ls (omega (arith, h)) (omega (arith, k)))

pub lists_are : (ds bs : List ℕ) (ls : List (List ℕ)) → length bs ≡ length ds → length ls ≡ length ds → map (λ (r : Row). r.rules) (rows_with ds bs ls) ≡ ls
lists_are [] bs [] h k = refl
lists_are [] bs (l ∷ ls) h k = absurd (omega (arith, k))
lists_are (d ∷ ds) [] ls h k = absurd (omega (arith, h))
lists_are (d ∷ ds) (b ∷ bs) [] h k = absurd (omega (arith, k))
lists_are (d ∷ ds) (b ∷ bs) (l ∷ ls) h k = ap (λ (xs : List (List ℕ)). l ∷ xs) (lists_are ds bs ls (omega (arith, h)) (omega (arith, k)))

pub slots_len : (cs ns : List ℕ) → length ns ≡ length cs → length (slots_of cs ns) ≡ length cs
slots_len [] ns h = refl
slots_len (c ∷ cs) [] h = absurd (omega (arith, h))
slots_len (c ∷ cs) (n ∷ ns) h = ap suc (slots_len cs ns (omega (arith, h)))

pub checks_are : (cs ns : List ℕ) → length ns ≡ length cs → map (λ (s : Slot). s.check) (slots_of cs ns) ≡ cs
checks_are [] ns h = refl
checks_are (c ∷ cs) [] h = absurd (omega (arith, h))
checks_are (c ∷ cs) (n ∷ ns) h = ap (λ (xs : List ℕ). c ∷ xs) (checks_are cs ns (omega (arith, h)))

pub nexts_are : (cs ns : List ℕ) → length ns ≡ length cs → map (λ (s : Slot). s.next) (slots_of cs ns) ≡ ns
nexts_are [] [] h = refl
nexts_are [] (n ∷ ns) h = absurd (omega (arith, h))
nexts_are (c ∷ cs) [] h = absurd (omega (arith, h))
nexts_are (c ∷ cs) (n ∷ ns) h = ap (λ (xs : List ℕ). n ∷ xs) (nexts_are cs ns (omega (arith, h)))

-- what a row has, by its column
pub default_at : (rows : List Row) (s : ℕ) → slice_index (map (λ (r : Row). r.default_target) rows) s ≡ (slice_index_or rows s no_row).default_target
default_at rows s = get_or-map (λ (r : Row). r.default_target) rows s no_row

pub base_at : (rows : List Row) (s : ℕ) → slice_index (map (λ (r : Row). r.base) rows) s ≡ (slice_index_or rows s no_row).base
base_at rows s = get_or-map (λ (r : Row). r.base) rows s no_row

pub rules_at : (rows : List Row) (s : ℕ) → slice_index_or (map (λ (r : Row). r.rules) rows) s [] ≡ (slice_index_or rows s no_row).rules
rules_at rows s = get_or-map (λ (r : Row). r.rules) rows s no_row

pub check_at : (slots : List Slot) (i : ℕ) → slice_index (map (λ (s : Slot). s.check) slots) i ≡ (slice_index_or slots i no_slot).check
check_at slots i = get_or-map (λ (s : Slot). s.check) slots i no_slot

pub next_at : (slots : List Slot) (i : ℕ) → slice_index (map (λ (s : Slot). s.next) slots) i ≡ (slice_index_or slots i no_slot).next
next_at slots i = get_or-map (λ (s : Slot). s.next) slots i no_slot

-- a table steps as its packing does
pub steps_as_packed : (t : Table) (s b : ℕ) → s < length t.rows → b < 256 → step_of t s b ≡ packed_step (packing_in t) s b
steps_as_packed t s b h k =
    let i = (row_in t s).base + slice_index t.class_of b in
    cond-true (nat_lt s (length t.rows) && nat_lt b 256) (target (row_in t s) (slot_in t s b) s) 0 (and_from (nat_lt s (length t.rows)) (nat_lt b 256) (lt-ltb s (length t.rows) h) (lt-ltb b 256 k))
    ∙ ap (λ (c : ℕ). cond (c == s) (slot_in t s b).next (row_in t s).default_target) (sym (check_at t.slots i))
    ∙ ap (λ (x : ℕ). cond (slice_index (map (λ (y : Slot). y.check) t.slots) i == s) x (row_in t s).default_target) (sym (next_at t.slots i))
    ∙ ap (λ (d : ℕ). cond (slice_index (map (λ (y : Slot). y.check) t.slots) i == s) (slice_index (map (λ (y : Slot). y.next) t.slots) i) d) (sym (default_at t.rows s))
    ∙ ap (λ (n : ℕ). cond (slice_index (map (λ (y : Slot). y.check) t.slots) (n + slice_index t.class_of b) == s) (slice_index (map (λ (y : Slot). y.next) t.slots) (n + slice_index t.class_of b)) (slice_index (map (λ (r : Row). r.default_target) t.rows) s)) (sym (base_at t.rows s))
