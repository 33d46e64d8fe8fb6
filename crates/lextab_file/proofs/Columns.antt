-- The slots of two columns, and the bases of rows by their place.
use Rattle.std.proofs.Common.{◌≡◌, ℕ, zero, suc, ◌<◌, List, [], ◌∷◌, ◌++◌, length, get_or, map, min, refl, ap, arith}
use Rattle.lextab_packed.specs.Table as T
use Rattle.lextab_packed.specs.Checks.{bases_of}
use Rattle.lextab_packed.specs.Views.{row_of, slots_of}
use Rattle.lextab_packed.specs.declared.parts.Row.{Row}
use Rattle.lextab_file.specs.Reading.{slot_from}

pub base_at : (rows : List Row) (k : ℕ) (d : Row) → k < length rows → get_or (bases_of (map row_of rows)) k 0 ≡ (get_or rows k d).base
base_at [] k d h = absurd (omega arith)
base_at (r ∷ rows) zero d h = refl
base_at (r ∷ rows) (suc k) d h = base_at rows k d (omega arith)

pub one_slot_more : (checks nexts : List ℕ) (c n : ℕ) → length checks ≡ length nexts → slots_of (checks ++ c ∷ []) (nexts ++ n ∷ []) ≡ slots_of checks nexts ++ slot_from (c, n) ∷ []
one_slot_more [] [] c n e = refl
one_slot_more [] (m ∷ nexts) c n e = absurd (omega (arith, e))
one_slot_more (b ∷ checks) [] c n e = absurd (omega (arith, e))
one_slot_more (b ∷ checks) (m ∷ nexts) c n e = ap (λ (ss : List T.Slot). slot_from (b, m) ∷ ss) (one_slot_more checks nexts c n (omega (arith, e)))

pub slots_length : (checks nexts : List ℕ) → length (slots_of checks nexts) ≡ min (length checks) (length nexts)
slots_length [] nexts = omega arith
slots_length (c ∷ checks) [] = omega arith
slots_length (c ∷ checks) (n ∷ nexts) = omega (arith, slots_length checks nexts)

pub slot_is : (checks nexts : List ℕ) (i : ℕ) (d : T.Slot) → i < length checks → i < length nexts → get_or (slots_of checks nexts) i d ≡ slot_from (get_or checks i 0, get_or nexts i 0)
slot_is [] nexts i d h k = absurd (omega (arith, h))
slot_is (c ∷ checks) [] i d h k = absurd (omega (arith, k))
slot_is (c ∷ checks) (n ∷ nexts) zero d h k = refl
slot_is (c ∷ checks) (n ∷ nexts) (suc i) d h k = slot_is checks nexts i d (omega (arith, h)) (omega (arith, k))
