-- The states that lead to another by a byte.
use Rattle.std.proofs.Common.{◌≡◌, ℕ, zero, suc, ◌+◌, ◌<◌, Bool, true, false, cond, List, [], ◌∷◌, length, refl, sym, subst, arith}
use Rattle.std.specs.Prelude.{◌==◌, slice_index}
use Rattle.std.proofs.lemmas.Bool.{eqb-true}
use Rattle.lextab_packed.specs.Checks.{IsTable}
use Rattle.lextab_packed.specs.Predecessors.{IsSource}
use Rattle.lextab_packed.specs.Steps.{row_in, slot_at, step_of}
use Rattle.lextab_packed.specs.Table.{Table}
use Rattle.lextab_packed.specs.Views.{slots_of}
use Rattle.lextab_packed.specs.declared.predecessors.Sources.{Sources}
use Rattle.lextab_packed.proofs.Finding.{slot_in}
use Rattle.lextab_packed.proofs.Places.{place_below, step_is}

-- a place of both columns is one of the slots
pub slots_high : (cs ns : List ℕ) (i : ℕ) → i < length cs → i < length ns → i < length (slots_of cs ns)
slots_high [] ns i h k = absurd (omega (arith, h))
slots_high (c ∷ cs) [] i h k = absurd (omega (arith, k))
slots_high (c ∷ cs) (n ∷ ns) zero h k = omega arith
slots_high (c ∷ cs) (n ∷ ns) (suc i) h k = let g = slots_high cs ns i (omega (arith, h)) (omega (arith, k)) in omega (arith, g)

-- a step goes by a slot or by the default target
pub each_step : (t : Table) → IsTable t → (sources : List Sources) → ((s : ℕ) → s < length t.rows → IsSource sources (row_in t s).default_target s) → ((i : ℕ) → i < length t.slots → IsSource sources (slot_at t i).next (slot_at t i).check) →
    (s b : ℕ) → s < length t.rows → b < 256 → IsSource sources (step_of t s b) s
each_step t ok sources defaults slots s b h k = subst (λ n. IsSource sources n s) (sym (step_is t ok s b h k)) (by_check ((slot_in t s b).check == s) refl)
  where
    by_check : (c : Bool) → ((slot_in t s b).check == s) ≡ c → IsSource sources (cond c (slot_in t s b).next (row_in t s).default_target) s
    by_check false e = defaults s h
    by_check true e =
        subst (λ n. IsSource sources (slot_in t s b).next n) (eqb-true (slot_in t s b).check s e)
        (slots ((row_in t s).base + slice_index t.class_of b) (place_below t ok s b h k))
