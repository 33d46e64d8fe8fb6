-- The states that lead to another by a byte. (This project's.)
use Rattle.std.specs.Prelude.{◌≡◌, ℕ, ◌==◌, Bool, true, false, List, get_or}
use Rattle.lextab_packed.specs.declared.predecessors.Sources.{Sources}
use Rattle.lextab_packed.specs.declared.predecessors.Sources.TheVariants.{Unknown, Only, Several}

-- whether a state may be one of these
abbrev pub may_be : Sources → ℕ → Bool
may_be Unknown s = false
may_be (Only p) s = s == p
may_be Several s = true

-- a state is known as one that leads to the target
abbrev pub IsSource : List Sources → ℕ → ℕ → Type 0
IsSource sources target s = may_be (get_or sources target Unknown) s ≡ true

-- each that was known is known
abbrev pub StaySources : List Sources → List Sources → Type 0
StaySources old new = (target s : ℕ) → IsSource old target s → IsSource new target s
