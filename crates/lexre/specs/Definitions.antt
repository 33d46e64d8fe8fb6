-- The texts of names, as lists.
use Rattle.std.specs.Prelude.{ℕ, List, Vec}
use Rattle.std.specs.Cmp.Lexicographic.{slice_cmp}
use Rattle.std.specs.FinMap.{FinMap}
use Rattle.std.specs.Ordering.{nat_cmp}
use Rattle.lexre.specs.Entries.{map_of}

-- names to texts, the names in the order of their bytes
abbrev pub Definitions : Type 0
Definitions = FinMap (slice_cmp nat_cmp) (List ℕ)

-- each name with its text, without where they lie in memory
abbrev pub definitions_of : {Y Z : Type 0} → List (Vec ℕ Y × Vec ℕ Z) → Definitions
definitions_of es = map_of (λ t. t.items) es
