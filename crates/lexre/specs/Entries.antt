-- Maps by rows of bytes, without where these lie in memory.
use Rattle.std.specs.Prelude.{ℕ, List, map, Vec}
use Rattle.std.specs.Cmp.Lexicographic.{slice_cmp}
use Rattle.std.specs.FinMap.{FinMap, from_entries}
use Rattle.std.specs.Ordering.{nat_cmp}

-- each key as a list, with what f shows of its value
abbrev pub entries_shown : {Y V W : Type 0} → (V → W) → List (Vec ℕ Y × V) → List (List ℕ × W)
entries_shown f es = map (λ e. (e.0.items, f e.1)) es

-- the keys in the order of their bytes
abbrev pub map_of : {Y V W : Type 0} → (V → W) → List (Vec ℕ Y × V) → FinMap (slice_cmp nat_cmp) W
map_of f es = from_entries (entries_shown f es)
