-- Where words stand in a text. (This project's.)
use Rattle.std.specs.Prelude.{ℕ, ◌≤◌, List, [], ◌∷◌, ⊤}
use Rattle.std.specs.Coded.{×_prop, Unit-prop, le_prop}
use Rattle.lexauto_reports.specs.declared.groups.Group.{Group}

-- each word stands within a text of this length
abbrev pub AreWithin : ℕ → List Group → Type 0
AreWithin n [] = ⊤
AreWithin n (g ∷ groups) = ((g.start ≤ g.end) × (g.end ≤ n)) × AreWithin n groups

-- There is one proof of it at most, so a type may keep it.
pub AreWithin-prop : (n : ℕ) (groups : List Group) → IsProp (AreWithin n groups)
AreWithin-prop n [] = Unit-prop
AreWithin-prop n (g ∷ groups) = ×_prop (×_prop (λ x y. le_prop x y) (λ x y. le_prop x y)) (AreWithin-prop n groups)
