-- What is told of two machines. (This project's.)
use Rattle.std.specs.Prelude.{◌≡◌, ℕ, ◌<◌, Option, Some, None, List}
use Rattle.lex_semantics.specs.Machine.{Machine}
use Rattle.lexlook_tables.specs.declared.same.tables.Comparison.{Comparison}
use Rattle.lexlook_tables.specs.declared.same.tables.Comparison.TheVariants.{Same, Conditions, Ends, Texts}
use Rattle.lexlook_tables.specs.Same.{AlwaysAgree, Differs, number_in}
use Rattle.lexlook_tables.specs.Scans.{ScanAlike, BeginTogether}

-- at the end of the input both do the same in each condition, or they do not in this one
abbrev pub HaveEnds : List ℕ → Machine → Machine → Option ℕ → Type 0
HaveEnds order M N None = (c : ℕ) → c < M.conditions → M.ending c ≡ N.ending (number_in order c)
HaveEnds order M N (Some c) = (c < M.conditions) × (M.ending c ≡ N.ending (number_in order c) → ⊥)

-- They do the same of each match, and at the end of the input; and where both begin in the same condition they scan
-- alike.
pub record DoSame (order : List ℕ) (M N : Machine) : Type 0 where
  pub conditions : M.conditions ≡ N.conditions
  pub ends : HaveEnds order M N None
  pub same : AlwaysAgree order M N
  pub scan : BeginTogether order → ScanAlike M N

abbrev pub Compares : List ℕ → Machine → Machine → Comparison → Type 0
Compares order M N Same = DoSame order M N
Compares order M N Conditions = M.conditions ≡ N.conditions → ⊥
Compares order M N (Ends c) = (M.conditions ≡ N.conditions) × HaveEnds order M N (Some c)
Compares order M N (Texts d) =
    (M.conditions ≡ N.conditions) × HaveEnds order M N None × Differs order M N d
