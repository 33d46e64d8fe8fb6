-- What the default rule copies in each condition. (flex tells by -s that the default rule can be matched; of each
-- condition it is this project's.)
use Rattle.std.specs.Prelude.{◌≡◌, ℕ, ◌<◌, Bool, List, [], ◌∷◌, length, Option, Some, None, slice_get}
use Rattle.lexlook_specs.specs.Matches.{RuleMatches, CopiesFirst}

-- the default rule copies this byte in the condition, at the start of a line or not
abbrev pub CopiesByte : RuleMatches → ℕ → ℕ → Type 0
CopiesByte m c b = (line : Bool) × CopiesFirst m c line (b ∷ [])

-- the first byte that it copies in the condition, if it copies any
abbrev pub IsFirstCopied : RuleMatches → ℕ → Option ℕ → Type 0
IsFirstCopied m c None = (b : ℕ) → b < 256 → CopiesByte m c b → ⊥
IsFirstCopied m c (Some b) = (b < 256) × CopiesByte m c b × ((a : ℕ) → a < b → CopiesByte m c a → ⊥)

-- these are, for each condition by its number, the first bytes that it copies
pub record AreCopied (m : RuleMatches) (bytes : List (Option ℕ)) : Type 0 where
  pub each : length bytes ≡ m.conditions
  pub first : (c : ℕ) (o : Option ℕ) → slice_get bytes c ≡ Some o → IsFirstCopied m c o
