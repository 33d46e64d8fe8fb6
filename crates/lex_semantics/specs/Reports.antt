-- What the reports say: rules that cannot be matched, and states that back up. (flex, Diagnostics; flex, Performance
-- Considerations; flex, Scanner Options: -b.)
use Rattle.std.specs.Prelude.{◌≡◌, ℕ, ◌≤◌, ◌<◌, Bool, false, List, length}
use Rattle.lex_semantics.specs.Text.{IsText}
use Rattle.lex_semantics.specs.Spec.{Spec, rejects}
use Rattle.lex_semantics.specs.Rules.{Live}
use Rattle.lex_semantics.specs.Fits.{Fits}

-- some word fits the rule in this condition
abbrev pub HasFit : Spec → ℕ → Bool → List ℕ → ℕ → Type 0
HasFit S c line_start w i = (k : ℕ) × Fits S c line_start w i k

-- The rule cannot be matched: each word that fits it fits an earlier rule too, which is taken. Where some rule has
-- REJECT, no word fits it.
abbrev pub Useless : Spec → ℕ → Type 0
Useless S i =
    (i < length S.rules) × ((c : ℕ) (line_start : Bool) (w : List ℕ) → c < length S.conditions → IsText w
    → HasFit S c line_start w i → (rejects S ≡ false) × (j : ℕ) × (j < i) × HasFit S c line_start w j)

-- after this word the scanner may have to back up: a longer word may fit, and this one fits no rule
pub record BackWord (S : Spec) (c : ℕ) (line_start : Bool) (w : List ℕ) : Type 0 where
  pub condition : c < length S.conditions
  pub text : IsText w
  pub two_or_more : 2 ≤ length w
  pub goes_on : Live S c line_start w
  pub fits_none : (i : ℕ) → HasFit S c line_start w i → ⊥
