-- When two specifications have the same rules, however their patterns are written. (This project's.)
use Rattle.std.specs.Prelude.{◌≡◌, ℕ, ◌<◌, Bool, List, length, ◌↔◌, Some, slice_get}
use Rattle.lex_semantics.specs.Text.{IsText}
use Rattle.lex_semantics.specs.Spec.{Spec, Rule, end_at}
use Rattle.lex_semantics.specs.Fits.{Fits}

-- As many conditions and rules, the same end actions, cuts and statements, and the same words fit each rule.
pub record SameRules (S S' : Spec) : Type 0 where
  pub conditions : length S.conditions ≡ length S'.conditions
  pub rules : length S.rules ≡ length S'.rules
  pub ending : (c : ℕ) → end_at (slice_get S.conditions c) ≡ end_at (slice_get S'.conditions c)
  pub actions : (i : ℕ) (r r' : Rule) → slice_get S.rules i ≡ Some r → slice_get S'.rules i ≡ Some r' → (r.cut ≡ r'.cut)
      × (r.statements ≡ r'.statements)
  pub fits : (c : ℕ) (line_start : Bool) (w : List ℕ) (i k : ℕ) → c < length S.conditions → IsText w
      → Fits S c line_start w i k ↔ Fits S' c line_start w i k
