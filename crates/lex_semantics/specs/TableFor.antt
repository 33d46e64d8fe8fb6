-- When a machine is a table for a specification. (This project's; flex, How the Input Is Matched, says what it must
-- do.)
use Rattle.std.specs.Prelude.{◌≡◌, ℕ, ◌<◌, Bool, true, false, List, length, ◌↔◌, Some, slice_get}
use Rattle.lex_semantics.specs.Text.{IsText, Among, Pairwise}
use Rattle.lex_semantics.specs.Spec.{Spec, Rule, rejects, statements_at, end_at}
use Rattle.lex_semantics.specs.Rules.{Live}
use Rattle.lex_semantics.specs.Reports.{HasFit}
use Rattle.lex_semantics.specs.Machine.{Machine, state_after}

-- The rule is accepted after a word: it fits, and no earlier one does, or some rule has REJECT.
abbrev pub Accepted : Spec → ℕ → Bool → List ℕ → ℕ → Type 0
Accepted S c line_start w i =
    HasFit S c line_start w i × (rejects S ≡ false → (j : ℕ) → j < i → HasFit S c line_start w j → ⊥)

-- The machine accepts after each word just what the specification has there: all the rules that fit, or the
-- first of them if no rule has REJECT. It goes on where a longer word may fit, and its actions are those there.
pub record TableFor (M : Machine) (S : Spec) : Type 0 where
  pub conditions : M.conditions ≡ length S.conditions
  pub count : M.count ≡ length S.rules
  pub ascending : (c : ℕ) (line_start : Bool) (w : List ℕ) → c < length S.conditions → IsText w
      → Pairwise ◌<◌ (M.accepts (state_after M c line_start w))
  pub accepts : (c : ℕ) (line_start : Bool) (w : List ℕ) (i : ℕ) → c < length S.conditions → IsText w →
      Among (M.accepts (state_after M c line_start w)) i ↔ Accepted S c line_start w i
  pub goes_on : (c : ℕ) (line_start : Bool) (w : List ℕ) → c < length S.conditions → IsText w
      → (M.goes_on (state_after M c line_start w) ≡ true) ↔ Live S c line_start w
  pub cut : (i : ℕ) (r : Rule) → slice_get S.rules i ≡ Some r → M.cut i ≡ r.cut
  pub statements : (i : ℕ) → i < length S.rules → M.statements i ≡ statements_at (slice_get S.rules i)
  pub ending : (c : ℕ) → c < length S.conditions → M.ending c ≡ end_at (slice_get S.conditions c)
