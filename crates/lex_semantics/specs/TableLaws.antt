-- What a table tells of its specification, and what specifications with the same rules have in common. Each is the
-- contract of a function of this crate. (This project's.)
use Rattle.std.specs.Prelude.{◌≡◌, ℕ, ◌≤◌, ◌<◌, Bool, true, List, [], length, ◌↔◌}
use Rattle.lex_semantics.specs.Text.{IsText, Among}
use Rattle.lex_semantics.specs.Spec.{Spec, rejects}
use Rattle.lex_semantics.specs.Rules.{Live}
use Rattle.lex_semantics.specs.Reports.{Useless, BackWord}
use Rattle.lex_semantics.specs.Machine.{Machine, state_after}
use Rattle.lex_semantics.specs.TableFor.{Accepted}

-- the rule is accepted after some text
abbrev pub IsAccepted : Machine → Spec → ℕ → Type 0
IsAccepted M S i =
    (c : ℕ) × (line_start : Bool) × (w : List ℕ) × (c < length S.conditions) × IsText w
    × Among (M.accepts (state_after M c line_start w)) i

-- A rule is useless if it is accepted after no text.
abbrev pub TellsUseless : Machine → Spec → Type 0
TellsUseless M S = (i : ℕ) → i < length S.rules → Useless S i ↔ (IsAccepted M S i → ⊥)

-- A text of two bytes or more is a back word if its state goes on and accepts nothing.
abbrev pub TellsBackWords : Machine → Spec → Type 0
TellsBackWords M S =
    (c : ℕ) (line_start : Bool) (w : List ℕ) → c < length S.conditions → IsText w →
    BackWord S c line_start w
    ↔ ((2 ≤ length w) × (M.goes_on (state_after M c line_start w) ≡ true)
    × (M.accepts (state_after M c line_start w) ≡ []))

-- After each text the machine is in one of the states below n.
abbrev pub StatesBelow : Machine → ℕ → Type 0
StatesBelow M n =
    (c : ℕ) (line_start : Bool) (w : List ℕ) → c < M.conditions → IsText w → state_after M c line_start w < n

-- the same live words, the same rules accepted after each text, and REJECT in both or in neither
pub record SameAnswers (S T : Spec) : Type 0 where
  pub live : (c : ℕ) (line_start : Bool) (w : List ℕ) → c < length S.conditions → IsText w → Live S c line_start w
      ↔ Live T c line_start w
  pub accepted : (c : ℕ) (line_start : Bool) (w : List ℕ) (i : ℕ) → c < length S.conditions → IsText w →
      Accepted S c line_start w i ↔ Accepted T c line_start w i
  pub rejecting : rejects S ≡ rejects T
  pub useless : (i : ℕ) → Useless S i ↔ Useless T i
  pub back_words : (c : ℕ) (line_start : Bool) (w : List ℕ) → BackWord S c line_start w ↔ BackWord T c line_start w
