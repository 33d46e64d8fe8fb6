-- The inputs of a suite: what lex's rules make of each, and what their turns go through. (POSIX, lex, Rules in lex and
-- Actions in lex: which matches these are and what is written; the rest is this project's.)
use Rattle.std.specs.Prelude.{◌≡◌, ◌≢◌, ℕ, ◌+◌, ◌*◌, ◌<◌, ◌⊎◌, ◌↔◌, true, List}
use Rattle.lex_semantics.specs.Acting.{Status}
use Rattle.lex_semantics.specs.Rules.{Rules}
use Rattle.lex_semantics.specs.Run.{Run}
use Rattle.lex_semantics.specs.Text.{Among, IsText, flag}
use Rattle.lexauto_dfa.specs.Parts.{next, states}
use Rattle.lexauto_dfa.specs.declared.dfa.Parts.{Parts}
use Rattle.lexscan.specs.Tokens.{Tokenised}
use Rattle.lexlook_suites.specs.Marking.{IsSized}
use Rattle.lexlook_suites.specs.Texts.{LeadsOver}
use Rattle.lexlook_suites.specs.Turns.{TurnComesTo, TurnGoesBy}
use Rattle.lexlook_suites.specs.declared.inputs.Input.{Input}
use Rattle.lexlook_suites.specs.declared.marks.Marks.{Marks}

-- By the rules the whole input has these tokens, this is written, and the scan ends with this status.
pub record IsInputOf (R : Rules) (i : Input) : Type 0 where
  pub is_text : IsText i.text.items
  pub scanned : Tokenised R i.text.items i.tokens.items (Status i.status)
  pub ran : Run R i.text.items i.output.items (Status i.status)

abbrev pub AreInputs : Rules → List Input → Type 0
AreInputs R is = (i : Input) → Among is i → IsInputOf R i

-- a turn of one of the inputs comes to the state
abbrev pub InputComesTo : Parts → List Input → ℕ → Type 0
InputComesTo p is q = (i : Input) × Among is i × TurnComesTo p i.text.items 0 i.tokens.items q

-- a turn of one of the inputs goes on from the state by the byte
abbrev pub InputGoesBy : Parts → List Input → ℕ → ℕ → Type 0
InputGoesBy p is q b = (i : Input) × Among is i × TurnGoesBy p i.text.items 0 i.tokens.items q b

-- exactly what the turns of the inputs go through is marked
pub record AreMarksOf (p : Parts) (is : List Input) (m : Marks) : Type 0 where
  pub size : IsSized (states p) m
  pub visited : (q : ℕ) → q < states p → (flag m.states.items q ≡ true) ↔ InputComesTo p is q
  pub taken : (q b : ℕ) → q < states p → b < 256
      → (flag m.bytes.items (256 * q + b) ≡ true) ↔ InputGoesBy p is q b

-- a turn of one of the inputs goes over the edge from a state to a state
abbrev pub GoesOverEdge : Parts → List Input → ℕ → ℕ → Type 0
GoesOverEdge p is s t = (b : ℕ) × (b < 256) × (next p s b ≡ t) × InputGoesBy p is s b

-- Of the edges that a text leads over from the start of the first condition at the start of a line: one of the inputs
-- goes over each, but where the scan of such a text stops.
abbrev pub GoesOverAll : Parts → (List ℕ → Type 0) → List Input → Type 0
GoesOverAll p Stops is = (s t : ℕ) (w : List ℕ) → t ≢ 0 → LeadsOver p s t 0 true w
    → GoesOverEdge p is s t ⊎ ((v : List ℕ) × LeadsOver p s t 0 true v × Stops v)
