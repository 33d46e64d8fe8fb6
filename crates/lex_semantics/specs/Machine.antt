-- A machine of states, the rules that it tells, and when it is one for a specification. (flex, How the Input Is
-- Matched, says what a scanner does; that a machine does it is this project's.)
use Rattle.std.specs.Prelude.{◌≡◌, ℕ, ◌+◌, ◌≤◌, Bool, true, List, length, fold}
use Rattle.lex_semantics.specs.Text.{Among}
use Rattle.lex_semantics.specs.Spec.{Cut, Whole, Head, Trail, Statement, EndAction}
use Rattle.lex_semantics.specs.Rules.{Rules}

pub record Machine : Type 0 where
  pub conditions : ℕ
  pub count : ℕ
  -- the state in which a match starts: the condition, and whether it is at the start of a line
  pub start : ℕ → Bool → ℕ
  pub next : ℕ → ℕ → ℕ
  -- the rules accepted in a state
  pub accepts : ℕ → List ℕ
  pub goes_on : ℕ → Bool
  pub cut : ℕ → Cut
  pub statements : ℕ → List Statement
  pub ending : ℕ → EndAction

-- the state after a word
abbrev pub state_after : Machine → ℕ → Bool → List ℕ → ℕ
state_after M c line_start w = fold M.next (M.start c line_start) w

-- of a match of n bytes the cut keeps the first k
abbrev pub Keeps : Cut → ℕ → ℕ → Type 0
Keeps Whole n k = k ≡ n
Keeps (Head m) n k = (k ≡ m) × (1 ≤ m) × (m ≤ n)
Keeps (Trail t) n k = (k + t ≡ n) × (1 ≤ k)

-- rule i is accepted after the word, which is not empty, and its cut keeps k bytes
pub record MachineFits (M : Machine) (c : ℕ) (line_start : Bool) (w : List ℕ) (i k : ℕ) : Type 0 where
  pub not_empty : 1 ≤ length w
  pub accepted : Among (M.accepts (state_after M c line_start w)) i
  pub keeps : Keeps (M.cut i) (length w) k

-- the rules that a machine tells
abbrev pub rules_of_machine : Machine → Rules
rules_of_machine M = record {
  conditions = M.conditions;
  count = M.count;
  full = MachineFits M;
  live = λ c line_start w. M.goes_on (state_after M c line_start w) ≡ true;
  statements = M.statements;
  ending = M.ending;
}

-- A name that the code and proofs have for the state after a word from a state.
abbrev pub walk : Machine → ℕ → List ℕ → ℕ
walk M s w = fold M.next s w
