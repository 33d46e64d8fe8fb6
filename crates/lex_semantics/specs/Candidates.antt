-- The matches at a place, in the order in which they are taken.
-- (POSIX, Actions in lex: the longest match, then the earliest rule; REJECT goes on to the next.)
use Rattle.std.specs.Prelude.{◌≡◌, ℕ, ◌≤◌, ◌<◌, Bool, List, length, ◌⊎◌, ◌↔◌, take}
use Rattle.lex_semantics.specs.Text.{Among, Pairwise}
use Rattle.lex_semantics.specs.Rules.{Rules, Full}

-- a match of a front of the input: how long it is, its rule, and how much of it is the text
pub record Candidate : Type 0 where
  pub len : ℕ
  pub rule : ℕ
  pub keep : ℕ

-- longer, or as long and of an earlier rule
abbrev pub Before : Candidate → Candidate → Type 0
Before m n = (n.len < m.len) ⊎ ((m.len ≡ n.len) × (m.rule < n.rule))

-- all the fronts of y that fit a rule, in order
pub record Candidates (R : Rules) (c : ℕ) (line_start : Bool) (y : List ℕ) (ms : List Candidate) : Type 0 where
  pub in_order : Pairwise Before ms
  pub members : (m : Candidate) → Among ms m ↔ ((m.len ≤ length y) × Full R c line_start (take m.len y) m.rule m.keep)

-- Names that proofs have: for a front of y that fits a rule, and for the order of matches.

abbrev pub IsCandidate : Rules → ℕ → Bool → List ℕ → Candidate → Type 0
IsCandidate R c line_start y m = (m.len ≤ length y) × Full R c line_start (take m.len y) m.rule m.keep

abbrev pub InOrder : List Candidate → Type 0
InOrder ms = Pairwise Before ms
