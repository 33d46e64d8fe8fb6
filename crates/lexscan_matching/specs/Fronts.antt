-- The longest match at the front of a text. (POSIX, lex, Actions in lex: the longest match, then the earliest rule.)
use Rattle.std.specs.Prelude.{◌≡◌, ℕ, Bool, List, [], ◌∷◌, Option, Some, None}
use Rattle.lex_semantics.specs.Rules.{Rules}
use Rattle.lex_semantics.specs.Candidates as Scan
use Rattle.lex_semantics.specs.Candidates.{Candidates}
use Rattle.lexscan_window.specs.declared.matched.Candidate.{Candidate}
use Rattle.lexscan_matching.specs.Descends.{IsRule}

-- this match begins the list
pub record Begins (count : ℕ) (ms : List Scan.Candidate) (m : Candidate) : Type 0 where
  pub rule : ℕ
  pub rule_is : IsRule count (Some m.rule) rule
  pub others : List Scan.Candidate
  pub first : ms ≡ record { len = m.length; rule = rule; keep = m.text } ∷ others

-- It is the first of all matches there, in their order. Where there is no byte, there is none.
abbrev pub IsLongest : Rules → ℕ → Bool → List ℕ → Option Candidate → Type 0
IsLongest R condition line_start y None = y ≡ []
IsLongest R condition line_start y (Some m) =
    (ms : List Scan.Candidate) × Candidates R condition line_start y ms × Begins R.count ms m
