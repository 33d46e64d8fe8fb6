-- How the matches of a turn that are given up are found. (POSIX, lex, Actions in lex: the longest match first, then the
-- earliest rule; the rest is this project's.)
use Rattle.std.specs.Prelude.{◌≡◌, ℕ, ◌≤◌, Bool, true, false, cond, List, [], ◌++◌, length, take, filter_map, Option, option_map}
use Rattle.lex_semantics.specs.Candidates.{Candidate}
use Rattle.lex_semantics.specs.Demand.{Consistent}
use Rattle.lex_semantics.specs.Machine.{Machine, rules_of_machine, walk}
use Rattle.lex_semantics.specs.PlainMachine.{match_of}
use Rattle.lex_semantics.specs.Rules.{Rules, statements_of}
use Rattle.lex_semantics.specs.Spec.{has_reject}
use Rattle.lex_semantics.specs.Trail.{trail_from}
use Rattle.lexlook_counts.specs.GivenUp.{GivesUp, given_counts, given_up}

-- the matches of these rules that are so long
abbrev pub matches_at : Machine → ℕ → List ℕ → List Candidate
matches_at M n rules = filter_map (match_of M n) rules

-- whether the match of a rule that is so long is given up, if there is one
abbrev pub gives_up_at : Machine → ℕ → ℕ → Option Bool
gives_up_at M n i = option_map (λ m. has_reject (statements_of (rules_of_machine M) m.rule)) (match_of M n i)

-- Matches of these rules were counted as given up, beside those before.
abbrev pub CountsMore : List ℕ → List ℕ → List ℕ → Type 0
CountsMore counts counts' rules =
    (n : ℕ) (before : List ℕ) → counts ≡ given_counts n before → counts' ≡ given_counts n (before ++ rules)

-- Of all these matches, whatever others follow, matches of these rules are given up, and then it goes on with the
-- matches that are left.
abbrev pub GoesOnWith : Rules → List Candidate → List Candidate → List ℕ → Type 0
GoesOnWith R all left rules = (rest : List Candidate) → given_up R (all ++ rest) ≡ rules ++ given_up R (left ++ rest)

-- Of these matches, those that are given up were counted. They are all of them, or no match that follows is given up.
pub record GivenUpAmong (R : Rules) (ms : List Candidate) (counts counts' : List ℕ) (all : Bool) : Type 0 where
  pub counted : CountsMore counts counts' (given_up R ms)
  pub follows : (rest : List Candidate) → given_up R (ms ++ rest) ≡ given_up R ms ++ cond all (given_up R rest) []

-- The states after each byte that a turn looks at from a state on. It stops where the machine goes on no more, or these
-- are all bytes.
pub record IsPath (M : Machine) (first : ℕ) (w path : List ℕ) (stopped : Bool) : Type 0 where
  pub inside : length path ≤ length w
  pub states : path ≡ trail_from M first (take (length path) w)
  pub stops : stopped ≡ true → (1 ≤ length path) × (M.goes_on (walk M first (take (length path) w)) ≡ false)
  pub all : stopped ≡ false → length path ≡ length w

-- What a turn gives up that begins here in this condition was counted.
pub record CountsTurn (M : Machine) (given : List ℕ) (at condition : ℕ) (finished : Bool) (counts counts' : List ℕ)
    : Type 0 where
  pub rules : List ℕ
  pub counted : CountsMore counts counts' rules
  pub gives_up : (x : List ℕ) → Consistent given finished x → GivesUp (rules_of_machine M) x at condition rules
