-- Which matches a scan gives up for the next ones, and how often it does so with those of each rule. (POSIX, lex,
-- Actions in lex, and flex, Actions: REJECT goes on to the next best match. The counts are this project's.)
use Rattle.std.specs.Prelude.{◌≡◌, ℕ, ◌==◌, Bool, cond, List, [], ◌∷◌, drop, map, count_by, Option, Some, None, ⊤}
use Rattle.std.specs.List.{range_with_len}
use Rattle.lex_semantics.specs.Candidates.{Candidate, Candidates}
use Rattle.lex_semantics.specs.Demand.{Consistent}
use Rattle.lex_semantics.specs.Rules.{Rules, statements_of}
use Rattle.lex_semantics.specs.Spec.{has_reject}
use Rattle.lex_semantics.specs.Text.{at_line_start}
use Rattle.lexlook_counts.specs.Costs.{TurnCost}
use Rattle.lexlook_counts.specs.Counts.{capped}

-- Of matches in the order in which they are tried, those that are given up, by their rules: the first ones, up to one
-- whose action has no REJECT. Nothing stands behind a REJECT, and nothing that ends the scan before it.
abbrev pub given_up : Rules → List Candidate → List ℕ
given_up R [] = []
given_up R (m ∷ ms) = cond (has_reject (statements_of R m.rule)) (m.rule ∷ given_up R ms) []

-- In a turn that begins here in this condition, matches of these rules are given up.
pub record GivesUp (R : Rules) (x : List ℕ) (at condition : ℕ) (rules : List ℕ) : Type 0 where
  pub matches : List Candidate
  pub all : Candidates R condition (at_line_start x at) (drop at x) matches
  pub rules_are : rules ≡ given_up R matches

-- The same of turns of an input: the first begins here, and each later one where the text of the one before ended.
abbrev pub AreGivenUp : Rules → List ℕ → ℕ → List TurnCost → List (List ℕ) → Type 0
AreGivenUp R x at [] [] = ⊤
AreGivenUp R x at (c ∷ cs) (rules ∷ others) =
    GivesUp R x at c.token.condition rules × AreGivenUp R x c.token.end cs others
AreGivenUp R x at costs others = ⊥

-- Over every input that goes on so, the first turns give up these.
abbrev pub GivenUpSo : Rules → List ℕ → Bool → List TurnCost → List (List ℕ) → Type 0
GivenUpSo R given at_end costs rules = (x : List ℕ) → Consistent given at_end x → AreGivenUp R x 0 costs rules

-- how often a rule is among those that were given up, and the same of each of the first n rules
abbrev pub given_count : List ℕ → ℕ → ℕ
given_count rules i = capped (count_by (λ r. r == i) rules)

abbrev pub given_counts : ℕ → List ℕ → List ℕ
given_counts n rules = map (given_count rules) (range_with_len 0 n)

-- what is told of it: nothing, where no rule of the file has REJECT
abbrev pub given_where : Bool → ℕ → Option ℕ
given_where rejecting n = cond rejecting (Some n) None
