-- The lines of the matches of a scan. (flex, Scanner Options: `-d`; POSIX, Actions in lex: the longest match, then the
-- earliest rule, REJECT goes on to the next.)
use Rattle.std.specs.Prelude.{◌≡◌, ℕ, zero, suc, List, [], ◌∷◌, ◌++◌, ◌⊎◌, drop, take, Option, Some, None, slice_get}
use Rattle.lex_semantics.specs.Acting.{Ending, Acting}
use Rattle.lex_semantics.specs.Candidates.{Candidate}
use Rattle.lex_semantics.specs.Rules.{rules_of}
use Rattle.lex_semantics.specs.Run.{Place, State, EndTurn, Turns}
use Rattle.lex_semantics.specs.Spec.{Spec, Rule}
use Rattle.lex_semantics.specs.Text.{part}
use Rattle.lexscan.specs.Matches.{CarriesOut}
use Rattle.lexlook_specs.specs.Traced.{rule_front, default_front, text_end, end_line}

-- what is written before the text of a rule, or of the default rule, which is none of the specification's
abbrev pub front_of : Option Rule → List ℕ
front_of (Some r) = rule_front r.line
front_of None = default_front

abbrev pub match_line : Option Rule → List ℕ → List ℕ
match_line r text = front_of r ++ (text ++ text_end)

-- The lines of these matches of the front of y. Their texts begin with what yymore kept.
abbrev pub match_lines : Spec → (kept y : List ℕ) → List Candidate → List ℕ
match_lines S kept y [] = []
match_lines S kept y (m ∷ ms) = match_line (slice_get S.rules m.rule) (kept ++ take m.keep y) ++ match_lines S kept y ms

-- the lines of a turn with a match: of each that REJECT gave up, and of the one that was carried out
pub record MatchLines (S : Spec) (x : List ℕ) (p : Place) (lines : List ℕ) : Type 0 where
  pub taken : Candidate
  pub outcome : Acting
  pub carries : CarriesOut (rules_of S) x p taken outcome
  pub lines_are : lines ≡ match_lines S (part x p.start p.at) (drop p.at x) (carries.passed ++ taken ∷ [])

-- the line of a turn at the end of the input
abbrev pub EndLine : Spec → List ℕ → Place → List ℕ → Type 0
EndLine S x p lines = (s : State) × EndTurn (rules_of S) x p s × (lines ≡ end_line p.condition)

abbrev pub TurnLines : Spec → List ℕ → Place → List ℕ → Type 0
TurnLines S x p lines = MatchLines S x p lines ⊎ EndLine S x p lines

-- the lines of the turns up to a state and of one more; after the end there are no more
abbrev pub LinesFrom : Spec → List ℕ → State → Option Ending → (before lines : List ℕ) → Type 0
LinesFrom S x s (Some e) before lines = lines ≡ before
LinesFrom S x s None before lines = (more : List ℕ) × TurnLines S x s.place more × (lines ≡ before ++ more)

-- the lines of the first n turns of the specification's scan
abbrev pub Lines : Spec → List ℕ → ℕ → List ℕ → Type 0
Lines S x zero lines = lines ≡ []
Lines S x (suc n) lines =
    (s : State) × (before : List ℕ) × Turns (rules_of S) x n s × Lines S x n before
    × LinesFrom S x s s.ended before lines
