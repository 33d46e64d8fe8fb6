-- What a turn gives up is what it rejects. (POSIX, lex, Actions in lex: REJECT; the law is this project's.)
use Rattle.std.specs.Prelude.{◌≡◌, ℕ, List, map, Some}
use Rattle.lex_semantics.specs.Acting.{Acting, StackFault}
use Rattle.lex_semantics.specs.Candidates.{Candidate}
use Rattle.lex_semantics.specs.Rules.{Rules}
use Rattle.lex_semantics.specs.Run.{Place}
use Rattle.lexscan.specs.Matches.{CarriesOut}
use Rattle.lexlook_counts.specs.GivenUp.{GivesUp}

-- Where a match is carried out at a place, and the stack of conditions is not at fault in it, the turn gives up just
-- the matches that are rejected before that one.
abbrev pub GivesUpRejected : Rules → Type 0
GivesUpRejected R =
    (x : List ℕ) (p : Place) (m : Candidate) (o : Acting) (rules : List ℕ) (h : CarriesOut R x p m o)
    → (o.ended ≡ Some StackFault → ⊥) → GivesUp R x p.at p.condition rules → rules ≡ map (λ q. q.rule) h.passed
