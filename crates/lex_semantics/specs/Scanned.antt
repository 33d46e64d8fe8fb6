-- What is known of a scanner that sees one byte at a time. (This project's.)
use Rattle.std.specs.Prelude.{◌≡◌, ℕ, zero, suc, ◌+◌, ◌≤◌, ◌<◌, Bool, List, [], ◌++◌, length, take, drop, Some}
use Rattle.lex_semantics.specs.Text.{part, at_line_start}
use Rattle.lex_semantics.specs.Rules.{Rules}
use Rattle.lex_semantics.specs.Candidates.{Candidate, Candidates}
use Rattle.lex_semantics.specs.Acting.{Acting}
use Rattle.lex_semantics.specs.ActionResults.{perform_results}
use Rattle.lex_semantics.specs.Run.{Place, State, NextFrom, first_state, next_place}
use Rattle.lex_semantics.specs.Demand.{AsksAt, AsksFrom, OfEach, answers}

-- after n turns over x the scan stands so, and they ask for just so many answers of the source
abbrev pub AfterTurns : Rules → List ℕ → ℕ → State → (asked : ℕ) → Type 0
AfterTurns R x zero s asked = (s ≡ first_state) × (asked ≡ 0)
AfterTurns R x (suc n) s asked =
    (b : State) × (before : ℕ) × AfterTurns R x n b before × NextFrom R x b b.ended s
    × AsksFrom R x b.place b.ended before asked

-- The source has given these bytes, and answered its end or not. Whatever input that is the beginning of, n turns
-- over it have written these bytes and led to this place, and they ask for just what the source has answered.
abbrev pub Scanned : Rules → (given : List ℕ) → (at_end : Bool) → (n : ℕ) → State → Type 0
Scanned R given at_end n s = OfEach given at_end (λ x. AfterTurns R x n s (answers given at_end))

-- the scan after a turn that wrote and led so
abbrev pub then_turn : State → State → State
then_turn s t = record { written = s.written ++ t.written; place = t.place; ended = t.ended }

-- What a match has seen: the first r bytes from its place, all of them asked for, among those that the source gave.
pub record Seen (R : Rules) (given : List ℕ) (p : Place) (r : ℕ) : Type 0 where
  pub inside : p.at + r ≤ length given
  pub some : 1 ≤ r
  pub asked : (i : ℕ) → i < r → AsksAt R given p i
  pub matches : List Candidate
  pub all : Candidates R p.condition (at_line_start given p.at) (take r (drop p.at given)) matches
  pub outcome : Acting
  pub performed :
      perform_results R (part given p.start p.at) (take r (drop p.at given)) matches [] p.condition p.stack ≡ Some
      outcome

abbrev pub seen_turn : (p : Place) → Acting → State
seen_turn p o = record { written = o.written; place = next_place p o; ended = o.ended }

-- the place is in order, and not past f
pub record Covered (p : Place) (f : ℕ) : Type 0 where
  pub ordered : p.start ≤ p.at
  pub covered : p.at ≤ f
