-- Turns and runs of a scan over a whole input. (POSIX, Actions in lex; flex, How the Input Is Matched
-- and End-of-File Rules.)
use Rattle.std.specs.Prelude.{◌≡◌, ℕ, zero, suc, ◌+◌, ◌-◌, ◌<◌, Bool, List, [], ◌++◌, length, take, drop, ◌&&◌, ◌⊎◌, Option, Some, None, is_none, if◌then◌else◌}
use Rattle.lex_semantics.specs.Text.{at_line_start}
use Rattle.lex_semantics.specs.Rules.{Rules}
use Rattle.lex_semantics.specs.Candidates.{Candidate, Candidates}
use Rattle.lex_semantics.specs.Acting.{Ending, Status, Acting, perform}

-- where the current text starts, how far the input is matched, the condition, and the stack of conditions from its top
-- down
pub record Place : Type 0 where
  pub start : ℕ
  pub at : ℕ
  pub condition : ℕ
  pub stack : List ℕ

-- what was written, the place, and how the scan has ended, if it has
pub record State : Type 0 where
  pub written : List ℕ
  pub place : Place
  pub ended : Option Ending

abbrev pub first_state : State
first_state = record { written = []; place = record { start = 0; at = 0; condition = 0; stack = [] }; ended = None }

-- The text starts where the last one ended, or where that started after a yymore that no end follows.
abbrev pub next_place : Place → Acting → Place
next_place p o =
    let end = p.start + length o.text in
    let start = if is_none o.ended && o.more then p.start else end in
    record { start = start; at = end; condition = o.condition; stack = o.stack }

-- a match at a place, with its actions
pub record MatchTurn (R : Rules) (x : List ℕ) (p : Place) (s : State) : Type 0 where
  pub before_end : p.at < length x
  pub matches : List Candidate
  pub all : Candidates R p.condition (at_line_start x p.at) (drop p.at x) matches
  pub outcome : Acting
  pub performed : perform R (take (p.at - p.start) (drop p.start x)) (drop p.at x) matches [] p.condition p.stack ≡ Some
      outcome
  pub leaves : s ≡ record { written = outcome.written; place = next_place p outcome; ended = outcome.ended }

-- the end action of the condition
pub record EndTurn (R : Rules) (x : List ℕ) (p : Place) (s : State) : Type 0 where
  pub at_end : p.at ≡ length x
  pub leaves : s ≡ (let e = R.ending p.condition in
      record { written = e.print; place = record p { start = p.at }; ended = Some (Status e.status) })

-- One more turn: what it writes, where it leads, and whether it ends the scan. After the end it changes nothing.
abbrev pub NextFrom : Rules → List ℕ → State → Option Ending → State → Type 0
NextFrom R x s (Some e) s' = s' ≡ s
NextFrom R x s None s' =
    (t : State) × (MatchTurn R x s.place t ⊎ EndTurn R x s.place t)
    × (s' ≡ record t { written = s.written ++ t.written })

-- how the scan stands after n turns
abbrev pub Turns : Rules → List ℕ → ℕ → State → Type 0
Turns R x zero s = s ≡ first_state
Turns R x (suc n) s = (before : State) × Turns R x n before × NextFrom R x before before.ended s

-- After some turns the scan has ended so, and this was written.
abbrev pub Run : Rules → List ℕ → (written : List ℕ) → Ending → Type 0
Run R x w e = (n : ℕ) × (p : Place) × Turns R x n (record { written = w; place = p; ended = Some e })

-- Names that laws and proofs have for a turn from a place, for where the next text starts, and for where a scan begins.
abbrev pub Turn : Rules → List ℕ → Place → State → Type 0
Turn R x p s = MatchTurn R x p s ⊎ EndTurn R x p s

abbrev pub next_start : Option Ending → Bool → (start end : ℕ) → ℕ
next_start ended more start end = if is_none ended && more then start else end

abbrev pub first_place : Place
first_place = first_state.place
