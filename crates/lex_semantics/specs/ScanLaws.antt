-- The laws of a scan. Each is the contract of a function of this crate. (This project's.)
use Rattle.std.specs.Prelude.{◌≡◌, ℕ, suc, ◌+◌, ◌≤◌, ◌<◌, max, min, Bool, true, false, List, [], ◌++◌, length, ◌↔◌, Option, Some, None, slice_get}
use Rattle.lex_semantics.specs.Text.{IsText, BeginsWith}
use Rattle.lex_semantics.specs.Rules.{Rules}
use Rattle.lex_semantics.specs.Candidates.{Candidate, Candidates}
use Rattle.lex_semantics.specs.Acting.{Ending}
use Rattle.lex_semantics.specs.Run.{Place, State, Turn, EndTurn, Turns, Run, first_state}
use Rattle.lex_semantics.specs.Demand.{AsksAt, Asks}
use Rattle.lex_semantics.specs.Scanned.{AfterTurns, Scanned, Seen, seen_turn, then_turn, Covered}
use Rattle.lex_semantics.specs.Machine.{Machine, rules_of_machine}
use Rattle.lex_semantics.specs.PlainMachine.{told_of}

-- the matches at a place are listed in one way
abbrev pub OneList : Rules → Type 0
OneList R =
    (c : ℕ) (line_start : Bool) (y : List ℕ) (ms ns : List Candidate) → Candidates R c line_start y ms
    → Candidates R c line_start y ns → ms ≡ ns

-- and in some way
abbrev pub SomeList : Rules → Type 0
SomeList R = (c : ℕ) (line_start : Bool) (y : List ℕ) → (ms : List Candidate) × Candidates R c line_start y ms

-- a turn has one outcome
abbrev pub OneTurn : Rules → Type 0
OneTurn R = (x : List ℕ) (p : Place) (s t : State) → Turn R x p s → Turn R x p t → s ≡ t

-- after n turns the scan stands in one way
abbrev pub OneState : Rules → Type 0
OneState R = (x : List ℕ) (n : ℕ) (s t : State) → Turns R x n s → Turns R x n t → s ≡ t

-- and in some way
abbrev pub SomeState : Rules → Type 0
SomeState R = (x : List ℕ) (n : ℕ) → (s : State) × Turns R x n s

-- an input has one run
abbrev pub OneRun : Rules → Type 0
OneRun R = (x v w : List ℕ) (d e : Ending) → Run R x v d → Run R x w e → (v ≡ w) × (d ≡ e)

-- an input has a run
abbrev pub SomeRun : Rules → Type 0
SomeRun R = (x : List ℕ) → (w : List ℕ) × (e : Ending) × Run R x w e

-- what is asked for at a place is asked for at each place before
abbrev pub NoGap : Rules → Type 0
NoGap R = (x : List ℕ) (p : Place) (i j : ℕ) → IsText x → p.at + j ≤ length x → i ≤ j → AsksAt R x p j → AsksAt R x p i

-- a turn asks for so much in one way
abbrev pub OneReach : Rules → Type 0
OneReach R = (x : List ℕ) (p : Place) (q r : ℕ) → Asks R x p q → Asks R x p r → q ≡ r

-- and in some way
abbrev pub SomeReach : Rules → Type 0
SomeReach R =
    (x : List ℕ) (p : Place) → IsText x → p.at ≤ length x → p.condition < R.conditions → (r : ℕ) × Asks R x p r

-- after n turns a scan stands in one way, and they ask for one number of answers
abbrev pub OneDemand : Rules → Type 0
OneDemand R =
    (x : List ℕ) (n : ℕ) (s t : State) (a b : ℕ) → AfterTurns R x n s a → AfterTurns R x n t b → (s ≡ t) × (a ≡ b)

-- and there are such
abbrev pub SomeDemand : Rules → Type 0
SomeDemand R = (x : List ℕ) (n : ℕ) → IsText x → (s : State) × (asked : ℕ) × AfterTurns R x n s asked

-- The same where nothing decides which words are live: it is never so that a turn asks for no number of answers, and
-- that there is no such state.
abbrev pub NeverNoReach : Rules → Type 0
NeverNoReach R = (x : List ℕ) (p : Place) → IsText x → p.at ≤ length x → ((r : ℕ) → Asks R x p r → ⊥) → ⊥

abbrev pub NeverNoDemand : Rules → Type 0
NeverNoDemand R = (x : List ℕ) (n : ℕ) → IsText x → ((s : State) (asked : ℕ) → AfterTurns R x n s asked → ⊥) → ⊥

-- They are turns of the scan. The text starts at or before the place, and the place is in the input, and not past what
-- the turns asked for.
abbrev pub StaysCovered : Rules → Type 0
StaysCovered R =
    (x : List ℕ) (n : ℕ) (s : State) (asked : ℕ) → IsText x → AfterTurns R x n s asked
    → Turns R x n s × Covered s.place (min asked (length x))

-- Turns that ask for nothing after the bytes of `front`, and not for the end, are the same whatever follows.
abbrev pub SameWhateverFollows : Rules → Type 0
SameWhateverFollows R =
    (front a b : List ℕ) → IsText (front ++ a) → IsText (front ++ b) → (n : ℕ) (s : State) (asked : ℕ)
    → asked ≤ length front → AfterTurns R (front ++ a) n s asked → AfterTurns R (front ++ b) n s asked

-- What n turns write is a front of what the run writes.
abbrev pub BeginsTheRun : Rules → Type 0
BeginsTheRun R =
    (x : List ℕ) (n : ℕ) (s : State) (w : List ℕ) (d : Ending) → Turns R x n s → Run R x w d → BeginsWith w s.written

-- So is what they write and a front of what the next turn writes.
abbrev pub PartBeginsTheRun : Rules → Type 0
PartBeginsTheRun R =
    (x : List ℕ) (n : ℕ) (s t : State) (v w : List ℕ) (d : Ending) → Turns R x n s → s.ended ≡ None → Turn R x s.place t
    →
    BeginsWith t.written v → Run R x w d → BeginsWith w (s.written ++ v)

-- n turns and one more, of a scanner that sees one byte at a time

-- before the first turn
abbrev pub KnownAtFirst : Rules → Type 0
KnownAtFirst R = Scanned R [] false 0 first_state

-- A turn that takes `more` bytes from the source, and whose match asks for r bytes and then for no more.
abbrev pub KnownAfterMatch : Rules → Type 0
KnownAfterMatch R =
    (given more : List ℕ) (at_end : Bool) (n : ℕ) (s : State) (r : ℕ) → s.ended ≡ None → Scanned R given at_end n s →
    (at_end ≡ true → more ≡ []) → (h : Seen R (given ++ more) s.place r) → (AsksAt R (given ++ more) s.place r → ⊥) →
    length (given ++ more) ≡ max (length given) (s.place.at + r)
    → Scanned R (given ++ more) at_end (suc n) (then_turn s (seen_turn s.place h.outcome))

-- The same where the match asks for a byte after them, and the source answers its end.
abbrev pub KnownAfterMatchAtEnd : Rules → Type 0
KnownAfterMatchAtEnd R =
    (given more : List ℕ) (at_end : Bool) (n : ℕ) (s : State) (r : ℕ) → s.ended ≡ None → Scanned R given at_end n s →
    (at_end ≡ true → more ≡ []) → (h : Seen R (given ++ more) s.place r) → AsksAt R (given ++ more) s.place r
    → s.place.at + r ≡ length (given ++ more) →
    Scanned R (given ++ more) true (suc n) (then_turn s (seen_turn s.place h.outcome))

-- A turn at the end of the input, for which the source has answered its end.
abbrev pub KnownAfterEnd : Rules → Type 0
KnownAfterEnd R =
    (given : List ℕ) (at_end : Bool) (n : ℕ) (s t : State) → s.ended ≡ None → Scanned R given at_end n s
    → s.place.at ≡ length given →
    EndTurn R given s.place t → Scanned R given true (suc n) (then_turn s t)

-- A turn of a scan that has ended.
abbrev pub KnownOnceEnded : Rules → Type 0
KnownOnceEnded R =
    (given : List ℕ) (at_end : Bool) (n : ℕ) (s : State) (e : Ending) → s.ended ≡ Some e → Scanned R given at_end n s
    → Scanned R given at_end (suc n) s

-- two sets of rules with the same turns, demand and run over an input
pub record SameOver (R Q : Rules) (x : List ℕ) : Type 0 where
  pub turns : (n : ℕ) (s : State) → Turns R x n s ↔ Turns Q x n s
  pub after : (n : ℕ) (s : State) (asked : ℕ) → AfterTurns R x n s asked ↔ AfterTurns Q x n s asked
  pub run : (w : List ℕ) (d : Ending) → Run R x w d ↔ Run Q x w d

-- over each input
abbrev pub SameScan : Rules → Rules → Type 0
SameScan R Q = (x : List ℕ) → IsText x → SameOver R Q x

-- a row of what the plain program tells: after n turns they ask for so many bytes, and the text starts there
abbrev pub IsTold : Rules → List ℕ → ℕ → ℕ × ℕ → Type 0
IsTold R x n row =
    (t : State) × (asked : ℕ) × AfterTurns R x n t asked × (row.0 ≡ min asked (length x)) × (t.place.start ≡ row.1)

abbrev pub RowsAreTold : Machine → Type 0
RowsAreTold M =
    (x : List ℕ) (n i : ℕ) (row : ℕ × ℕ) → IsText x → slice_get (told_of M x n) i ≡ Some row
    → IsTold (rules_of_machine M) x (suc i) row

-- what a listing of matches makes of an input is the run
abbrev pub AnswersTheRun : Rules → (List ℕ → ℕ → Option (List ℕ × Ending)) → Type 0
AnswersTheRun R program =
    (x : List ℕ) (n : ℕ) (w : List ℕ) (d : Ending) → ◌≡◌ {A = Option (List ℕ × Ending)} (program x n) (Some (w, d))
    → Run R x w d
