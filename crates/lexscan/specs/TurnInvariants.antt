-- What holds of a scanner between turns, and of a run that was completed or stopped.
use Rattle.std.specs.Prelude.{◌≡◌, ◌≢◌, ℕ, suc, ◌+◌, ◌≤◌, Bool, true, false, List, [], ◌++◌, length, drop, Some, None, Result, Ok, Err}
use Rattle.lex_semantics.specs.Text.{IsText, BeginsWith, at_line_start}
use Rattle.lex_semantics.specs.Rules.{Rules}
use Rattle.lex_semantics.specs.Acting.{Ending, StackFault}
use Rattle.lex_semantics.specs.Run as Scan
use Rattle.lex_semantics.specs.Run.{Run}
use Rattle.lex_semantics.specs.Demand.{OfEach, answers}
use Rattle.lex_semantics.specs.Scanned.{AfterTurns, Scanned}
use Rattle.lex_semantics.specs.Machine.{Machine, rules_of_machine}
use Rattle.lexscan_window.specs.declared.state.State.{State}
use Rattle.lexscan.specs.declared.turn.Turn.{Turn}
use Rattle.lexscan_window.specs.declared.error.RunError.{RunError}
use Rattle.lexscan_window.specs.declared.error.RunError.TheVariants.{TooManyReads, Stack, Write}
use Rattle.lexscan_matching.specs.Descends.{ending_of}
use Rattle.lexscan_window.specs.Ends.{IsEarly}
use Rattle.lexscan.specs.TurnSteps.{TellsEnd}
use Rattle.lexscan.specs.Matches.{match_in, text_of, TellsMatch}

-- the state of the scan, where the text starts there
abbrev pub state_of : List ℕ → ℕ → State → Scan.State
state_of out start s = record {
  written = out;
  place = record { start = start; at = start + s.place.at; condition = s.place.condition; stack = s.acting.stack };
  ended = ending_of s.ended;
}

-- The invariant between turns, after n of them, none refused: over every input that is consistent with the bytes given
-- they have written these bytes and led to this place, and they ask for just what the source has answered. The bytes
-- held are those from the text's start on.
pub record TurnInvariant (M : Machine) (n : ℕ) (given out : List ℕ) (s : State) : Type 0 where
  pub works : s.failed ≡ false
  pub start : ℕ
  pub scanned : Scanned (rules_of_machine M) given s.reading.at_end n (state_of out start s)
  pub text : IsText given
  pub covered : start + s.place.at ≤ length given
  pub held : s.reading.window.bytes ≡ drop start given
  pub line : s.place.line_start ≡ at_line_start given (start + s.place.at)
  pub taken : s.reading.taken ≡ length given

-- n turns over x ask for this many answers, or more
abbrev pub AskAtLeast : Rules → List ℕ → (n : ℕ) → ℕ → Type 0
AskAtLeast R x n count = (s : Scan.State) (asked : ℕ) → AfterTurns R x n s asked → count ≤ asked

-- The turn after n was refused, when these bytes were given, and the end or not. Those before it have not ended the
-- scan, and ask for the first `had` answers. What was written begins with what they wrote, and is a front of what the
-- run writes. With this turn they ask for all that was answered, and for more where no more reads were allowed. Where
-- it was refused before its action, what was written is what the turns before wrote.
pub record RefusedTurn (R : Rules) (given : List ℕ) (at_end : Bool) (n had : ℕ) (out : List ℕ) (e : RunError)
    : Type 0 where
  pub text : IsText given
  pub before : Scan.State
  pub going : before.ended ≡ None
  pub after : OfEach given at_end (λ x. AfterTurns R x n before had)
  pub few : had ≤ answers given at_end
  pub kept : BeginsWith out before.written
  pub whole : e ≢ Write → e ≢ Stack → before.written ≡ out
  pub front : OfEach given at_end (λ x. (w : List ℕ) (d : Ending) → Run R x w d → BeginsWith w out)
  pub within : OfEach given at_end (λ x. AskAtLeast R x (suc n) (answers given at_end))
  pub more : e ≡ TooManyReads → AskAtLeast R given (suc n) (suc (answers given at_end))

-- The run was completed: the bytes given are a text, and the turns over every consistent input write this and end so.
-- They ask for just what the source has answered.
pub record RunCompleted (R : Rules) (given out : List ℕ) (at_end : Bool) (ending : Ending) : Type 0 where
  pub text : IsText given
  pub turns : ℕ
  pub place : Scan.Place
  pub scanned : OfEach given at_end (λ x. AfterTurns R x turns
      (record { written = out; place = place; ended = Some ending }) (answers given at_end))

-- A scanner after a refused turn, before which these bytes were given, and the end or not. The bytes held are those
-- from the text's start on, as that turn found it. The stack was at fault where the run ends so in this turn, with what
-- was written.
pub record AfterRefusal (M : Machine) (n : ℕ) (given got out : List ℕ) (s : State) (e : RunError) : Type 0 where
  pub failed : s.failed ≡ true
  pub end_before : Bool
  pub refused_turn : RefusedTurn (rules_of_machine M) (given ++ got) s.reading.at_end n (answers given end_before) out
      e
  pub held : s.reading.window.bytes ≡ drop refused_turn.before.place.start (given ++ got)
  pub taken : s.reading.taken ≡ length (given ++ got)
  pub fault : e ≡ Stack → RunCompleted (rules_of_machine M) (given ++ got) out s.reading.at_end StackFault
  pub at_once : (is : e ≡ Stack) → (fault is).turns ≡ suc n

-- Once the source has answered its end, it gives nothing more.
abbrev pub NoneAfterEnd : State → State → List ℕ → Type 0
NoneAfterEnd old new got = old.reading.at_end ≡ true → (got ≡ []) × (new.reading.at_end ≡ true)

-- What a turn before the end tells of its match, where the invariant holds before it.
abbrev pub TurnTells : Machine → State → State → List ℕ → Type 0
TurnTells M old new got = old.ended ≡ None → (n : ℕ) (given out : List ℕ) → (h : TurnInvariant M n given out old) →
    TellsMatch (rules_of_machine M) (given ++ got) new.reading.at_end (state_of out h.start old).place (match_in new)
    (text_of (match_in new) new)

-- A turn preserves the invariant: where it holds after n turns, it holds after n + 1, with the bytes of the turn
-- appended; and the turn tells its match. A turn that is refused before its action has written nothing.
abbrev pub TurnPreserves : Machine → State → State → List ℕ → List ℕ → Result Turn RunError → Type 0
TurnPreserves M old new got wrote (Ok turn) =
    TellsEnd turn new.ended
    × ((n : ℕ) (given out : List ℕ) → TurnInvariant M n given out old
    → TurnInvariant M (suc n) (given ++ got) (out ++ wrote) new) × TurnTells M old new got
TurnPreserves M old new got wrote (Err e) =
    (IsEarly e → wrote ≡ [])
    × ((n : ℕ) (given out : List ℕ) → TurnInvariant M n given out old → AfterRefusal M n given got (out ++ wrote) new e)

-- The source gave some bytes in a turn, and the sink was given some.
abbrev pub MakesTurn : {S K : Type 0} → Machine → (S → List ℕ → S → Type 0) → (K → List ℕ → K → Type 0) → S → S → K → K
    → State → State → Result Turn RunError → Type 0
MakesTurn M gave wrote s s' t t' old new result =
    (got : List ℕ) × (put : List ℕ) × gave s got s' × wrote t put t' × NoneAfterEnd old new got
    × TurnPreserves M old new got put result
