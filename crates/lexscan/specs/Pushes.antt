-- Scans by pieces.
use Rattle.std.specs.Prelude.{◌≡◌, ℕ, suc, ◌+◌, ◌<◌, ◌≤◌, Bool, true, false, List, [], ◌++◌, length, take, drop, Option, Some, None, Result, Ok, Err, ⊤}
use Rattle.std.specs.Coded.{×_prop, le_prop}
use Rattle.std.proofs.Props.{props}
use Rattle.lex_semantics.specs.Text.{IsText, BeginsWith}
use Rattle.lex_semantics.specs.Rules.{Rules}
use Rattle.lex_semantics.specs.Acting.{Ending, Status, StackFault}
use Rattle.lex_semantics.specs.Run.{Run}
use Rattle.lex_semantics.specs.Machine.{Machine, walk, rules_of_machine}
use Rattle.lexscan_window.specs.declared.state.State.{State}
use Rattle.lexscan_window.specs.declared.state.TextPlace.{TextPlace}
use Rattle.lexscan.specs.declared.turn.Turn.{Turn}
use Rattle.lexscan_window.specs.declared.error.RunError.{RunError}
use Rattle.lexscan_window.specs.declared.error.RunError.TheVariants.{OutOfMemory, Stack, TooManyReads}
use Rattle.lexscan.specs.TurnInvariants.{AskAtLeast, TurnInvariant, AfterRefusal, TurnPreserves, NoneAfterEnd}
use Rattle.lexscan.specs.Ties.{HandedOn}

-- Over these bytes the turn after n asks for the end: they do not decide it.
abbrev pub AsksForMore : Rules → ℕ → List ℕ → Type 0
AsksForMore R n x = AskAtLeast R x (suc n) (suc (length x))

-- The next turn asks for more than these bytes, which are all that may be read; and the invariant holds as before it.
abbrev pub StaysBefore : Machine → State → State → List ℕ → Type 0
StaysBefore M old new got =
    (n : ℕ) (given out : List ℕ) → TurnInvariant M n given out old → TurnInvariant M n given out new
    × AsksForMore (rules_of_machine M) n (given ++ got) × (length (given ++ got) ≡ old.reading.max_reads)

abbrev pub AttemptsTo : Machine → State → State → List ℕ → List ℕ → Result (Option Turn) RunError → Type 0
AttemptsTo M old new got put (Ok (Some turn)) = TurnPreserves M old new got put (Ok turn)
AttemptsTo M old new got put (Ok None) =
    (put ≡ []) × (new.ended ≡ None) × (new.reading.at_end ≡ false) × (new.reading.taken ≡ old.reading.taken)
    × StaysBefore M old new got
AttemptsTo M old new got put (Err e) = TurnPreserves M old new got put (Err e)

-- The source gave some bytes in a turn, or before it was given up, and the sink was given some.
abbrev pub Attempts : {S K : Type 0} → Machine → (S → List ℕ → S → Type 0) → (K → List ℕ → K → Type 0) → S → S → K → K
    → State → State → Result (Option Turn) RunError → Type 0
Attempts M gave wrote s s' t t' old new result =
    (got : List ℕ) × (put : List ℕ) × gave s got s' × wrote t put t' × NoneAfterEnd old new got
    × AttemptsTo M old new got put result

-- The scan went back to where a turn began: to its place and its conditions, with as many bytes held and taken as
-- there.
pub record WentBack (p : TextPlace) (conditions : List ℕ) (count before : ℕ) (old new : State) : Type 0 where
  pub held : new.reading.window.bytes ≡ take count old.reading.window.bytes
  pub taken : new.reading.taken ≡ before
  pub at_end : new.reading.at_end ≡ old.reading.at_end
  pub max_reads : new.reading.max_reads ≡ old.reading.max_reads
  pub place : new.place ≡ p
  pub stack : new.acting.stack ≡ conditions
  pub ended : new.ended ≡ None
  pub failed : new.failed ≡ false

abbrev pub HandedOnIfMade : Bool → Result (Option Turn) RunError → Type 0
HandedOnIfMade flushed (Ok (Some turn)) = HandedOn flushed (Ok turn)
HandedOnIfMade flushed (Ok None) = ⊤
HandedOnIfMade flushed (Err e) = HandedOn flushed (Err e)

-- The state is reachable: some turns led here. It is said as a denial, so that a type may keep it.
abbrev pub IsReachable : Machine → State → Type 0
IsReachable M s = ((n : ℕ) (given out : List ℕ) → TurnInvariant M n given out s → ⊥) → ⊥

-- Some turns were made over the bytes that the source gave.
abbrev pub MadeTurns : Machine → State → State → ℕ → List ℕ → List ℕ → Type 0
MadeTurns M old new turns got put =
    (n : ℕ) (given out : List ℕ) → TurnInvariant M n given out old
    → TurnInvariant M (turns + n) (given ++ got) (out ++ put) new

-- Some turns were made, and the next one asks for more than the source has.
pub record Pauses {S : Type 0} (M : Machine) (gave : S → List ℕ → S → Type 0) (mid s' : S) (old new : State)
    (got put : List ℕ) : Type 0 where
  pub turns : ℕ
  pub more : List ℕ
  pub source : gave mid more s'
  pub going : new.ended ≡ None
  pub at_end : new.reading.at_end ≡ false
  pub made : MadeTurns M old new turns got put
  pub asks : (n : ℕ) (given out : List ℕ) → TurnInvariant M n given out old
      → AsksForMore (rules_of_machine M) (turns + n) ((given ++ got) ++ more)
      × (length ((given ++ got) ++ more) ≡ old.reading.max_reads)

-- What several turns do: they end the scan, or one asks for more than the source has, or one is refused.
abbrev pub TurnsTo : {S : Type 0} → Machine → (S → List ℕ → S → Type 0) → S → S → State → State → List ℕ → List ℕ
    → Result Turn RunError → Type 0
TurnsTo M gave mid s' old new got put (Ok Turn.Went) = Pauses M gave mid s' old new got put
TurnsTo M gave mid s' old new got put (Ok (Turn.Ended status)) =
    (turns : ℕ) × (mid ≡ s') × (new.ended ≡ Some status) × MadeTurns M old new turns got put
TurnsTo M gave mid s' old new got put (Err e) =
    (turns : ℕ) × (mid ≡ s') × (had more : List ℕ) × (got ≡ had ++ more)
    × ((n : ℕ) (given out : List ℕ) → TurnInvariant M n given out old
    → AfterRefusal M (turns + n) (given ++ had) more (out ++ put) new e)

abbrev pub TurnsOver : {S K : Type 0} → Machine → (S → List ℕ → S → Type 0) → (K → List ℕ → K → Type 0) → S → S → K → K
    → State → State → Result Turn RunError → Type 0
TurnsOver {S} M gave wrote s s' t t' old new result =
    (got : List ℕ) × (put : List ℕ) × (mid : S) × gave s got mid × wrote t put t'
    × TurnsTo M gave mid s' old new got put result

-- What was fed and what was written, after some turns: they asked for the first of the bytes fed, and the others wait,
-- until the scan ends.
pub record Fed (M : Machine) (fed out : List ℕ) (s : State) (waiting : List ℕ) : Type 0 where
  pub turns : ℕ
  pub given : List ℕ
  pub left : List ℕ
  pub invariant : TurnInvariant M turns given out s
  pub reading : s.reading.at_end ≡ false
  pub all : fed ≡ given ++ left
  pub waits : s.ended ≡ None → left ≡ waiting

-- Whatever follows the bytes fed, the run writes this and ends so.
abbrev pub RunsTo : Rules → List ℕ → List ℕ → Ending → Type 0
RunsTo R fed out ending = (x : List ℕ) → IsText x → BeginsWith x fed → Run R x out ending

-- Whatever follows the bytes fed, what the run writes begins with this.
abbrev pub WritesFirst : Rules → List ℕ → List ℕ → Type 0
WritesFirst R fed out =
    (x : List ℕ) → IsText x → BeginsWith x fed → (w : List ℕ) (ending : Ending) → Run R x w ending → BeginsWith w out

-- After a feed these bytes were fed, and these were written: the next turn asks for more, or the scan has ended, or the
-- feed was refused.
abbrev pub AfterFeed : Machine → List ℕ → List ℕ → State → List ℕ → Result Turn RunError → Type 0
AfterFeed M fed out s waiting (Ok Turn.Went) =
    (h : Fed M fed out s waiting) × (s.ended ≡ None) × (IsText fed → AsksForMore (rules_of_machine M) h.turns fed)
AfterFeed M fed out s waiting (Ok (Turn.Ended status)) =
    Fed M fed out s waiting × (s.ended ≡ Some status) × RunsTo (rules_of_machine M) fed out (Status status)
AfterFeed M fed out s waiting (Err e) =
    WritesFirst (rules_of_machine M) fed out × (e ≡ Stack → RunsTo (rules_of_machine M) fed out StackFault)

-- After the end of the bytes fed: what was written is the run of them, or begins it where the call was refused.
abbrev pub AfterFinish : Rules → List ℕ → List ℕ → Result ℕ RunError → Type 0
AfterFinish R fed out (Ok status) = IsText fed → Run R fed out (Status status)
AfterFinish R fed out (Err e) =
    IsText fed → ((w : List ℕ) (ending : Ending) → Run R fed w ending → BeginsWith w out)
    × (e ≡ Stack → Run R fed out StackFault)

-- Whether the scan has failed after a call that is refused: not by too many bytes, which is told before a turn. By
-- anything else it has, so that each later call is refused.
abbrev pub HasFailedBy : RunError → Bool → Type 0
HasFailedBy TooManyReads failed = failed ≡ false
HasFailedBy other failed = failed ≡ true

-- So it is after a piece too. But where memory ran out for want of room for the piece, it has not.
abbrev pub HasFailedByPiece : Bool → RunError → Bool → Type 0
HasFailedByPiece room OutOfMemory failed = failed ≡ room
HasFailedByPiece room e failed = HasFailedBy e failed

-- There is one proof at most of a denial.
pub IsReachable-prop : (M : Machine) (s : State) → IsProp (IsReachable M s)
IsReachable-prop M s = λ x y. λ k. λ h. (let p : IsProp ⊥ = Prim.hlevel props in p) (x h) (y h) k

-- The machine goes on after each of these bytes, and is in this state after them.
abbrev pub WalkStaysLive : Machine → ℕ → List ℕ → ℕ → Type 0
WalkStaysLive M first bytes last =
    (last ≡ walk M first bytes) × ((i : ℕ) → 1 ≤ i → i ≤ length bytes → M.goes_on (walk M first (take i bytes)) ≡ true)

abbrev pub WalksOn : Machine → Option ℕ → List ℕ → ℕ → Type 0
WalksOn M None bytes last = ⊥
WalksOn M (Some first) bytes last = WalkStaysLive M first bytes last

-- The next match asks for all the bytes that are held and all that wait, and for one more: the state after them, if it
-- is told.
abbrev pub IsAsking : Machine → ℕ → State → List ℕ → Option ℕ → Type 0
IsAsking M states s waiting None = ⊤
IsAsking M states s waiting (Some last) =
    (last < states)
    × WalkStaysLive M (M.start s.place.condition s.place.line_start)
    (drop s.place.at (s.reading.window.bytes ++ waiting)) last

-- There is one proof of it at most.
pub IsAsking-prop : (M : Machine) (states : ℕ) (s : State) (waiting : List ℕ) (asking : Option ℕ)
    → IsProp (IsAsking M states s waiting asking)
IsAsking-prop M states s waiting None = Prim.hlevel props
IsAsking-prop M states s waiting (Some last) =
    ×_prop (λ x y. le_prop x y)
    (×_prop (Prim.hlevel props)
    (λ x y. λ k. λ i a b.
    (let p : IsProp
    (M.goes_on
    (walk M (M.start s.place.condition s.place.line_start)
    (take i (drop s.place.at (s.reading.window.bytes ++ waiting)))) ≡ true) = Prim.hlevel props in p) (x i a b)
    (y i a b) k))
