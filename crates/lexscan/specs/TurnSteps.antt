-- What a turn does to the plain state: one step by a match or by an end action, or one that is refused.
use Rattle.std.specs.Prelude.{◌≡◌, ℕ, ◌+◌, ◌≤◌, Bool, true, false, List, [], length, drop, ◌⊎◌, Option, Some, None, Result, Ok, Err, OnOk, OnErr, IfOk, IfErr, IsErrOf}
use Rattle.lex_semantics.specs.Text.{BeginsWith}
use Rattle.lex_semantics.specs.Machine.{Machine}
use Rattle.lexscan_window.specs.declared.state.Reading.{Reading}
use Rattle.lexscan_window.specs.declared.state.TextPlace.{TextPlace}
use Rattle.lexscan_window.specs.declared.state.State.{State}
use Rattle.lexscan_window.specs.declared.act.ActionState.{ActionState}
use Rattle.lexscan_window.specs.declared.act.Finish.{Finish}
use Rattle.lexscan.specs.declared.turn.Turn.{Turn}
use Rattle.lexscan_window.specs.declared.error.RunError.{RunError}
use Rattle.lexscan_window.specs.Reads.{Took, write_fault_count}
use Rattle.lexscan_window.specs.Ends.{IsEarly}
use Rattle.lexscan_window.specs.Places.{AtNextPlace}
use Rattle.lexscan_matching.specs.Looks.{Looked, LookedAtEnd, Unmet}
use Rattle.lexscan_window.specs.declared.error.RunError.TheVariants.{Write, Stack}
use Rattle.lexscan_matching.specs.Descends.{Conditions, conditions_at, matches_of, ending_of, Performed, CutAll, Faulted, Takes}

abbrev pub is_over : Option ℕ → Bool
is_over None = false
is_over (Some s) = true

-- the turn says whether the scan has ended
abbrev pub TellsEnd : Turn → Option ℕ → Type 0
TellsEnd Turn.Went ended = ended ≡ None
TellsEnd (Turn.Ended status) ended = ended ≡ Some status

-- what stays where a turn is refused
pub record Untouched (old new : State) : Type 0 where
  pub reading : new.reading ≡ old.reading
  pub place : new.place ≡ old.place

-- what stays of the source's side
pub record SameReads (old : Reading) (new : State) : Type 0 where
  pub taken : new.reading.taken ≡ old.taken
  pub at_end : new.reading.at_end ≡ old.at_end

-- The action of a match was carried out, and the scan left its place.
pub record Acted {K : Type 0} (M : Machine) (wrote : K → List ℕ → K → Type 0) (s t : K) (old : Reading) (p : TextPlace)
    (c : Conditions) (path : List ℕ) (new : State) (turn : Turn) : Type 0 where
  pub acting : ActionState
  pub ended : Option ℕ
  pub performed : Performed M wrote s t old.window.bytes p.at (matches_of M old.window.bytes p.at path) c acting
      (ending_of ended)
  pub inside : acting.end ≤ length old.window.bytes
  pub left : AtNextPlace old.window.bytes acting (is_over ended) new
  pub says : TellsEnd turn ended
  pub same : SameReads old new
  pub is_ended : (e : ℕ) → ended ≡ Some e → new.ended ≡ Some e
  pub takes : Takes M old.window.bytes p.at (matches_of M old.window.bytes p.at path) c new.matched

-- An action has ended the scan with a status, and the scan left its place.
pub record EndedBy (old new : State) (finish : Finish) (turn : Turn) : Type 0 where
  pub status : ℕ
  pub is : finish ≡ Finish.Status status
  pub left : AtNextPlace old.reading.window.bytes old.acting true new
  pub same : SameReads old.reading new
  pub says : turn ≡ Turn.Ended status
  pub ended : new.ended ≡ Some status
  pub matched : new.matched ≡ old.matched

-- An action ends the scan, or was at fault: the sink was flushed; what is refused changes nothing.
pub record EndsScan {K : Type 0} (wrote : K → List ℕ → K → Type 0) (fails : K → ℕ) (t t' : K) (live : Bool)
    (old new : State) (finish : Finish) (result : Result Turn RunError) : Type 0 where
  pub sink : wrote t [] t'
  pub write_faults : fails t' ≡ fails t + write_fault_count result
  pub may_write : OnOk result (live ≡ true)
  pub refusals : IfErr result (λ e. (e ≡ Write) ⊎ (e ≡ Stack))
  pub ended : IfOk result (λ turn. EndedBy old new finish turn)
  pub fault : IsErrOf result Stack → finish ≡ Finish.StackFault
  pub unchanged : OnErr result (new ≡ old)
  pub failed : new.failed ≡ old.failed
  pub max_reads : new.reading.max_reads ≡ old.reading.max_reads

-- An action went on: the scan left its place, and the sink is as it was.
pub record WentOn {K : Type 0} (t t' : K) (live : Bool) (old new : State) (result : Result Turn RunError) : Type 0 where
  pub sink : t' ≡ t
  pub may_write : live ≡ true
  pub says : result ≡ Ok Turn.Went
  pub left : AtNextPlace old.reading.window.bytes old.acting false new
  pub same : SameReads old.reading new
  pub max_reads : new.reading.max_reads ≡ old.reading.max_reads
  pub ended : new.ended ≡ old.ended
  pub failed : new.failed ≡ old.failed
  pub matched : new.matched ≡ old.matched

-- How a turn ends after the actions of its match, which ended the scan, were at fault, or neither.
abbrev pub EndsTurn : {K : Type 0} → (K → List ℕ → K → Type 0) → (K → ℕ) → K → K → Bool → State → State → Option Finish
    → Result Turn RunError → Type 0
EndsTurn wrote fails t t' live old new None result = WentOn t t' live old new result
EndsTurn wrote fails t t' live old new (Some finish) result = EndsScan wrote fails t t' live old new finish result

-- What a match leaves, where these are the states after its bytes: its action was carried out, or was cut short.
pub record MatchLeft {K : Type 0} (M : Machine) (wrote : K → List ℕ → K → Type 0) (fails : K → ℕ) (t t' : K)
    (live : Bool) (old new : State) (path : List ℕ) (result : Result Turn RunError) : Type 0 where
  pub acted : IfOk result (λ turn. Acted M wrote t t' old.reading old.place (conditions_at old) path new turn)
  pub going : result ≡ Ok Turn.Went → new.ended ≡ old.ended
  pub cut_off : OnErr result
      (CutAll M wrote t t' old.reading.window.bytes old.place.at
      (matches_of M old.reading.window.bytes old.place.at path) (conditions_at old))
  pub fault : IsErrOf result Stack
      → Faulted M wrote t t' old.reading.window.bytes old.place.at
      (matches_of M old.reading.window.bytes old.place.at path) (conditions_at old)
  pub unchanged : OnErr result (Untouched old new)
  pub refusals : IfErr result (λ e. (e ≡ Write) ⊎ (e ≡ Stack))
  pub write_faults : fails t' ≡ fails t + write_fault_count result
  pub may_write : OnOk result (live ≡ true)
  pub failed : new.failed ≡ old.failed
  pub max_reads : new.reading.max_reads ≡ old.reading.max_reads

-- The end action was carried out.
pub record EndLeft (M : Machine) (old : Reading) (p : TextPlace) (c : Conditions) (new : State)
    (turn : Turn) : Type 0 where
  pub held : new.reading.window.bytes ≡ drop p.at old.window.bytes
  pub at : new.place.at ≡ 0
  pub line : new.place.line_start ≡ p.line_start
  pub condition : new.place.condition ≡ p.condition
  pub stack : new.acting.stack ≡ c.stack
  pub same : SameReads old new
  pub ended : new.ended ≡ Some (M.ending p.condition).status
  pub says : TellsEnd turn new.ended
  pub matched : new.matched ≡ None

-- One step by a match: it was seen, and its action carried out.
pub record MatchStep {S K : Type 0} (M : Machine) (gave : S → List ℕ → S → Type 0) (wrote : K → List ℕ → K → Type 0)
    (s s' : S) (t t' : K) (old new : State) (turn : Turn) : Type 0 where
  pub mid : Reading
  pub took : Took gave s s' old.reading mid
  pub path : List ℕ
  pub looked : Looked M old.place old.reading mid path
  pub acted : Acted M wrote t t' mid old.place (conditions_at old) path new turn

-- One step by an end action: the source answered its end at the place of the next match.
pub record EndStep {S K : Type 0} (M : Machine) (gave : S → List ℕ → S → Type 0) (wrote : K → List ℕ → K → Type 0)
    (s s' : S) (t t' : K) (old new : State) (turn : Turn) : Type 0 where
  pub mid : Reading
  pub took : Took gave s s' old.reading mid
  pub looked : LookedAtEnd old.place old.reading mid
  pub sink : wrote t (M.ending old.place.condition).print t'
  pub left : EndLeft M mid old.place (conditions_at old) new turn

-- Why a turn was refused: a byte was wanted, or the action was cut short, or the end action was.
abbrev pub RefusalCause : {K : Type 0} → Machine → (K → List ℕ → K → Type 0) → K → K → State → State → Type 0
RefusalCause M wrote t t' old new =
    (Unmet M old.place old.reading new.reading × wrote t [] t')
    ⊎ ((path : List ℕ) × Looked M old.place old.reading new.reading path
    × CutAll M wrote t t' new.reading.window.bytes old.place.at
    (matches_of M new.reading.window.bytes old.place.at path) (conditions_at old))
    ⊎ (LookedAtEnd old.place old.reading new.reading × (out : List ℕ)
    × BeginsWith (M.ending old.place.condition).print out × wrote t out t')

-- The action of a match was carried out up to a fault of the stack.
abbrev pub StackFaulted : {K : Type 0} → Machine → (K → List ℕ → K → Type 0) → K → K → State → State → Type 0
StackFaulted M wrote t t' old new =
    (path : List ℕ) × Looked M old.place old.reading new.reading path
    × Faulted M wrote t t' new.reading.window.bytes old.place.at
    (matches_of M new.reading.window.bytes old.place.at path) (conditions_at old)

-- One step that was refused: what was taken is held. Before its action nothing was written.
pub record RefusedStep {S K : Type 0} (M : Machine) (gave : S → List ℕ → S → Type 0) (wrote : K → List ℕ → K → Type 0)
    (s s' : S) (t t' : K) (old new : State) (e : RunError) : Type 0 where
  pub took : Took gave s s' old.reading new.reading
  pub place : new.place ≡ old.place
  pub why : RefusalCause M wrote t t' old new
  pub early : IsEarly e → Unmet M old.place old.reading new.reading × wrote t [] t'
  pub fault : e ≡ Stack → StackFaulted M wrote t t' old new

abbrev pub TurnStep : {S K : Type 0} → Machine → (S → List ℕ → S → Type 0) → (K → List ℕ → K → Type 0) → S → S → K → K
    → State → State → Result Turn RunError → Type 0
TurnStep M gave wrote s s' t t' old new (Ok turn) =
    MatchStep M gave wrote s s' t t' old new turn ⊎ EndStep M gave wrote s s' t t' old new turn
TurnStep M gave wrote s s' t t' old new (Err e) = RefusedStep M gave wrote s s' t t' old new e
