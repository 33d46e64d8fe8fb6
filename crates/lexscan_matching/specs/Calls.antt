-- What each step of a match does, over the two ends and what is kept of the source, before and after.
use Rattle.std.specs.Prelude.{◌≡◌, ℕ, ◌+◌, ◌<◌, ◌≤◌, Bool, true, List, length, Option, Some, Result, OnOk, OnErr, IfOk, IfSome, IsErrOf, ⊤}
use Rattle.lex_io.specs.declared.source.Source as Source
use Rattle.lex_io.specs.declared.sink.Sink as Sink
use Rattle.lex_semantics.specs.Candidates.{Candidate}
use Rattle.lex_semantics.specs.Machine.{Machine}
use Rattle.lex_semantics.specs.Text.{Among}
use Rattle.lex_semantics.specs.Trail.{falling}
use Rattle.lexscan_window.specs.declared.act.ActionState.{ActionState}
use Rattle.lexscan_window.specs.declared.act.Finish.{Finish}
use Rattle.lexscan_window.specs.declared.act.ActionFlow.{ActionFlow}
use Rattle.lexscan_window.specs.declared.error.RunError.{RunError}
use Rattle.lexscan_window.specs.declared.error.RunError.TheVariants.{TooManyReads}
use Rattle.lexscan_window.specs.declared.intake.Intake.{Intake}
use Rattle.lexscan_window.specs.declared.intake.Outlet.{Outlet}
use Rattle.lexscan_window.specs.declared.matched.MatchedRule.{MatchedRule}
use Rattle.lexscan_window.specs.declared.state.Reading.{Reading}
use Rattle.lexscan_window.specs.declared.state.TextPlace.{TextPlace}
use Rattle.lexscan_window.specs.Intakes.{source_of, source_name, can_read, sink_of, sink_name, can_write}
use Rattle.lexscan_window.specs.Reads.{Took}
use Rattle.lexscan_window.specs.Ends.{SourceLeft, SinkLeft, NothingPut}
use Rattle.lexscan_matching.specs.declared.pick.LookAhead.{LookAhead}
use Rattle.lexscan_matching.specs.declared.pick.Pick.{Pick}
use Rattle.lexscan_matching.specs.Descends.{conditions_of, finished_of, Tried, CutOff, CutAll, Performed, Takes, TakesUnlessAgain}
use Rattle.lexscan_matching.specs.Looks.{LookedOrAtEnd, Wants, Unmet, LimitFirst}
use Rattle.lexscan_matching.specs.Picks.{IsFirst, HasStatements, LookedSome, HasLastStates, path_of}

module _ {S K : Type 0} {of_source : Source.Ghosts S} {of_sink : Sink.Ghosts K} where
  -- A match took the bytes that it asks for, and tells the last two states of those after them, or that there is no
  -- byte.
  pub record LookedLast (M : Machine) (states : ℕ) (i i' : Intake S of_source) (o o' : Outlet K of_sink) (p : TextPlace)
      (old new : Reading) (result : Result (Option LookAhead) RunError) : Type 0 where
    pub same : source_name i' ≡ source_name i
    pub same_sink : sink_name o' ≡ sink_name o
    pub put : NothingPut of_sink.wrote of_sink.failures (sink_of o) (sink_of o') (can_write o') result
    pub took : Took of_source.gave (source_of i) (source_of i') old new
    pub looked : IfOk result (λ ahead. LookedSome M p old new ahead)
    pub tells : IfOk result (λ ahead. IfSome ahead (HasLastStates M states p new.window.bytes))
    pub unmet : OnErr result (Wants M p new)
    pub source : SourceLeft of_source.ends of_source.failures (source_of i) (source_of i') (can_read i') old new result
    pub too_many : IsErrOf result TooManyReads → new.taken ≡ new.max_reads
    pub limit : LimitFirst M ⊥ p old new result

  -- The same, with the state after each byte.
  pub record LookedAlong (M : Machine) (states : ℕ) (i i' : Intake S of_source) (o o' : Outlet K of_sink)
      (p : TextPlace) (old new : Reading) (path : List ℕ) (result : Result Bool RunError) : Type 0 where
    pub same : source_name i' ≡ source_name i
    pub same_sink : sink_name o' ≡ sink_name o
    pub put : NothingPut of_sink.wrote of_sink.failures (sink_of o) (sink_of o') (can_write o') result
    pub took : Took of_source.gave (source_of i) (source_of i') old new
    pub looked : IfOk result (λ some. LookedOrAtEnd M p old new path some)
    pub unmet : OnErr result (Unmet M p old new)
    pub source : SourceLeft of_source.ends of_source.failures (source_of i) (source_of i') (can_read i') old new result
    pub inside : OnOk result (p.at + length path ≤ length new.window.bytes)
    pub some : IfOk result (λ some. some ≡ true → 1 ≤ length path)
    pub known : (state : ℕ) → Among path state → state < states
    pub too_many : IsErrOf result TooManyReads → (new.taken ≡ new.max_reads) × Wants M p new
    pub limit : LimitFirst M ⊤ p old new result

module _ {K : Type 0} {of_sink : Sink.Ghosts K} where
  -- The matches of one length were tried, up to the first that is not rejected.
  pub record RulesTried (M : Machine) (o o' : Outlet K of_sink) (w : List ℕ) (at : ℕ) (all : List Candidate)
      (old new : ActionState) (rule : Option MatchedRule) (result : Result ActionFlow RunError) : Type 0 where
    pub same : sink_name o' ≡ sink_name o
    pub sink : SinkLeft of_sink.failures (sink_of o) (sink_of o') (can_write o') result
    pub inside : new.end ≤ length w
    pub tried : IfOk result
        (λ step. Tried M of_sink.wrote (sink_of o) (sink_of o') w at all (conditions_of old) new step)
    pub takes : IfOk result (TakesUnlessAgain M w at all (conditions_of old) rule)
    pub cut_off : OnErr result (CutOff M of_sink.wrote (sink_of o) (sink_of o') w at all (conditions_of old))

  -- One of all the matches at a place was carried out, or cut short.
  pub record MatchesTried (M : Machine) (o o' : Outlet K of_sink) (w : List ℕ) (at : ℕ) (all : List Candidate)
      (old new : ActionState) (rule : Option MatchedRule) (result : Result (Option Finish) RunError) : Type 0 where
    pub same : sink_name o' ≡ sink_name o
    pub sink : SinkLeft of_sink.failures (sink_of o) (sink_of o') (can_write o') result
    pub inside : new.end ≤ length w
    pub performed : IfOk result
        (λ ended. Performed M of_sink.wrote (sink_of o) (sink_of o') w at all (conditions_of old) new
        (finished_of ended))
    pub takes : OnOk result (Takes M w at all (conditions_of old) rule)
    pub cut_off : OnErr result (CutAll M of_sink.wrote (sink_of o) (sink_of o') w at all (conditions_of old))

  -- The longest match was carried out, or cut short.
  pub record PickCarried (M : Machine) (o o' : Outlet K of_sink) (w : List ℕ) (at : ℕ) (all : List Candidate)
      (old new : ActionState) (result : Result (Option Finish) RunError) : Type 0 where
    pub same : sink_name o' ≡ sink_name o
    pub sink : SinkLeft of_sink.failures (sink_of o) (sink_of o') (can_write o') result
    pub inside : new.end ≤ length w
    pub performed : IfOk result
        (λ ended. Performed M of_sink.wrote (sink_of o) (sink_of o') w at all (conditions_of old) new
        (finished_of ended))
    pub cut_off : OnErr result (CutAll M of_sink.wrote (sink_of o) (sink_of o') w at all (conditions_of old))

-- The longest match of the first bytes from a place on, as far as their last two states tell it.
pub record PickedNear (M : Machine) (p : TextPlace) (w : List ℕ) (reach : ℕ) (result : Option Pick) : Type 0 where
  pub first : IfSome result (λ pick. IsFirst (falling M 0 (path_of M p w reach)) (Some pick))
  pub one : reach ≡ 1 → IsFirst (falling M 0 (path_of M p w reach)) result
  pub known : IfSome result (λ pick. pick.rule < M.count)
  pub statements : IfSome result (HasStatements M)
  pub short : IfSome result (λ pick. pick.keep ≤ reach)
