-- What the leaves of a turn do, over each part of the scan before and after.
use Rattle.std.specs.Prelude.{◌≡◌, ℕ, List, Option, Result, IfOk, OnErr}
use Rattle.lex_io.specs.Sink.{Appended}
use Rattle.lex_io.specs.declared.sink.Sink as Sink
use Rattle.lex_semantics.specs.Machine.{Machine}
use Rattle.lexscan_window.specs.declared.intake.Outlet.{Outlet}
use Rattle.lexscan_window.specs.declared.state.State.{State}
use Rattle.lexscan_window.specs.declared.act.Finish.{Finish}
use Rattle.lexscan_window.specs.declared.error.RunError.{RunError}
use Rattle.lexscan_window.specs.Ends.{SinkLeft}
use Rattle.lexscan_window.specs.Intakes.{sink_of, sink_name, can_write}
use Rattle.lexscan_matching.specs.Descends.{conditions_at}
use Rattle.lexscan.specs.declared.turn.Turn.{Turn}
use Rattle.lexscan.specs.TurnSteps.{EndLeft, EndsTurn, MatchLeft}
use Rattle.lexscan.specs.Ties.{HandedOn}

module _ {K : Type 0} {of_sink : Sink.Ghosts K} where
  -- The actions of a match ended the scan, were at fault, or neither: the turn ends so.
  pub record TurnFinished (o o' : Outlet K of_sink) (s s' : State) (finish : Option Finish)
      (result : Result Turn RunError) : Type 0 where
    pub same : sink_name o' ≡ sink_name o
    pub handed_on : HandedOn (of_sink.flushed (sink_of o')) result
    pub ends : EndsTurn of_sink.wrote of_sink.failures (sink_of o) (sink_of o') (can_write o') s s' finish result

  -- The match of these states was carried out, or refused, and the scan left its place.
  pub record MatchCarried (M : Machine) (o o' : Outlet K of_sink) (s s' : State) (path : List ℕ)
      (result : Result Turn RunError) : Type 0 where
    pub same : sink_name o' ≡ sink_name o
    pub handed_on : HandedOn (of_sink.flushed (sink_of o')) result
    pub left : MatchLeft M of_sink.wrote of_sink.failures (sink_of o) (sink_of o') (can_write o') s s' path result

  -- The end action was carried out, or refused with nothing changed.
  pub record EndCarried (M : Machine) (o o' : Outlet K of_sink) (s s' : State)
      (result : Result Turn RunError) : Type 0 where
    pub same : sink_name o' ≡ sink_name o
    pub handed_on : HandedOn (of_sink.flushed (sink_of o')) result
    pub sink : SinkLeft of_sink.failures (sink_of o) (sink_of o') (can_write o') result
    pub failed : s'.failed ≡ s.failed
    pub max_reads : s'.reading.max_reads ≡ s.reading.max_reads
    pub bytes : Appended (λ xs. of_sink.wrote (sink_of o) xs (sink_of o')) (M.ending s.place.condition).print result
    pub left : IfOk result (λ turn. EndLeft M s.reading s.place (conditions_at s) s' turn)
    pub unchanged : OnErr result (s' ≡ s)
