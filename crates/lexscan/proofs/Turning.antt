-- What a match or the end action makes of a scan, and what a turn makes of that.
use Rattle.std.proofs.Common.{◌≡◌, ◌<◌, true, Result, Ok, Err, refl, arith}
use Rattle.std.proofs.lemmas.Grind.{common_steps}
use Rattle.lex_io.specs.declared.source.Source as Source
use Rattle.lex_io.specs.declared.sink.Sink as Sink
use Rattle.lex_semantics.specs.Machine.{Machine}
use Rattle.lex_semantics.specs.Text.{AllBelow}
use Rattle.lex_semantics.specs.MachineLaws.{MachineLaws}
use Rattle.lexscan_window.specs.Intakes.{source_of, can_read, sink_of, can_write}
use Rattle.lexscan_window.specs.Memos.{AreTrue}
use Rattle.lexscan_window.specs.declared.error.RunError.{RunError}
use Rattle.lexscan.specs.declared.scan.Ends.{Ends}
use Rattle.lexscan.specs.declared.scan.Scan.{Scan}
use Rattle.lexscan.specs.declared.turn.Turn.{Turn}
use Rattle.lexscan_matching.specs.Looks.{LimitFirst}
use Rattle.lexscan.specs.TurnSteps.{TurnStep}
use Rattle.lexscan.specs.Ties.{HandedOn}
use Rattle.lexscan.specs.Turns.{StepLeft, TurnCounts}
use Rattle.lexscan.specs.Scans.{IsGoing, SameEnds, MayTurn, MatchMade, TurnMade}
use Rattle.lexscan_matching.proofs.Limiting.{known_keeper}
use Rattle.lexscan.proofs.Making.{turn_made, turn_refused}
use Rattle.lexscan.proofs.Ranging as Range
use Rattle.lexscan.proofs.Settling.{true_moved}

module _ {S K : Type 0} {of_source : Source.Ghosts S} {of_sink : Sink.Ghosts K} (M : Machine) (e e' : Ends S K of_source of_sink) (old new : Scan) where
  -- a match was made, and the marks are true after it
  pub match_made : {keeps : Type 0} (result : Result Turn RunError) → SameEnds e e' → HandedOn (of_sink.flushed (sink_of e'.outlet)) result → TurnStep M of_source.gave of_sink.wrote (source_of e.intake) (source_of e'.intake) (sink_of e.outlet) (sink_of e'.outlet) old.state new.state result →
      StepLeft M (can_read e'.intake) (can_write e'.outlet) old.state new.state result → TurnCounts of_source.ends of_source.failures of_sink.failures (source_of e.intake) (source_of e'.intake) (sink_of e.outlet) (sink_of e'.outlet) old.state.reading new.state.reading result →
      AreTrue M old.state.reading new.memo → LimitFirst M keeps old.state.place old.state.reading new.state.reading result → MatchMade M keeps e e' old new result
  match_made result same handed turn_step left counts marks limit = record {
    same = same;
    handed_on = handed;
    turn_step = turn_step;
    left = left;
    counts = counts;
    marks = true_moved M of_source.gave of_sink.wrote _ _ _ _ old.state new.state new.memo result turn_step marks;
    limit = limit;
  }

  -- a turn was made
  pub made : {keeps : Type 0} → MachineLaws M → (turn : Turn) → IsGoing old → MayTurn M e old → MatchMade M keeps e e' old new (Ok turn) → TurnMade M keeps e e' old new (Ok turn)
  made laws turn going ready h = record {
    same = h.same;
    handed_on = h.handed_on;
    goes_on = turn_made M laws of_source.gave of_sink.wrote _ _ _ _ _ _ old.state new.state turn going.working going.going h.turn_step h.left;
    counts = h.counts;
    failed = tt;
    refused = h.left.refused;
    too_many = λ is. absurd (no is);
    limit = h.limit;
    next = record {
      may_read = λ _ _ e. h.left.may_read e;
      may_write = λ _. h.left.may_write;
      kept = record { condition = below.0; inside = grind (arith, common_steps); stack = λ _. below.1; marks = λ _. h.marks };
    };
  }
    where
      below : (new.state.place.condition < M.conditions) × AllBelow M.conditions new.state.acting.stack
      below = Range.conditions_below M laws of_source.gave of_sink.wrote _ _ _ _ old.state new.state turn h.turn_step (ready.kept.condition, ready.kept.stack going.working)

      no : {e : RunError} → ◌≡◌ {A = Result Turn RunError} (Ok turn) (Err e) → ⊥
      no p = cc

  -- a turn was refused
  pub refused : {keeps : Type 0} → MachineLaws M → (error : RunError) → IsGoing old → MayTurn M e old → MatchMade M keeps e e' old new (Err error) → TurnMade M keeps e e' old (record new { state = record new.state { failed = true } }) (Err error)
  refused laws error going ready h = record {
    same = h.same;
    handed_on = h.handed_on;
    goes_on = turn_refused M laws of_source.gave of_sink.wrote _ _ _ _ _ _ old.state new.state error going.going h.turn_step h.left;
    counts = h.counts;
    failed = refl;
    refused = h.left.refused;
    too_many = grind (arith, common_steps);
    limit = h.limit;
    next = grind (arith, common_steps);
  }

  -- a turn by states that are kept where some rule has REJECT, or else by the last two
  pub for_any : {keeps keeps' : Type 0} (result : Result Turn RunError) → (keeps → keeps') → TurnMade M keeps e e' old new result → TurnMade M keeps' e e' old new result
  for_any result known h = record {
    same = h.same;
    handed_on = h.handed_on;
    goes_on = h.goes_on;
    counts = h.counts;
    failed = h.failed;
    refused = h.refused;
    too_many = h.too_many;
    limit = known_keeper M _ _ _ _ _ result known h.limit;
    next = h.next;
  }
