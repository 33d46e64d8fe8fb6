-- How a turn leaves the plain state.
use Rattle.std.proofs.Common.{◌≡◌, ℕ, ◌+◌, ◌≤◌, Bool, true, false, List, ◌++◌, length, ◌⊎◌, inl, inr, Option, Some, None, Result, Ok, Err, refl, sym, ◌∙◌, ap, subst, arith}
use Rattle.std.specs.Prelude.{IfOk, IfErr, OnErr}
use Rattle.lex_io.specs.Sink.{Appended}
use Rattle.lex_semantics.specs.Machine.{Machine}
use Rattle.lexscan_window.specs.declared.state.Reading.{Reading}
use Rattle.lexscan_window.specs.declared.state.State.{State}
use Rattle.lexscan_window.specs.declared.matched.MatchedRule.{MatchedRule}
use Rattle.lexscan.specs.declared.turn.Turn.{Turn}
use Rattle.lexscan_window.specs.declared.error.RunError.{RunError}
use Rattle.lexscan_window.specs.Reads.{Took, write_fault_count}
use Rattle.lexscan_matching.specs.Looks.{Looked, LookedAtEnd}
use Rattle.lexscan_window.specs.declared.error.RunError.TheVariants.{Read, TooManyReads, Write, OutOfMemory, Stack, Failed}
use Rattle.lexscan_window.specs.declared.act.ActionState.{ActionState}
use Rattle.lexscan_window.specs.declared.act.Finish.{Finish}
use Rattle.lexscan_window.specs.Acts.{finish_of}
use Rattle.lexscan_matching.specs.Descends.{conditions_at, matches_of, finished_of, CutAll, Faulted, Performed, Takes}
use Rattle.lexscan_window.specs.Ends.{IsEarly}
use Rattle.lexscan.specs.TurnSteps.{TellsEnd, EndLeft, EndsScan, EndsTurn, MatchLeft, TurnStep}
use Rattle.lexscan_window.specs.Places.{AtNextPlace}
use Rattle.lexscan_matching.proofs.Descending.{performed_flushed, performed_cut}

not_early : (e : RunError) → (e ≡ Write) ⊎ (e ≡ Stack) → IsEarly e → ⊥
not_early e (inl is) early = early.0 is
not_early e (inr is) early = early.1 is

module _ {S K : Type 0} (M : Machine) (gave : S → List ℕ → S → Type 0) (wrote : K → List ℕ → K → Type 0) (s s' : S) (t t' : K) (old : State) (mid : Reading) (new : State) (took : Took gave s s' old.reading mid) where
  took_to : new ≡ record old { reading = mid } → Took gave s s' old.reading new.reading
  took_to e = subst (λ z. Took gave s s' old.reading z) (sym (ap (λ (z : State). z.reading) e)) took

  -- a match and its action
  pub matched_moved : (fails : K → ℕ) (live : Bool) (path : List ℕ) (result : Result Turn RunError) → Looked M old.place old.reading mid path →
      MatchLeft M wrote fails t t' live (record old { reading = mid }) new path result → TurnStep M gave wrote s s' t t' old new result
  matched_moved fails live path (Ok turn) looked left = inl (record { mid = mid; took = took; path = path; looked = looked; acted = left.acted })
  matched_moved fails live path (Err e) looked left =
      let same = left.unchanged in
      let back : mid ≡ new.reading = sym same.reading in
      record {
        took = subst (λ z. Took gave s s' old.reading z) back took;
        place = same.place;
        why = inr (inl (
          path,
          subst (λ z. Looked M old.place old.reading z path) back looked,
          subst (λ (z : Reading). CutAll M wrote t t' z.window.bytes old.place.at (matches_of M z.window.bytes old.place.at path) (conditions_at old)) back left.cut_off,
        ));
        early = λ early. absurd (not_early e left.refusals early);
        fault = λ is. (
          path,
          subst (λ z. Looked M old.place old.reading z path) back looked,
          subst (λ (z : Reading). Faulted M wrote t t' z.window.bytes old.place.at (matches_of M z.window.bytes old.place.at path) (conditions_at old)) back (left.fault (ap Err is)),
        );
      }

  -- the end action
  pub finished_moved : (result : Result Turn RunError) → LookedAtEnd old.place old.reading mid → Appended (λ xs. wrote t xs t') (M.ending old.place.condition).print result →
      IfOk result (λ turn. EndLeft M mid old.place (conditions_at old) new turn) → IfErr result (λ e. e ≡ Write) → OnErr result (new ≡ record old { reading = mid }) → TurnStep M gave wrote s s' t t' old new result
  finished_moved (Ok turn) looked put left write same = inr (record { mid = mid; took = took; looked = looked; sink = put; left = left })
  finished_moved (Err e) looked put left write same =
      let back : mid ≡ new.reading = sym (ap (λ (z : State). z.reading) same) in
      record {
        took = took_to same;
        place = ap (λ (z : State). z.place) same;
        why = inr (inr (subst (λ (z : Reading). LookedAtEnd old.place old.reading z) back looked, put.0, put.1, put.2));
        early = λ early. absurd (not_early e (inl write) early);
        fault = λ is. absurd (no (sym write ∙ is));
      }
    where
      no : Write ≡ Stack → ⊥
      no p = cc

same_count : (T U : Type 0) (e : RunError) → write_fault_count {T = T} (Err e) ≡ write_fault_count {T = U} (Err e)
same_count T U Read = refl
same_count T U TooManyReads = refl
same_count T U Write = refl
same_count T U OutOfMemory = refl
same_count T U Stack = refl
same_count T U Failed = refl

not_stack : {T : Type 0} (e : RunError) → e ≡ Write → ◌≡◌ {A = Result T RunError} (Err e) (Err Stack) → ⊥
not_stack e is p = cc

not_err : {T : Type 0} (x : T) (e : RunError) → ◌≡◌ {A = Result T RunError} (Ok x) (Err e) → ⊥
not_err x e p = cc

not_went : (turn : Turn) (status : ℕ) → turn ≡ Turn.Ended status → ◌≡◌ {A = Result Turn RunError} (Ok turn) (Ok Turn.Went) → ⊥
not_went turn status is p = cc

-- what a match leaves
module _ {K : Type 0} (M : Machine) (wrote : K → List ℕ → K → Type 0) (fails : K → ℕ) (t t' : K) (live : Bool) (old : State) (path : List ℕ) where
  -- its action was cut short
  pub match_cut : (a : ActionState) (r : Option MatchedRule) (e : RunError) → CutAll M wrote t t' old.reading.window.bytes old.place.at (matches_of M old.reading.window.bytes old.place.at path) (conditions_at old) → e ≡ Write →
      fails t' ≡ fails t + write_fault_count {T = Option Finish} (Err e) → MatchLeft M wrote fails t t' live old (record old { acting = a; matched = r }) path (Err e)
  match_cut a r e cut is faults = record {
    acted = tt;
    going = λ p. absurd (not_err Turn.Went e (sym p));
    cut_off = cut;
    fault = λ p. absurd (not_stack e is p);
    unchanged = record { reading = refl; place = refl };
    refusals = inl is;
    write_faults = faults ∙ ap (λ n. fails t + n) (same_count (Option Finish) Turn e);
    may_write = tt;
    failed = refl;
    max_reads = refl;
  }

  -- its action was carried out, and the scan goes on
  match_done : (a : ActionState) (new : State) → Performed M wrote t t' old.reading.window.bytes old.place.at (matches_of M old.reading.window.bytes old.place.at path) (conditions_at old) a None → a.end ≤ length old.reading.window.bytes →
      fails t' ≡ fails t + 0 → live ≡ true → AtNextPlace old.reading.window.bytes a false new → new.reading.taken ≡ old.reading.taken → new.reading.at_end ≡ old.reading.at_end → new.reading.max_reads ≡ old.reading.max_reads →
      new.ended ≡ old.ended → new.failed ≡ old.failed → (r : Option MatchedRule) → new.matched ≡ r → Takes M old.reading.window.bytes old.place.at (matches_of M old.reading.window.bytes old.place.at path) (conditions_at old) r →
      MatchLeft M wrote fails t t' live old new path (Ok Turn.Went)
  match_done a new h inside faults may left taken at_end max_reads ended failed r is takes = record {
    acted = record {
      acting = a;
      ended = None;
      performed = h;
      inside = inside;
      left = left;
      says = refl;
      same = record { taken = taken; at_end = at_end };
      is_ended = λ x p. absurd (no x p);
      takes = subst (λ z. Takes M old.reading.window.bytes old.place.at (matches_of M old.reading.window.bytes old.place.at path) (conditions_at old) z) (sym is) takes;
    };
    going = λ p. ended;
    cut_off = tt;
    fault = λ p. absurd (not_err Turn.Went Stack p);
    unchanged = tt;
    refusals = tt;
    write_faults = faults;
    may_write = may;
    failed = failed;
    max_reads = max_reads;
  }
    where
      no : (x : ℕ) → ◌≡◌ {A = Option ℕ} None (Some x) → ⊥
      no x p = cc

  -- its action ended the scan, or was at fault
  match_ended : (u : K) (a : ActionState) (r : Option MatchedRule) (new : State) (finish : Finish) (result : Result Turn RunError) → ((s t u : K) (xs ys : List ℕ) → wrote s xs t → wrote t ys u → wrote s (xs ++ ys) u) →
      Performed M wrote t u old.reading.window.bytes old.place.at (matches_of M old.reading.window.bytes old.place.at path) (conditions_at old) a (Some (finish_of finish)) → a.end ≤ length old.reading.window.bytes → fails u ≡ fails t + 0 →
      EndsScan wrote fails u t' live (record old { acting = a; matched = r }) new finish result →
      Takes M old.reading.window.bytes old.place.at (matches_of M old.reading.window.bytes old.place.at path) (conditions_at old) r → MatchLeft M wrote fails t t' live old new path result
  match_ended u a r new finish (Ok turn) join h inside none ends takes =
      let by = ends.ended in
      record {
        acted = record {
          acting = a;
          ended = Some by.status;
          performed = subst (λ f. Performed M wrote t t' old.reading.window.bytes old.place.at (matches_of M old.reading.window.bytes old.place.at path) (conditions_at old) a (Some (finish_of f))) by.is
              (performed_flushed M wrote t u t' old.reading.window.bytes old.place.at (matches_of M old.reading.window.bytes old.place.at path) (conditions_at old) a (Some (finish_of finish)) join h ends.sink);
          inside = inside;
          left = by.left;
          says = subst (λ z. TellsEnd z (Some by.status)) (sym by.says) refl;
          same = record { taken = by.same.taken; at_end = by.same.at_end };
          is_ended = λ x p. by.ended ∙ p;
          takes = subst (λ z. Takes M old.reading.window.bytes old.place.at (matches_of M old.reading.window.bytes old.place.at path) (conditions_at old) z) (sym by.matched) takes;
        };
        going = λ p. absurd (not_went turn by.status by.says p);
        cut_off = tt;
        fault = λ p. absurd (not_err turn Stack p);
        unchanged = tt;
        refusals = tt;
        write_faults = omega (arith, none, ends.write_faults);
        may_write = ends.may_write;
        failed = ends.failed;
        max_reads = ends.max_reads;
      }
  match_ended u a r new finish (Err e) join h inside none ends takes = record {
    acted = tt;
    going = λ p. absurd (not_err Turn.Went e (sym p));
    cut_off = performed_cut M wrote t u t' old.reading.window.bytes old.place.at (matches_of M old.reading.window.bytes old.place.at path) (conditions_at old) a (Some (finish_of finish)) join h ends.sink;
    fault = λ p. record {
      acting = a;
      performed = subst (λ f. Performed M wrote t t' old.reading.window.bytes old.place.at (matches_of M old.reading.window.bytes old.place.at path) (conditions_at old) a (Some (finish_of f))) (ends.fault p)
          (performed_flushed M wrote t u t' old.reading.window.bytes old.place.at (matches_of M old.reading.window.bytes old.place.at path) (conditions_at old) a (Some (finish_of finish)) join h ends.sink);
      inside = inside;
    };
    unchanged = record { reading = ap (λ (z : State). z.reading) ends.unchanged; place = ap (λ (z : State). z.place) ends.unchanged };
    refusals = ends.refusals;
    write_faults = omega (arith, none, ends.write_faults);
    may_write = tt;
    failed = ends.failed;
    max_reads = ends.max_reads;
  }

  -- its action was carried out, and the turn ends
  pub match_left : (u : K) (a : ActionState) (r : Option MatchedRule) (new : State) (finish : Option Finish) (result : Result Turn RunError) → ((s t u : K) (xs ys : List ℕ) → wrote s xs t → wrote t ys u → wrote s (xs ++ ys) u) →
      Performed M wrote t u old.reading.window.bytes old.place.at (matches_of M old.reading.window.bytes old.place.at path) (conditions_at old) a (finished_of finish) → a.end ≤ length old.reading.window.bytes → fails u ≡ fails t + 0 →
      EndsTurn wrote fails u t' live (record old { acting = a; matched = r }) new finish result →
      Takes M old.reading.window.bytes old.place.at (matches_of M old.reading.window.bytes old.place.at path) (conditions_at old) r → MatchLeft M wrote fails t t' live old new path result
  match_left u a r new None result join h inside none goes takes =
      let on = subst (λ z. Performed M wrote t z old.reading.window.bytes old.place.at (matches_of M old.reading.window.bytes old.place.at path) (conditions_at old) a None) (sym goes.sink) h in
      subst (λ z. MatchLeft M wrote fails t t' live old new path z) (sym goes.says)
      (match_done a new on inside (ap fails goes.sink ∙ none) goes.may_write goes.left goes.same.taken goes.same.at_end goes.max_reads goes.ended goes.failed r goes.matched takes)
  match_left u a r new (Some finish) result join h inside none ends takes = match_ended u a r new finish result join h inside none ends takes
