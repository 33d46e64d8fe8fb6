-- What a turn makes of a match with its action, or of the end action.
use Rattle.std.proofs.Common.{◌≡◌, ℕ, ◌++◌, suc, Bool, true, false, List, [], ◌⊎◌, inl, inr, Some, None, Ok, Err, refl, sym, ap, subst, ◌∙◌}
use Rattle.lex_semantics.specs.Machine.{Machine}
use Rattle.lex_semantics.specs.MachineLaws.{MachineLaws}
use Rattle.lex_semantics.specs.Acting.{StackFault}
use Rattle.lexscan_window.specs.declared.state.State.{State}
use Rattle.lexscan.specs.declared.turn.Turn.{Turn}
use Rattle.lexscan_window.specs.declared.error.RunError.{RunError}
use Rattle.lexscan_window.specs.declared.error.RunError.TheVariants.{Read, TooManyReads, Write, OutOfMemory, Stack, Failed}
use Rattle.lexscan_matching.specs.Descends.{conditions_at, matches_of, CutAll}
use Rattle.lexscan_window.specs.Ends.{IsEarly}
use Rattle.lexscan_matching.specs.Looks.{Wants, Unmet}
use Rattle.lexscan.specs.TurnSteps.{MatchStep, EndStep, RefusedStep, RefusalCause, StackFaulted, TellsEnd, TurnStep}
use Rattle.lexscan.specs.TurnInvariants.{TurnInvariant, MakesTurn}
use Rattle.lexscan.specs.Turns.{StepLeft}
use Rattle.lexscan_matching.proofs.Descending.{performed_front}
use Rattle.lexscan.proofs.Refusing as Fall
use Rattle.lexscan.proofs.Stepping as Go
use Rattle.lexscan.proofs.Taking as Take

is_fault : (e : RunError) → (e ≡ Stack) ⊎ (e ≡ Stack → ⊥)
is_fault Stack = inl refl
is_fault Read = inr (λ p. cc)
is_fault TooManyReads = inr (λ p. cc)
is_fault Write = inr (λ p. cc)
is_fault OutOfMemory = inr (λ p. cc)
is_fault Failed = inr (λ p. cc)

is_early : (e : RunError) → IsEarly e ⊎ (IsEarly e → ⊥)
is_early Read = inl (λ p. cc, λ p. cc)
is_early TooManyReads = inl (λ p. cc, λ p. cc)
is_early OutOfMemory = inl (λ p. cc, λ p. cc)
is_early Failed = inl (λ p. cc, λ p. cc)
is_early Write = inr (λ early. early.0 refl)
is_early Stack = inr (λ early. early.1 refl)

module _ {S K : Type 0} (M : Machine) (laws : MachineLaws M) (gave : S → List ℕ → S → Type 0) (wrote : K → List ℕ → K → Type 0) (s s' : S) (t t' : K) (source_live sink_live : Bool) (old : State) where
  pub turn_made : (new : State) (turn : Turn) → old.failed ≡ false → old.ended ≡ None → TurnStep M gave wrote s s' t t' old new (Ok turn) → StepLeft M source_live sink_live old new (Ok turn) → MakesTurn M gave wrote s s' t t' old new (Ok turn)
  turn_made new turn works going turn_step left = from turn_step
    where
      failed : new.failed ≡ false
      failed = left.failed ∙ works

      working : (n : ℕ) (given out : List ℕ) → TurnInvariant M n given out (record new { failed = false }) → TurnInvariant M n given out new
      working n given out h = subst (λ f. TurnInvariant M n given out (record new { failed = f })) (sym failed) h

      from : MatchStep M gave wrote s s' t t' old new turn
          ⊎ EndStep M gave wrote s s' t t' old new turn →
          MakesTurn M gave wrote s s' t t' old new (Ok turn)
      from (inl m) =
          let ended : new.ended ≡ m.acted.ended = Go.ended_is m.acted.ended turn new.ended m.acted.says m.acted.is_ended (λ e. left.ended (ap Ok e) ∙ going) in (
            m.took.got,
            m.acted.performed.out,
            m.took.source,
            m.acted.performed.sink,
            λ e. (m.took.nothing e, m.acted.same.at_end ∙ m.took.end_stays e),
            (
              subst (TellsEnd turn) (sym ended) m.acted.says,
              λ n given out h. working (suc n) (given ++ m.took.got) (out ++ m.acted.performed.out)
                  (Go.matched_stands M laws gave wrote _ _ _ _ n given out old new turn going h (record { mid = m.mid; took = m.took; path = m.path; looked = m.looked; acted = m.acted }) ended),
              λ _ n given out h. Take.tells_working _ _ _ _ new failed (Take.match_tells M laws gave wrote _ _ _ _ n given out old new turn h (record { mid = m.mid; took = m.took; path = m.path; looked = m.looked; acted = m.acted })),
            ),
          )
      from (inr m) = (
        m.took.got,
        (M.ending old.place.condition).print,
        m.took.source,
        m.sink,
        λ e. (m.took.nothing e, m.left.same.at_end ∙ m.took.end_stays e),
        (
          m.left.says,
          λ n given out h. working (suc n) (given ++ m.took.got) (out ++ (M.ending old.place.condition).print)
              (Go.finished_stands M laws gave wrote _ _ _ _ n given out old new turn going h (record { mid = m.mid; took = m.took; looked = m.looked; sink = m.sink; left = m.left })),
          λ _ n given out h. Take.tells_working _ _ _ _ new failed (Take.end_tells M laws gave wrote _ _ _ _ n given out old new turn h (record { mid = m.mid; took = m.took; looked = m.looked; sink = m.sink; left = m.left })),
        ),
      )

  pub turn_refused : (mid : State) (e : RunError) → old.ended ≡ None → TurnStep M gave wrote s s' t t' old mid (Err e) → StepLeft M source_live sink_live old mid (Err e) → MakesTurn M gave wrote s s' t t' old (record mid { failed = true }) (Err e)
  turn_refused mid e going turn_step left = by_fault (is_fault e)
    where
      new : State
      new = record mid { failed = true }

      m : RefusedStep M gave wrote s s' t t' (record old { failed = true }) new e
      m = (let k = turn_step in record { took = k.took; place = k.place; why = k.why; early = k.early; fault = k.fault })

      wants : e ≡ TooManyReads → Wants M old.place new.reading
      wants is = (left.too_many (ap Err is)).1

      unmet : (e ≡ Stack → ⊥) → Unmet M old.place old.reading new.reading × wrote t [] t' → MakesTurn M gave wrote s s' t t' old new (Err e)
      unmet not k = (
        m.took.got,
        [],
        m.took.source,
        k.1,
        λ is. (m.took.nothing is, m.took.end_stays is),
        (
          λ _. refl,
          λ n given out h. Fall.refusal M laws gave wrote _ _ _ _ n given out old new e going h m refl wants []
              (Fall.wanted_front M laws gave wrote _ _ _ _ n given out old new e going h m)
              (Fall.unmet_within M laws gave wrote _ _ _ _ n given out old new e going h m k.0) (λ is. absurd (not is)) (λ _. refl),
        ),
      )

      from : (e ≡ Stack → ⊥) → (IsEarly e → ⊥) → RefusalCause M wrote t t' (record old { failed = true }) new →
          MakesTurn M gave wrote s s' t t' old new (Err e)
      from not late (inl k) = unmet not k
      from not late (inr (inl k)) = (
        m.took.got,
        k.2.out,
        m.took.source,
        k.2.sink,
        λ is. (m.took.nothing is, m.took.end_stays is),
        (
          λ early. absurd (late early),
          λ n given out h. Fall.refusal M laws gave wrote _ _ _ _ n given out old new e going h m refl wants k.2.out
              (Fall.match_front M laws gave wrote _ _ _ _ n given out old new e going h m k.0 k.1 k.2)
              (Fall.match_within M laws gave wrote _ _ _ _ n given out old new e going h m k.0 k.1) (λ is. absurd (not is)) (λ early. absurd (late early)),
        ),
      )
      from not late (inr (inr k)) = (
        m.took.got,
        k.1,
        m.took.source,
        k.3,
        λ is. (m.took.nothing is, m.took.end_stays is),
        (
          λ early. absurd (late early),
          λ n given out h. Fall.refusal M laws gave wrote _ _ _ _ n given out old new e going h m refl wants k.1
              (Fall.end_front M laws gave wrote _ _ _ _ n given out old new e going h m k.0 k.1 k.2)
              (Fall.end_within M laws gave wrote _ _ _ _ n given out old new e going h m k.0) (λ is. absurd (not is)) (λ early. absurd (late early)),
        ),
      )

      fault : StackFaulted M wrote t t' (record old { failed = true }) new → e ≡ Stack →
          MakesTurn M gave wrote s s' t t' old new (Err e)
      fault k is =
          let cut : CutAll M wrote t t' new.reading.window.bytes old.place.at (matches_of M new.reading.window.bytes old.place.at k.0) (conditions_at old) = record {
            out = k.2.performed.out;
            sink = k.2.performed.sink;
            front = performed_front M wrote _ _ new.reading.window.bytes old.place.at (matches_of M new.reading.window.bytes old.place.at k.0) (conditions_at old) k.2.acting (Some StackFault) k.2.performed;
          } in (
            m.took.got,
            k.2.performed.out,
            m.took.source,
            k.2.performed.sink,
            λ is. (m.took.nothing is, m.took.end_stays is),
            (
              λ early. absurd (early.1 is),
              λ n given out h. Fall.refusal M laws gave wrote _ _ _ _ n given out old new e going h m refl wants k.2.performed.out
                  (Fall.match_front M laws gave wrote _ _ _ _ n given out old new e going h m k.0 k.1 cut)
                  (Fall.match_within M laws gave wrote _ _ _ _ n given out old new e going h m k.0 k.1)
                  (λ _. Go.faulted_ran M laws gave wrote _ _ _ _ n given out old new going h m.took k.0 k.1 k.2)
                  (λ early. absurd (early.1 is)),
            ),
          )

      by_fault : (e ≡ Stack) ⊎ (e ≡ Stack → ⊥) →
          MakesTurn M gave wrote s s' t t' old new (Err e)
      by_fault (inl is) = fault (m.fault is) is
      by_fault (inr not) = by_order (is_early e)
        where
          by_order : IsEarly e ⊎ (IsEarly e → ⊥) →
              MakesTurn M gave wrote s s' t t' old new (Err e)
          by_order (inl early) = unmet not (m.early early)
          by_order (inr late) = from not late m.why
