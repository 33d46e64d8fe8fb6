-- What the steps of a scan by pieces leave.
use Rattle.std.proofs.Common.{◌≡◌, ℕ, zero, suc, ◌+◌, ◌-◌, ◌^◌, ◌≤◌, ◌<◌, inl, Bool, true, false, List, [], ◌∷◌, ◌++◌, length, Result, Ok, Err, Option, Some, None, refl, sym, ap, subst, ◌∙◌, append_assoc, append-nil, arith}
use Rattle.std.specs.Prelude.{IsErrOf}
use Rattle.std.proofs.lemmas.List.{length-append}
use Rattle.lex_semantics.specs.Text.{IsText}
use Rattle.lex_semantics.specs.Rules.{Rules}
use Rattle.lex_semantics.specs.Acting.{Ending, Status, StackFault}
use Rattle.lex_semantics.specs.Run as Scan
use Rattle.lex_semantics.specs.Run.{first_state}
use Rattle.lex_semantics.specs.Demand.{AsksFrom, Consistent}
use Rattle.lex_semantics.specs.Machine.{Machine, rules_of_machine}
use Rattle.liblex_calls.specs.Rules.{rules_machine}
use Rattle.lexscan_window.specs.declared.state.State.{State}
use Rattle.lexscan.specs.declared.turn.Turn.{Turn}
use Rattle.lexscan_window.specs.declared.error.RunError.{RunError}
use Rattle.lexscan_window.specs.declared.error.RunError.TheVariants as runs
use Rattle.lexscan.specs.Pushes.{Fed, AsksForMore, AfterFeed, AfterFinish}
use Rattle.liblex_calls.specs.Backlogs.{rest}
use Rattle.liblex_calls.specs.Stages.{stage_of, end_of, fault_of}
use Rattle.liblex_calls.specs.Files.{IsMachineOf}
use Rattle.liblex_calls.specs.Progress.{scan_machine, StandsAt, Progress, fed_with}
use Rattle.liblex_calls.specs.declared.stage.Stage.{Stage}
use Rattle.liblex_calls.specs.declared.stage.Stage.TheVariants as stages
use Rattle.liblex_calls.specs.declared.piece_scan.PieceScan.{PieceScan}

pub append_text : (u v : List ℕ) → IsText u → IsText v → IsText (u ++ v)
append_text [] v h k = k
append_text (b ∷ bs) v h k = (h.0, append_text bs v h.1 k)

fed_text : (told : Bool) (fed piece : List ℕ) → IsText fed → IsText piece → IsText (fed_with told fed piece)
fed_text true fed piece h k = h
fed_text false fed piece h k = append_text fed piece h k

-- turns over nothing ask for the end
pub asks_first : (R : Rules) (n : ℕ) → AsksForMore R n []
asks_first R zero t asked (b, before, h, next, asks) =
    let (r, answers, is) = subst (λ (s : Scan.State). AsksFrom R [] s.place s.ended before asked) h.0 asks in
    let some : 0 < r = (answers 0).1 (omega arith, inl refl) in
    omega (arith, some, is)
asks_first R (suc n) t asked (b, before, h, next, asks) =
    let more : 0 < before = asks_first R n b before h in
    no_less b.ended asks more
  where
    no_less : (e : Option Ending) → AsksFrom R [] b.place e before asked → 0 < before → 0 < asked
    no_less (Some e) same more = omega (arith, same, more)
    no_less None (r, answers, is) more = omega (arith, is, more)

-- an input that may still be with a piece more may be without it
pub fewer : (told : Bool) (fed piece x : List ℕ) → Consistent (fed_with told fed piece) told x → Consistent fed told x
fewer true fed piece x h = h
fewer false fed piece x (text, (more, is)) = (text, (piece ++ more, is ∙ append_assoc fed piece more))

-- where its end was told, it may be that there was none told
pub untold : (told : Bool) (fed x : List ℕ) → Consistent fed true x → Consistent fed told x
untold true fed x h = h
untold false fed x (text, is) = (text, ([], is ∙ sym (append-nil fed)))

longer : (told : Bool) (fed piece : List ℕ) (n : ℕ) → n ≤ length fed → n ≤ length (fed_with told fed piece)
longer true fed piece n h = h
longer false fed piece n h = omega (arith, h, length-append fed piece)

-- once the scan has ended or stopped, a piece more changes nothing
pub stays : (M : Machine) (stage : Stage) (told : Bool) (fed piece w : List ℕ) (s : State) (waiting : List ℕ) → (stage ≡ stages.Going → ⊥) → StandsAt M stage told fed w s waiting → StandsAt M stage told (fed_with told fed piece) w s waiting
stays M stages.Going told fed piece w s waiting not h = absurd (not refl)
stays M (stages.Ended status) told fed piece w s waiting not h = λ x c. h x (fewer told fed piece x c)
stays M stages.Stack told fed piece w s waiting not h = λ x c. h x (fewer told fed piece x c)
stays M stages.OutOfMemory told fed piece w s waiting not h = λ x c. h x (fewer told fed piece x c)
stays M stages.TooManyReads told fed piece w s waiting not h = (λ x c. h.0 x (fewer told fed piece x c), longer told fed piece (2 ^ 64 - 1) h.1)

-- nor does its end
pub stays_told : (M : Machine) (stage : Stage) (told : Bool) (fed w : List ℕ) (s : State) (waiting : List ℕ) → (stage ≡ stages.Going → ⊥) → StandsAt M stage told fed w s waiting → StandsAt M stage true fed w s waiting
stays_told M stages.Going told fed w s waiting not h = absurd (not refl)
stays_told M (stages.Ended status) told fed w s waiting not h = λ x c. h x (untold told fed x c)
stays_told M stages.Stack told fed w s waiting not h = λ x c. h x (untold told fed x c)
stays_told M stages.OutOfMemory told fed w s waiting not h = λ x c. h x (untold told fed x c)
stays_told M stages.TooManyReads told fed w s waiting not h = (λ x c. h.0 x (untold told fed x c), h.1)

-- how the scan stands after a feed
module _ (M : Machine) (fed w : List ℕ) (s : State) (waiting : List ℕ) where
  fed_fault : (e : RunError) → AfterFeed M fed w s waiting (Err e) → (e ≡ runs.TooManyReads → 2 ^ 64 - 1 ≤ length fed) → StandsAt M (fault_of e) false fed w s waiting
  fed_fault runs.Stack h many = λ x c. h.1 refl x c.0 c.1
  fed_fault runs.TooManyReads h many = (λ x c. h.0 x c.0 c.1, many refl)
  fed_fault runs.Read h many = λ x c. h.0 x c.0 c.1
  fed_fault runs.Write h many = λ x c. h.0 x c.0 c.1
  fed_fault runs.OutOfMemory h many = λ x c. h.0 x c.0 c.1
  fed_fault runs.Failed h many = λ x c. h.0 x c.0 c.1

  fed_stands : IsText fed → (result : Result Turn RunError) → AfterFeed M fed w s waiting result → (IsErrOf result runs.TooManyReads → 2 ^ 64 - 1 ≤ length fed) → StandsAt M (stage_of result) false fed w s waiting
  fed_stands text (Ok Turn.Went) h many = (refl, h.1, h.0, h.2 text)
  fed_stands text (Ok (Turn.Ended status)) h many = λ x c. h.2 x c.0 c.1
  fed_stands text (Err e) h many = fed_fault e h (λ is. many (ap Err is))

  -- and after the end
  end_fault : IsText fed → (e : RunError) → AfterFinish (rules_of_machine M) fed w (Err e) → (e ≡ runs.TooManyReads → 2 ^ 64 - 1 ≤ length fed) → StandsAt M (fault_of e) true fed w s waiting
  end_fault text runs.Stack h many = λ x c. subst (λ y. Scan.Run (rules_of_machine M) y w StackFault) (sym c.1) ((h text).1 refl)
  end_fault text runs.TooManyReads h many = (λ x c v ending run. (h text).0 v ending (subst (λ y. Scan.Run (rules_of_machine M) y v ending) c.1 run), many refl)
  end_fault text runs.Read h many = λ x c v ending run. (h text).0 v ending (subst (λ y. Scan.Run (rules_of_machine M) y v ending) c.1 run)
  end_fault text runs.Write h many = λ x c v ending run. (h text).0 v ending (subst (λ y. Scan.Run (rules_of_machine M) y v ending) c.1 run)
  end_fault text runs.OutOfMemory h many = λ x c v ending run. (h text).0 v ending (subst (λ y. Scan.Run (rules_of_machine M) y v ending) c.1 run)
  end_fault text runs.Failed h many = λ x c v ending run. (h text).0 v ending (subst (λ y. Scan.Run (rules_of_machine M) y v ending) c.1 run)

  end_stands : IsText fed → (result : Result ℕ RunError) → AfterFinish (rules_of_machine M) fed w result → (IsErrOf result runs.TooManyReads → 2 ^ 64 - 1 ≤ length fed) → StandsAt M (end_of result) true fed w s waiting
  end_stands text (Ok status) h many = λ x c. subst (λ y. Scan.Run (rules_of_machine M) y w (Status status)) (sym c.1) (h text)
  end_stands text (Err e) h many = end_fault text e h (λ is. many (ap Err is))

-- a scan that was fed nothing asks for more
pub first_stands : (M : Machine) (s : State) (waiting : List ℕ) → Fed M [] [] s waiting → s.ended ≡ None → StandsAt M stages.Going false [] [] s waiting
first_stands M s waiting h going = (refl, going, h, asks_first (rules_of_machine M) h.turns)

-- how many bytes were fed
fed_count : (M : Machine) (fed w : List ℕ) (s : State) (waiting : List ℕ) → Fed M fed w s waiting → s.ended ≡ None → length fed ≡ s.reading.taken + length waiting
fed_count M fed w s waiting h going = omega (arith, ap length h.all, length-append h.given h.left, ap length (h.waits going), h.invariant.taken)

-- the facts of a scan that goes on
pub going_on : (M : Machine) (stage : Stage) (told : Bool) (fed w : List ℕ) (s : State) (waiting : List ℕ) → stage ≡ stages.Going → StandsAt M stage told fed w s waiting → (told ≡ false) × (s.ended ≡ None) × Fed M fed w s waiting
going_on M stage told fed w s waiting is h = (let k = subst (λ t. StandsAt M t told fed w s waiting) is h in (k.0, k.1, k.2))

fed_told : (told : Bool) (fed piece : List ℕ) → told ≡ false → fed_with told fed piece ≡ fed ++ piece
fed_told true fed piece e = absurd (let no : true ≡ false = e in cc)
fed_told false fed piece e = refl

module _ (file : List ℕ) (told : Bool) (fed out : List ℕ) (p p' : PieceScan) (P : Progress file told fed out p) (put : List ℕ) (same : p'.scanner.machine ≡ p.scanner.machine) (wrote : rest p'.backlog ≡ rest p.backlog ++ put) where
  abbrev M : Machine
  M = scan_machine p

  same_machine : scan_machine p' ≡ scan_machine p
  same_machine = ap rules_machine same

  written : (out ++ rest p.backlog) ++ put ≡ out ++ rest p'.backlog
  written = append_assoc out (rest p.backlog) put ∙ ap (λ l. out ++ l) (sym wrote)

  -- a piece more, where the scan goes on
  pub fed_progress : (piece : List ℕ) → IsText piece → (result : Result Turn RunError) → p.stage ≡ stages.Going → p'.stage ≡ stage_of result → p'.finished ≡ p.finished
      → ((fed out : List ℕ) → Fed (scan_machine p) fed out p.scanner.scan.state p.scanner.waiting.items → AfterFeed (scan_machine p) (fed ++ piece) (out ++ put) p'.scanner.scan.state p'.scanner.waiting.items result)
      → (IsErrOf result runs.TooManyReads → 2 ^ 64 - 1 ≤ p.scanner.scan.state.reading.taken + length p.scanner.waiting.items + length piece)
      → Progress file told (fed_with told fed piece) out p'
  fed_progress piece text result going stage finished after many =
      let (untrue, ended, h) = going_on M p.stage told fed (out ++ rest p.backlog) p.scanner.scan.state p.scanner.waiting.items going P.stands in
      let all : IsText (fed ++ piece) = append_text fed piece P.text text in
      let count : IsErrOf result runs.TooManyReads → 2 ^ 64 - 1 ≤ length (fed ++ piece) = λ is. omega (arith, many is, length-append fed piece, fed_count M fed (out ++ rest p.backlog) p.scanner.scan.state p.scanner.waiting.items h ended) in
      let stands = fed_stands M (fed ++ piece) ((out ++ rest p.backlog) ++ put) p'.scanner.scan.state p'.scanner.waiting.items all result (after fed (out ++ rest p.backlog) h) count in
      record {
        machine = subst (IsMachineOf file) (sym same_machine) P.machine;
        text = fed_text told fed piece P.text text;
        finished = finished ∙ P.finished;
        stands =
            subst (λ N. StandsAt N p'.stage told (fed_with told fed piece) (out ++ rest p'.backlog) p'.scanner.scan.state p'.scanner.waiting.items) (sym same_machine)
            (subst (λ t. StandsAt M t told (fed_with told fed piece) (out ++ rest p'.backlog) p'.scanner.scan.state p'.scanner.waiting.items) (sym stage)
            (subst (λ l. StandsAt M (stage_of result) told l (out ++ rest p'.backlog) p'.scanner.scan.state p'.scanner.waiting.items) (sym (fed_told told fed piece untrue))
            (subst (λ b. StandsAt M (stage_of result) b (fed ++ piece) (out ++ rest p'.backlog) p'.scanner.scan.state p'.scanner.waiting.items) (sym untrue)
            (subst (λ l. StandsAt M (stage_of result) false (fed ++ piece) l p'.scanner.scan.state p'.scanner.waiting.items) written stands))));
      }

  -- its end, where the scan goes on
  pub end_progress : (result : Result ℕ RunError) → p.stage ≡ stages.Going → p'.stage ≡ end_of result → p'.finished ≡ true
      → ((fed out : List ℕ) → Fed (scan_machine p) fed out p.scanner.scan.state p.scanner.waiting.items → AfterFinish (rules_of_machine (scan_machine p)) fed (out ++ put) result)
      → (IsErrOf result runs.TooManyReads → 2 ^ 64 - 1 ≤ p.scanner.scan.state.reading.taken + length p.scanner.waiting.items)
      → Progress file true fed out p'
  end_progress result going stage finished after many =
      let (untrue, ended, h) = going_on M p.stage told fed (out ++ rest p.backlog) p.scanner.scan.state p.scanner.waiting.items going P.stands in
      let count : IsErrOf result runs.TooManyReads → 2 ^ 64 - 1 ≤ length fed = λ is. omega (arith, many is, fed_count M fed (out ++ rest p.backlog) p.scanner.scan.state p.scanner.waiting.items h ended) in
      let stands = end_stands M fed ((out ++ rest p.backlog) ++ put) p'.scanner.scan.state p'.scanner.waiting.items P.text result (after fed (out ++ rest p.backlog) h) count in
      record {
        machine = subst (IsMachineOf file) (sym same_machine) P.machine;
        text = P.text;
        finished = finished;
        stands =
            subst (λ N. StandsAt N p'.stage true fed (out ++ rest p'.backlog) p'.scanner.scan.state p'.scanner.waiting.items) (sym same_machine)
            (subst (λ t. StandsAt M t true fed (out ++ rest p'.backlog) p'.scanner.scan.state p'.scanner.waiting.items) (sym stage)
            (subst (λ l. StandsAt M (end_of result) true fed l p'.scanner.scan.state p'.scanner.waiting.items) written stands));
      }

-- where the scan has ended or stopped, a piece more and the end
pub fed_still : (file : List ℕ) (told : Bool) (fed out piece : List ℕ) (p : PieceScan) → IsText piece → (p.stage ≡ stages.Going → ⊥) → Progress file told fed out p → Progress file told (fed_with told fed piece) out p
fed_still file told fed out piece p text not P = record {
  machine = P.machine;
  text = fed_text told fed piece P.text text;
  finished = P.finished;
  stands = stays (scan_machine p) p.stage told fed piece (out ++ rest p.backlog) p.scanner.scan.state p.scanner.waiting.items not P.stands;
}

pub end_still : (file : List ℕ) (told : Bool) (fed out : List ℕ) (p : PieceScan) → (p.stage ≡ stages.Going → ⊥) → Progress file told fed out p → Progress file true fed out (record p { finished = true })
end_still file told fed out p not P = record {
  machine = P.machine;
  text = P.text;
  finished = refl;
  stands = stays_told (scan_machine p) p.stage told fed (out ++ rest p.backlog) p.scanner.scan.state p.scanner.waiting.items not P.stands;
}
