-- The match that a turn carries out is that of every consistent input.
use Rattle.std.proofs.Common.{◌≡◌, ℕ, ◌+◌, ◌-◌, ◌≤◌, Bool, true, false, List, [], ◌∷◌, ◌++◌, length, take, drop, ◌⊎◌, inl, inr, Option, Some, None, refl, sym, ◌∙◌, ap, subst, arith}
use Rattle.std.specs.Prelude.{if◌then◌else◌}
use Rattle.std.proofs.lemmas.List.{append-nil, append_assoc, length-append, length-take-le, length-drop, drop-append-le, drop-drop, drop_all, take-append-le, take-append-drop}
use Rattle.lex_semantics.proofs.ResultsAre.{results_are}
use Rattle.lex_semantics.specs.Text.{Among, IsText, part, at_line_start}
use Rattle.lex_semantics.specs.Rules.{Rules}
use Rattle.lex_semantics.specs.Candidates.{Candidate, Candidates}
use Rattle.lex_semantics.specs.Acting.{Acting as Outcome}
use Rattle.lex_semantics.specs.ActionResults.{perform_results}
use Rattle.lex_semantics.specs.Demand.{Consistent, ExtendsGiven}
use Rattle.lex_semantics.specs.Run.{Place}
use Rattle.lex_semantics.specs.Machine.{Machine, rules_of_machine, state_after}
use Rattle.lex_semantics.specs.MachineLaws.{MachineLaws}
use Rattle.lex_semantics.proofs.Fronts.{among_left}
use Rattle.lex_semantics.proofs.Local.{more_input, keep_inside, same_performed}
use Rattle.lex_semantics.proofs.MachineLaws.{machine_laws}
use Rattle.lex_semantics.proofs.Once.{some_inj}
use Rattle.lex_semantics.proofs.Texts.{is_text_drop, is_text_right, line_start_front, part_front}
use Rattle.lexscan_window.specs.declared.matched.MatchedRule.{MatchedRule}
use Rattle.lexscan_window.specs.declared.state.State.{State}
use Rattle.lexscan_window.specs.declared.state.TextPlace.{TextPlace}
use Rattle.lexscan.specs.declared.turn.Turn.{Turn}
use Rattle.lexscan_window.specs.Acts.{acting_of}
use Rattle.lexscan_matching.specs.Descends.{conditions_at, outcome, matches_of, ending_of, IsRule, Takes}
use Rattle.lexscan.specs.Matches.{text_start, match_by, match_in, text_of, CarriesOut, TellsMatch}
use Rattle.lexscan_window.specs.Places.{kept_before, stays, next_bytes, next_at}
use Rattle.lexscan.specs.TurnSteps.{is_over, MatchStep, EndStep}
use Rattle.lexscan.specs.TurnInvariants.{TurnInvariant, state_of}
use Rattle.lexscan_window.specs.Window.{last_of}
use Rattle.lexscan.proofs.Outcomes.{seen_matches, matches_are, all_seen}

-- an input is the bytes given and a rest
with_rest : (given : List ℕ) (at_end : Bool) (x : List ℕ) → ExtendsGiven given at_end x → (rest : List ℕ) × (x ≡ given ++ rest) × (at_end ≡ true → rest ≡ [])
with_rest given true x h = ([], h ∙ sym (append-nil given), λ e. refl)
with_rest given false x h = (h.0, h.1, λ e. absurd (no e))
  where
    no : false ≡ true → ⊥
    no p = cc

-- what is told of a match
tells_by : (R : Rules) (given : List ℕ) (at_end : Bool) (p : Place) (rule : Option MatchedRule) (new : State) (m : Candidate) (o : Outcome) → IsRule R.count rule m.rule → text_start new ≡ p.start → new.acting.end ≡ length o.text →
    last_of new.acting.end (kept_before new) ≡ o.text → text_start new + new.acting.end ≤ length given → part given (text_start new) (text_start new + new.acting.end) ≡ o.text →
    ((x : List ℕ) → Consistent given at_end x → CarriesOut R x p m o) → TellsMatch R given at_end p (match_by rule new) (text_of (match_by rule new) new)
tells_by R given at_end p None new m o is start long text inside here carries = absurd is
tells_by R given at_end p (Some rule) new m o is start long text inside here carries =
    record { taken = m; outcome = o; carries = carries; rule_is = is; start_is = start; length_is = long; text_is = text; inside = inside; part_is = here }

-- where the text begins, by the bytes that are held after it
begins_at : (over : Bool) (w held : List ℕ) (n start end at : ℕ) → held ≡ next_bytes over end w → at ≡ next_at over end → start ≤ n → length w ≡ n - start → end ≤ length w → n - length held + at - end ≡ start
begins_at true w held n start end at is place le size inside = omega (arith, ap length is, place, le, size, inside)
begins_at false w held n start end at is place le size inside = omega (arith, ap length is, place, le, size, inside, length-drop end w)

module _ {S K : Type 0} (M : Machine) (laws : MachineLaws M) (gave : S → List ℕ → S → Type 0) (wrote : K → List ℕ → K → Type 0) (s s' : S) (t t' : K) (n : ℕ) (given out : List ℕ) (old new : State) (turn : Turn) (h : TurnInvariant M n given out old) where
  pub match_tells : (m : MatchStep M gave wrote s s' t t' (record old { failed = true }) new turn) →
      TellsMatch (rules_of_machine M) (given ++ m.took.got) new.reading.at_end (state_of out h.start old).place (match_by new.matched new) (text_of (match_by new.matched new) new)
  match_tells m = tells_by R g new.reading.at_end q new.matched new k.taken o k.rule_is start (m.acted.left.end ∙ sym same)
      (ap (λ e. last_of e (kept_before new)) m.acted.left.end ∙ m.acted.left.text) (omega (arith, start, m.acted.left.end, m.acted.inside, ap length win, length-drop h.start g, inside))
      here (λ x consistent. carries x consistent.0 (with_rest g new.reading.at_end x consistent.1))
    where
      R : Rules
      R = rules_of_machine M

      p : TextPlace
      p = old.place

      g : List ℕ
      g = given ++ m.took.got

      w : List ℕ
      w = m.mid.window.bytes

      q : Place
      q = (state_of out h.start old).place

      k : Takes M w p.at (matches_of M w p.at m.path) (conditions_at old) new.matched
      k = m.acted.takes

      reach : ℕ
      reach = m.looked.reach

      o : Outcome
      o = record (acting_of w m.acted.acting m.acted.performed.out) { ended = ending_of m.acted.ended }

      same : length o.text ≡ m.acted.acting.end
      same = length-take-le m.acted.acting.end w m.acted.inside

      win : drop h.start g ≡ w
      win = drop-append-le h.start given m.took.got (omega (arith, h.covered)) ∙ ap (λ z. z ++ m.took.got) (sym h.held) ∙ sym m.took.held

      longer : length g ≡ length given + length m.took.got
      longer = length-append given m.took.got

      inside : q.at ≤ length g
      inside = omega (arith, h.covered, longer)

      taken_all : new.reading.taken ≡ length g
      taken_all = omega (arith, m.acted.same.taken, m.took.taken, h.taken, longer)

      start : text_start new ≡ h.start
      start =
          begins_at (stays m.acted.acting.more (is_over m.acted.ended)) w new.reading.window.bytes new.reading.taken h.start new.acting.end new.place.at
          (m.acted.left.held ∙ ap (λ e. next_bytes (stays m.acted.acting.more (is_over m.acted.ended)) e w) (sym m.acted.left.end))
          (m.acted.left.at ∙ ap (next_at (stays m.acted.acting.more (is_over m.acted.ended))) (sym m.acted.left.end))
          (omega (arith, taken_all, longer, h.covered)) (ap length (sym win) ∙ length-drop h.start g ∙ ap (λ z. z - h.start) (sym taken_all)) (omega (arith, m.acted.left.end, m.acted.inside))

      here : part g (text_start new) (text_start new + new.acting.end) ≡ o.text
      here =
          let size : h.start + m.acted.acting.end - h.start ≡ m.acted.acting.end = omega arith in
          ap (λ i. part g i (i + new.acting.end)) start ∙ ap (λ e. part g h.start (h.start + e)) m.acted.left.end ∙ ap (λ k. take k (drop h.start g)) size ∙ ap (take m.acted.acting.end) win

      -- all the matches among the bytes that were asked for
      ms : List Candidate
      ms = seen_matches M laws p w reach m.looked.state m.path m.looked.some m.looked.so_far

      in_order : k.passed ++ k.taken ∷ k.left ≡ ms
      in_order = sym k.in_order ∙ matches_are M laws p w reach m.looked.state m.path m.looked.some m.looked.so_far

      v : List ℕ
      v = take reach (drop p.at w)

      all_here : Candidates R p.condition p.line_start v (k.passed ++ k.taken ∷ k.left)
      all_here = subst (λ l. Candidates R p.condition p.line_start v l) (sym in_order) (all_seen M laws p w reach m.looked.state m.path m.looked.some m.looked.so_far)

      size : length v ≡ reach
      size = length-take-le reach (drop p.at w) m.looked.so_far.inside

      keeps : (i : Candidate) → Among (k.passed ++ k.taken ∷ k.left) i → i.keep ≤ length (drop p.at w)
      keeps i a = let le : i.keep ≤ length v = keep_inside R (machine_laws M laws) p.condition p.line_start v i ((all_here.members i).0 a) in omega (arith, le, size, m.looked.so_far.inside)

      among_front : (i : Candidate) → Among (k.passed ++ k.taken ∷ []) i → Among (k.passed ++ k.taken ∷ k.left) i
      among_front i a = subst (λ l. Among l i) (append_assoc k.passed (k.taken ∷ []) k.left) (among_left (k.passed ++ k.taken ∷ []) k.left i a)

      -- with all its matches the turn comes to this outcome, and so with those up to the one that is carried out
      outcome_is : (k.carried []).0 ≡ o
      outcome_is = some_inj (k.carried []).0 o (sym ((k.carried []).1 k.left) ∙ ap (λ l. outcome M w p.at l [] (conditions_at old)) (sym k.in_order) ∙ m.acted.performed.acts [])

      carries : (x : List ℕ) → IsText x → ((rest : List ℕ) × (x ≡ g ++ rest) × (new.reading.at_end ≡ true → rest ≡ [])) → CarriesOut R x q k.taken o
      carries x text (rest, is, none) = record {
        before_end = omega (arith, ap length is, length-append g rest, ap length win, length-drop h.start g, length-drop p.at w, m.looked.so_far.inside, m.looked.some);
        passed = k.passed;
        left = k.left;
        all = subst (λ y. Candidates R p.condition (at_line_start x q.at) y (k.passed ++ k.taken ∷ k.left)) (sym splits)
            (subst (λ b. Candidates R p.condition b (v ++ more) (k.passed ++ k.taken ∷ k.left)) (sym line) (enough m.looked.stops));
        rejected = results_are _ _ _ _ _ _ _ ∙ performed k.passed (λ i a. among_left k.passed (k.taken ∷ k.left) i a) ∙ k.rejected [];
        carried = results_are _ _ _ _ _ _ _ ∙ performed (k.passed ++ k.taken ∷ []) among_front ∙ (k.carried []).1 [] ∙ ap (λ z. Some z) outcome_is;
      }
        where
          more : List ℕ
          more = drop reach (drop p.at w) ++ rest

          from_here : drop q.at x ≡ drop p.at w ++ rest
          from_here =
              ap (drop q.at) is ∙ drop-append-le q.at g rest (omega (arith, inside)) ∙ ap (λ z. z ++ rest) (sym (drop-drop p.at h.start g) ∙ ap (drop p.at) win)

          splits : drop q.at x ≡ v ++ more
          splits = from_here ∙ ap (λ z. z ++ rest) (sym (take-append-drop reach (drop p.at w))) ∙ append_assoc v (drop reach (drop p.at w)) rest

          line : at_line_start x q.at ≡ p.line_start
          line = ap (λ z. at_line_start z q.at) is ∙ line_start_front g rest q.at inside ∙ line_start_front given m.took.got q.at h.covered ∙ sym h.line

          is_text : IsText more
          is_text = is_text_right v more (subst IsText splits (is_text_drop q.at x text))

          kept : part x q.start q.at ≡ take p.at w
          kept =
              let e : q.at - h.start ≡ p.at = omega arith in
              ap (λ z. part z q.start q.at) is ∙ part_front g rest q.start q.at inside ∙ ap (λ i. take i (drop h.start g)) e ∙ ap (take p.at) win

          enough : ((M.goes_on m.looked.state ≡ false) × (m.mid.at_end ≡ old.reading.at_end)) ⊎ ((M.goes_on m.looked.state ≡ true) × (p.at + reach ≡ length w) × (m.mid.at_end ≡ true)) →
              Candidates R p.condition p.line_start (v ++ more) (k.passed ++ k.taken ∷ k.left)
          enough (inl dead) = more_input R (machine_laws M laws) p.condition p.line_start v more is_text (omega (arith, size, m.looked.some)) not_live (k.passed ++ k.taken ∷ k.left) all_here
            where
              no : false ≡ true → ⊥
              no e = cc

              not_live : M.goes_on (state_after M p.condition p.line_start v) ≡ true → ⊥
              not_live live = no (sym dead.0 ∙ ap M.goes_on m.looked.so_far.state_is ∙ live)
          enough (inr all) =
              let end : new.reading.at_end ≡ true = m.acted.same.at_end ∙ all.2 in
              let nothing : more ≡ [] = ap (λ z. z ++ rest) (drop_all reach (drop p.at w) (omega (arith, length-drop p.at w, all.1))) ∙ none end in
              subst (λ z. Candidates R p.condition p.line_start z (k.passed ++ k.taken ∷ k.left)) (sym (append-nil v) ∙ ap (λ z. v ++ z) (sym nothing)) all_here

          performed : (l : List Candidate) → ((i : Candidate) → Among l i → Among (k.passed ++ k.taken ∷ k.left) i) →
              perform_results R (part x q.start q.at) (drop q.at x) l [] q.condition q.stack ≡ outcome M w p.at l [] (conditions_at old)
          performed l front =
              ap (λ z. perform_results R z (drop q.at x) l [] q.condition q.stack) kept
              ∙ ap (λ z. perform_results R (take p.at w) z l [] q.condition q.stack) from_here
              ∙ sym (same_performed R (take p.at w) (drop p.at w) (drop p.at w ++ rest) l [] q.condition q.stack (λ i a. sym (take-append-le i.keep (drop p.at w) rest (keeps i (front i a)))))

  -- at the end of the input there is none
  pub end_tells : (m : EndStep M gave wrote s s' t t' (record old { failed = true }) new turn) →
      TellsMatch (rules_of_machine M) (given ++ m.took.got) new.reading.at_end (state_of out h.start old).place (match_by new.matched new) (text_of (match_by new.matched new) new)
  end_tells m = subst (λ r. TellsMatch (rules_of_machine M) (given ++ m.took.got) new.reading.at_end (state_of out h.start old).place (match_by r new) (text_of (match_by r new) new)) (sym m.left.matched) here
    where
      here : (x : List ℕ) → Consistent (given ++ m.took.got) new.reading.at_end x → (state_of out h.start old).place.at ≡ length x
      here x consistent =
          let split = with_rest (given ++ m.took.got) new.reading.at_end x consistent.1 in
          let nothing : split.0 ≡ [] = split.2 (m.left.same.at_end ∙ m.looked.at_end) in
          let win : drop h.start (given ++ m.took.got) ≡ m.mid.window.bytes = drop-append-le h.start given m.took.got (omega (arith, h.covered)) ∙ ap (λ z. z ++ m.took.got) (sym h.held) ∙ sym m.took.held in
          let all : length x ≡ length (given ++ m.took.got) = ap length (split.1 ∙ ap (λ z. (given ++ m.took.got) ++ z) nothing ∙ append-nil (given ++ m.took.got)) in
          omega (arith, all, ap length win, length-drop h.start (given ++ m.took.got), m.looked.all, h.covered, length-append given m.took.got)

-- it is told where the scan has not failed
pub tells_working : (R : Rules) (given : List ℕ) (at_end : Bool) (p : Place) (s : State) → s.failed ≡ false → TellsMatch R given at_end p (match_by s.matched s) (text_of (match_by s.matched s) s) → TellsMatch R given at_end p (match_in s) (text_of (match_in s) s)
tells_working R given at_end p s works h = subst (λ f. TellsMatch R given at_end p (if f then None else match_by s.matched s) (text_of (if f then None else match_by s.matched s) s)) (sym works) h
