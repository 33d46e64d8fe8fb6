-- What a turn that was refused leaves.
use Rattle.std.proofs.Common.{◌≡◌, ℕ, zero, suc, ◌+◌, ◌-◌, ◌≤◌, ◌<◌, max, Bool, true, false, List, [], ◌++◌, length, drop, ◌⊎◌, inl, inr, Some, None, refl, sym, ◌∙◌, ap, subst, arith}
use Rattle.std.proofs.lemmas.List.{append-nil, append_assoc, length-append, length-drop, drop-append-le, drop_all, nil_from_length}
use Rattle.lex_semantics.specs.Text.{IsText, BeginsWith}
use Rattle.lex_semantics.specs.Acting as Scan
use Rattle.lex_semantics.specs.Acting.{Ending, Status, StackFault}
use Rattle.lex_semantics.specs.Run as Run
use Rattle.lex_semantics.specs.Run.{Place, Turns}
use Rattle.lex_semantics.specs.Demand.{AsksAt, Asks, Consistent, ExtendsGiven, answers}
use Rattle.lex_semantics.specs.Scanned.{AfterTurns, seen_turn}
use Rattle.lex_semantics.specs.Machine.{Machine, rules_of_machine}
use Rattle.lex_semantics.specs.MachineLaws.{MachineLaws}
use Rattle.lex_semantics.proofs.MachineLaws.{machine_laws}
use Rattle.lex_semantics.proofs.After.{last_asks, turns_of}
use Rattle.lex_semantics.proofs.Both.{one_after}
use Rattle.lex_semantics.proofs.Prefix.{asks_front}
use Rattle.lex_semantics.proofs.Step.{seen_match}
use Rattle.lex_semantics.proofs.Texts.{is_text_append}
use Rattle.lex_semantics.proofs.Wanted.{WantsMore, wanted}
use Rattle.lex_semantics.proofs.Written.{run_begins, part_begins}
use Rattle.lexscan_window.specs.declared.state.State.{State}
use Rattle.lexscan_window.specs.declared.error.RunError.{RunError}
use Rattle.lexscan_window.specs.declared.error.RunError.TheVariants.{TooManyReads, Stack}
use Rattle.lexscan_matching.specs.Looks.{Looked, LookedAtEnd, Wants, Unmet}
use Rattle.lexscan_matching.specs.Descends.{conditions_at, outcome, matches_of, CutAll, ending_of}
use Rattle.lexscan_window.specs.Ends.{IsEarly}
use Rattle.lexscan.specs.TurnSteps.{RefusedStep}
use Rattle.lexscan.specs.TurnInvariants.{state_of, TurnInvariant, AfterRefusal, RunCompleted}
use Rattle.lexscan.proofs.Outcomes.{good, seen_outcome}
use Rattle.lexscan.proofs.Lifting.{seen_here, dead_here, live_here, asks_here, inside_here, wants_here}

-- an input that goes on from more goes on from less
pub earlier : (given got : List ℕ) (a b : Bool) (x : List ℕ) → (a ≡ true → got ≡ []) → (a ≡ true → b ≡ true) → ExtendsGiven (given ++ got) b x → ExtendsGiven given a x
earlier given got true true x none ends h = h ∙ ap (λ z. given ++ z) (none refl) ∙ append-nil given
earlier given got true false x none ends h = absurd (no (ends refl))
  where
    no : false ≡ true → ⊥
    no p = cc
earlier given got false true x none ends h = (got, h)
earlier given got false false x none ends h = (got ++ h.0, h.1 ∙ append_assoc given got h.0)

pub with_rest : (given : List ℕ) (b : Bool) (x : List ℕ) → ExtendsGiven given b x → (rest : List ℕ) × (x ≡ given ++ rest)
with_rest given true x h = ([], h ∙ sym (append-nil given))
with_rest given false x h = h

pub just_these : (given : List ℕ) (b : Bool) → ExtendsGiven given b given
just_these given true = refl
just_these given false = ([], sym (append-nil given))

module _ {S K : Type 0} (M : Machine) (laws : MachineLaws M) (gave : S → List ℕ → S → Type 0) (wrote : K → List ℕ → K → Type 0) (s s' : S) (t t' : K) (n : ℕ) (given out : List ℕ) (old new : State) (error : RunError)
    (going : old.ended ≡ None) (h : TurnInvariant M n given out old) (m : RefusedStep M gave wrote s s' t t' (record old { failed = true }) new error) where
  after_before : (x : List ℕ) → Consistent (given ++ m.took.got) new.reading.at_end x → AfterTurns (rules_of_machine M) x n (state_of out h.start old) (answers given old.reading.at_end)
  after_before x k = h.scanned x (k.0, earlier given m.took.got old.reading.at_end new.reading.at_end x m.took.nothing m.took.end_stays k.1)

  turns_before : (x : List ℕ) → Consistent (given ++ m.took.got) new.reading.at_end x → Turns (rules_of_machine M) x n (state_of out h.start old)
  turns_before x k = turns_of (rules_of_machine M) x n (state_of out h.start old) (answers given old.reading.at_end) (after_before x k)

  win : drop h.start (given ++ m.took.got) ≡ new.reading.window.bytes
  win = drop-append-le h.start given m.took.got (omega (arith, h.covered)) ∙ ap (λ z. z ++ m.took.got) (sym h.held) ∙ sym m.took.held

  longer : length (given ++ m.took.got) ≡ length given + length m.took.got
  longer = length-append given m.took.got

  size : length new.reading.window.bytes ≡ length (given ++ m.took.got) - h.start
  size = ap length (sym win) ∙ length-drop h.start (given ++ m.took.got)

  -- these bytes go on what the run writes
  abbrev pub Fronts : List ℕ → Type 0
  Fronts w = (x : List ℕ) → Consistent (given ++ m.took.got) new.reading.at_end x → (v : List ℕ) (e : Ending) → Run.Run (rules_of_machine M) x v e → BeginsWith v (out ++ w)

  -- the place of the turn, and what was taken
  abbrev pub p : Place
  p = record { start = h.start; at = h.start + old.place.at; condition = old.place.condition; stack = old.acting.stack }

  abbrev pub all : List ℕ
  all = given ++ m.took.got

  -- what was answered is asked for
  abbrev pub Within : Type 0
  Within = (x : List ℕ) → Consistent all new.reading.at_end x → (r : ℕ) → Asks (rules_of_machine M) x p r → answers all new.reading.at_end ≤ max (answers given old.reading.at_end) (p.at + r)

  -- No more was answered than what was before, or at the end of what is asked for now.
  few_answers : (a b : Bool) → (a ≡ true → length m.took.got ≡ 0) → (a ≡ true → b ≡ true) → (r : ℕ) → length all ≤ max (length given) (p.at + r) → (b ≡ true → (a ≡ true) ⊎ (length all < p.at + r)) →
      answers all b ≤ max (answers given a) (p.at + r)
  few_answers a true none stays r le ends = by_end a none (ends refl)
    where
      by_end : (a : Bool) → (a ≡ true → length m.took.got ≡ 0) → (a ≡ true) ⊎ (length all < p.at + r) → answers all true ≤ max (answers given a) (p.at + r)
      by_end true none told = omega (arith, none refl, longer)
      by_end false none (inl told) = absurd cc
      by_end false none (inr more) = omega (arith, more)
  few_answers true false none stays r le ends = absurd (let no : false ≡ true = stays refl in cc)
  few_answers false false none stays r le ends = omega (arith, le)

  none_after : old.reading.at_end ≡ true → length m.took.got ≡ 0
  none_after told = ap length (m.took.nothing told)

  pub wants_more : Wants M old.place new.reading → WantsMore (rules_of_machine M) all p
  wants_more wants = wants_here M laws given m.took.got h.start old.place old.acting.stack new.reading.window.bytes h.covered win h.line new.reading refl wants

  -- over an input that goes on from them the turn asks for more than was taken
  pub wants_beyond : Wants M old.place new.reading → (x : List ℕ) → Consistent all new.reading.at_end x → (r : ℕ) → Asks (rules_of_machine M) x p r → length all < p.at + r
  wants_beyond wants x k r asks =
      let split = with_rest all new.reading.at_end x k.1 in
      wanted (rules_of_machine M) all split.0 p r (wants_more wants) (subst (λ y. Asks (rules_of_machine M) y p r) split.1 asks)

  false_first : (b : Bool) → b ≡ false → b ≡ true → ⊥
  false_first b e k = let no : false ≡ true = sym e ∙ k in cc

  pub wanted_front : Fronts []
  wanted_front = (λ x k v e run. subst (BeginsWith v) (sym (append-nil out)) (run_begins (rules_of_machine M) x n (state_of out h.start old) v e (turns_before x k) run))

  -- nothing was taken
  took_none : new.reading.window.bytes ≡ old.reading.window.bytes → length all ≡ length given
  took_none same =
      let took : length new.reading.window.bytes ≡ length old.reading.window.bytes + length m.took.got = ap length m.took.held ∙ length-append old.reading.window.bytes m.took.got in
      omega (arith, longer, took, ap length same)

  pub unmet_within : Unmet M old.place old.reading new.reading → Within
  unmet_within (inr same) x k r asks =
      few_answers old.reading.at_end new.reading.at_end none_after m.took.end_stays r (omega (arith, took_none same.0)) (λ told. inl (sym same.1 ∙ told))
  unmet_within (inl wants) x k r asks =
      let beyond : length all < p.at + r = wants_beyond wants x k r asks in
      few_answers old.reading.at_end new.reading.at_end none_after m.took.end_stays r (omega (arith, beyond)) (λ told. inr beyond)

  pub end_within : LookedAtEnd old.place old.reading new.reading → Within
  end_within looked x k r asks =
      let at : p.at ≡ length all = omega (arith, size, looked.all, longer, h.covered) in
      let whole : x ≡ all = subst (λ b. ExtendsGiven all b x) looked.at_end k.1 in
      let some : 0 < r = (asks 0).1 (omega (arith, at, ap length whole), inl refl) in
      few_answers old.reading.at_end new.reading.at_end none_after m.took.end_stays r (omega (arith, took_none looked.same)) (λ told. inr (omega (arith, at, some)))

  pub end_front : LookedAtEnd old.place old.reading new.reading → (w : List ℕ) → BeginsWith (M.ending old.place.condition).print w → Fronts w
  end_front looked w is = (λ x k v e run.
      let whole : x ≡ given ++ m.took.got = subst (λ b. ExtendsGiven (given ++ m.took.got) b x) looked.at_end k.1 in
      let last : Run.State = record {
        written = (M.ending old.place.condition).print;
        place = record { start = h.start + old.place.at; at = h.start + old.place.at; condition = old.place.condition; stack = old.acting.stack };
        ended = Some (Status (M.ending old.place.condition).status);
      } in
      let at : h.start + old.place.at ≡ length x = omega (arith, ap length whole, size, looked.all, longer, h.covered) in
      part_begins (rules_of_machine M) x n (state_of out h.start old) last w v e (turns_before x k) (ap ending_of going) (inr (record { at_end = at; leaves = refl })) is run)

  match_asks : (path : List ℕ) (looked : Looked M old.place old.reading new.reading path) (x : List ℕ) → Consistent all new.reading.at_end x → (r : ℕ) → Asks (rules_of_machine M) x p r →
      (i : ℕ) → p.at + i ≤ length all → AsksAt (rules_of_machine M) all p i → i < r
  match_asks path looked x k r asks i fits at =
      let split = with_rest all new.reading.at_end x k.1 in
      let whole : length x ≡ length all + length split.0 = ap length split.1 ∙ length-append all split.0 in
      (asks i).1 (omega (arith, fits, whole), subst (λ y. AsksAt (rules_of_machine M) y p i) (sym split.1) (asks_front (rules_of_machine M) all split.0 p i fits at))

  last_asked : (path : List ℕ) (looked : Looked M old.place old.reading new.reading path) (x : List ℕ) → Consistent all new.reading.at_end x → (r : ℕ) → Asks (rules_of_machine M) x p r →
      (k : ℕ) → looked.reach ≡ k → k ≤ r
  last_asked path looked x k r asks zero is = omega arith
  last_asked path looked x k r asks (suc i) is =
      let fits : p.at + looked.reach ≤ length all = inside_here M laws given m.took.got h.start old.place old.acting.stack new.reading.window.bytes h.covered win h.line looked.reach looked.state path looked.some looked.so_far in
      let at : AsksAt (rules_of_machine M) all p i = asks_here M laws given m.took.got h.start old.place old.acting.stack new.reading.window.bytes h.covered win h.line looked.reach looked.state path looked.some looked.so_far i (omega (arith, is)) in
      match_asks path looked x k r asks i (omega (arith, fits, is)) at

  pub match_within : (path : List ℕ) → Looked M old.place old.reading new.reading path → Within
  match_within path looked x k r asks =
      let fits : p.at + looked.reach ≤ length all = inside_here M laws given m.took.got h.start old.place old.acting.stack new.reading.window.bytes h.covered win h.line looked.reach looked.state path looked.some looked.so_far in
      let reached : looked.reach ≤ r = last_asked path looked x k r asks looked.reach refl in
      let before : length old.reading.window.bytes ≡ length given - h.start = ap length h.held ∙ length-drop h.start given in
      few_answers old.reading.at_end new.reading.at_end none_after m.took.end_stays r (omega (arith, size, before, looked.size, reached, longer, h.covered)) (λ told. ends told looked.stops)
    where
      ends : new.reading.at_end ≡ true → ((M.goes_on looked.state ≡ false) × (new.reading.at_end ≡ old.reading.at_end)) ⊎ ((M.goes_on looked.state ≡ true) × (old.place.at + looked.reach ≡ length new.reading.window.bytes) × (new.reading.at_end ≡ true)) →
          (old.reading.at_end ≡ true) ⊎ (length all < p.at + r)
      ends told (inl q) = inl (sym q.1 ∙ told)
      ends told (inr q) =
          let live : AsksAt (rules_of_machine M) all p looked.reach = live_here M laws given m.took.got h.start old.place old.acting.stack new.reading.window.bytes h.covered win h.line looked.reach looked.state path looked.some looked.so_far q.0 in
          let fits : p.at + looked.reach ≤ length all = inside_here M laws given m.took.got h.start old.place old.acting.stack new.reading.window.bytes h.covered win h.line looked.reach looked.state path looked.some looked.so_far in
          let less : looked.reach < r = match_asks path looked x k r asks looked.reach fits live in
          inr (omega (arith, size, q.1, fits, less))

  pub match_front : (path : List ℕ) → Looked M old.place old.reading new.reading path →
      (cut : CutAll M wrote t t' new.reading.window.bytes old.place.at (matches_of M new.reading.window.bytes old.place.at path) (conditions_at old)) → Fronts cut.out
  match_front path looked cut =
      let w : List ℕ = new.reading.window.bytes in
      let q = good M laws old.place w looked.reach looked.state path looked.some looked.so_far [] (conditions_at old) in
      let is : outcome M w old.place.at (matches_of M w old.place.at path) [] (conditions_at old) ≡ Some q.0 = seen_outcome M laws old.place w looked.reach looked.state path looked.some looked.so_far [] (conditions_at old) ∙ q.1 in
      let ahead = seen_here M laws given m.took.got h.start old.place old.acting.stack w h.covered win h.line looked.reach looked.state path looked.some looked.so_far q.0 is in
      let wrote_all : BeginsWith ahead.0.outcome.written cut.out = subst (λ (z : Scan.Acting). BeginsWith z.written cut.out) (sym ahead.1) (cut.front [] q.0 is) in
      (λ x k v e run.
      let split = with_rest (given ++ m.took.got) new.reading.at_end x k.1 in
      part_begins (rules_of_machine M) x n (state_of out h.start old) (seen_turn (record { start = h.start; at = h.start + old.place.at; condition = old.place.condition; stack = old.acting.stack }) ahead.0.outcome) cut.out v e (turns_before x k) (ap ending_of going)
      (inl (subst (λ y. Run.MatchTurn (rules_of_machine M) y (record { start = h.start; at = h.start + old.place.at; condition = old.place.condition; stack = old.acting.stack }) (seen_turn (record { start = h.start; at = h.start + old.place.at; condition = old.place.condition; stack = old.acting.stack }) ahead.0.outcome)) (sym split.1)
      (seen_match (rules_of_machine M) (machine_laws M laws) (given ++ m.took.got) split.0 (record { start = h.start; at = h.start + old.place.at; condition = old.place.condition; stack = old.acting.stack }) looked.reach ahead.0 (subst IsText split.1 k.0)
      (enough x k split.0 split.1 looked.stops)))) wrote_all run)
    where
      enough : (x : List ℕ) → Consistent (given ++ m.took.got) new.reading.at_end x → (rest : List ℕ) → x ≡ (given ++ m.took.got) ++ rest →
          ((M.goes_on looked.state ≡ false) × (new.reading.at_end ≡ old.reading.at_end)) ⊎ ((M.goes_on looked.state ≡ true) × (old.place.at + looked.reach ≡ length new.reading.window.bytes) × (new.reading.at_end ≡ true)) →
          (drop looked.reach (drop (h.start + old.place.at) (given ++ m.took.got)) ++ rest ≡ []) ⊎ (AsksAt (rules_of_machine M) (given ++ m.took.got) (record { start = h.start; at = h.start + old.place.at; condition = old.place.condition; stack = old.acting.stack }) looked.reach → ⊥)
      enough x k rest e (inl q) = inr (dead_here M laws given m.took.got h.start old.place old.acting.stack new.reading.window.bytes h.covered win h.line looked.reach looked.state path looked.some looked.so_far q.0)
      enough x k rest e (inr q) =
          let g : List ℕ = given ++ m.took.got in
          let same : x ≡ g = subst (λ b. ExtendsGiven g b x) q.2 k.1 in
          let more : length (g ++ rest) ≡ length g + length rest = length-append g rest in
          let none : rest ≡ [] = nil_from_length rest (omega (arith, ap length (sym e ∙ same), more)) in
          let left : length (drop (h.start + old.place.at) g) ≡ length g - (h.start + old.place.at) = length-drop (h.start + old.place.at) g in
          inl (ap (λ z. drop looked.reach (drop (h.start + old.place.at) g) ++ z) none ∙ append-nil (drop looked.reach (drop (h.start + old.place.at) g)) ∙ drop_all looked.reach (drop (h.start + old.place.at) g) (omega (arith, size, left, q.1)))

  pub refusal : new.failed ≡ true → (error ≡ TooManyReads → Wants M old.place new.reading) → (w : List ℕ) → Fronts w → Within →
      (error ≡ Stack → (r : RunCompleted (rules_of_machine M) (given ++ m.took.got) (out ++ w) new.reading.at_end StackFault) × (r.turns ≡ suc n)) → (IsEarly error → w ≡ []) → AfterRefusal M n given m.took.got (out ++ w) new error
  refusal failed wants w front within fault quiet = record {
    failed = failed;
    end_before = old.reading.at_end;
    refused_turn = record {
      text = is_text_append given m.took.got h.text m.took.text;
      before = state_of out h.start old;
      going = ap ending_of going;
      after = after_before;
      few = few_before old.reading.at_end new.reading.at_end m.took.end_stays;
      kept = (w, refl);
      whole = λ sink stack. sym (append-nil out) ∙ ap (λ z. out ++ z) (sym (quiet (sink, stack)));
      front = front;
      within = λ x k t asked after. all_asked within x k t asked (turns_before x k) after;
      more = λ is t asked after. beyond (wants is) t asked after;
    };
    held = sym win;
    taken = m.took.taken ∙ ap (λ k. k + length m.took.got) h.taken ∙ sym longer;
    fault = λ is. (fault is).0;
    at_once = λ is. (fault is).1;
  }
    where
      few_before : (a b : Bool) → (a ≡ true → b ≡ true) → answers given a ≤ answers all b
      few_before true true stays = omega (arith, longer)
      few_before false true stays = omega (arith, longer)
      few_before false false stays = omega (arith, longer)
      few_before true false stays = absurd (let no : false ≡ true = stays refl in cc)

      all_asked : Within → (x : List ℕ) → Consistent all new.reading.at_end x → (t : Run.State) (asked : ℕ) → Turns (rules_of_machine M) x n (state_of out h.start old) → AfterTurns (rules_of_machine M) x (suc n) t asked → answers all new.reading.at_end ≤ asked
      all_asked within x k t asked turns after =
          let (before, was, r, asks, is) = last_asks (rules_of_machine M) x n (state_of out h.start old) t asked turns (ap ending_of going) after in
          let one : before ≡ answers given old.reading.at_end = (one_after (rules_of_machine M) x n (state_of out h.start old) (state_of out h.start old) before (answers given old.reading.at_end) was (after_before x k)).1 in
          let le = within x k r asks in
          omega (arith, le, one, is)

      beyond : Wants M old.place new.reading → (t : Run.State) (asked : ℕ) → AfterTurns (rules_of_machine M) all (suc n) t asked → suc (answers all new.reading.at_end) ≤ asked
      beyond wants t asked after =
          let k : Consistent all new.reading.at_end all = (is_text_append given m.took.got h.text m.took.text, just_these all new.reading.at_end) in
          let last = last_asks (rules_of_machine M) all n (state_of out h.start old) t asked (turns_before all k) (ap ending_of going) after in
          let more : length all < p.at + last.2 = wants_beyond wants all k last.2 last.3 in
          let is = last.4 in
          subst (λ b. suc (answers all b) ≤ asked) (sym wants.reading) (omega (arith, more, is))
