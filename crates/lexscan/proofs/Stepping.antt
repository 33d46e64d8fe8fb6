-- One more turn of a scanner: what the code did to the plain state is what the definitions say.
use Rattle.std.proofs.Common.{◌≡◌, ℕ, zero, suc, ◌+◌, ◌-◌, ◌≤◌, Bool, true, false, List, [], ◌∷◌, ◌++◌, length, take, drop, get_or, ◌⊎◌, inl, inr, Option, Some, None, refl, sym, ◌∙◌, ap, subst, arith}
use Rattle.std.specs.Prelude.{nat_eq}
use Rattle.std.proofs.lemmas.List.{append-nil, length-append, length-take-le, length-drop, drop-append-le, drop-drop, get_or-drop, nil_from_length}
use Rattle.lex_semantics.specs.Text.{at_line_start, byte_at}
use Rattle.lex_semantics.specs.Acting as Scan
use Rattle.lex_semantics.specs.Acting.{Ending, Status, StackFault}
use Rattle.lex_semantics.specs.Run as Run
use Rattle.lex_semantics.specs.Run.{next_start}
use Rattle.lex_semantics.specs.Scanned.{Scanned, Seen, seen_turn, then_turn}
use Rattle.lex_semantics.specs.Machine.{Machine, rules_of_machine}
use Rattle.lex_semantics.specs.MachineLaws.{MachineLaws}
use Rattle.lex_semantics.proofs.MachineLaws.{machine_laws}
use Rattle.lex_semantics.proofs.Texts.{is_text_append}
use Rattle.lex_semantics.proofs.Step.{scanned_match, scanned_match_end, scanned_end, scanned_ended, scanned_first}
use Rattle.lexscan_window.specs.declared.state.TextPlace.{TextPlace}
use Rattle.lexscan_window.specs.declared.state.State.{State}
use Rattle.lexscan.specs.declared.turn.Turn.{Turn}
use Rattle.lexscan_window.specs.Acts.{acting_of}
use Rattle.lexscan_matching.specs.Descends.{conditions_at, ending_of, matches_of, Faulted}
use Rattle.lexscan.specs.TurnSteps.{is_over, TellsEnd, MatchStep, EndStep}
use Rattle.lexscan_window.specs.Places.{stays, next_at, next_bytes}
use Rattle.lexscan_window.specs.Reads.{Took}
use Rattle.lexscan_matching.specs.Looks.{Looked}
use Rattle.lexscan.specs.TurnInvariants.{state_of, TurnInvariant, RunCompleted}
use Rattle.lexscan.proofs.Outcomes.{some_text}
use Rattle.lexscan.proofs.Lifting.{seen_here, dead_here, live_here}

left_place : (ended : Option ℕ) (more : Bool) (start len end at : ℕ) → len ≡ end → at ≡ next_at (stays more (is_over ended)) end → next_start (ending_of ended) more start (start + len) + at ≡ start + len
left_place None true start len end at e f = omega arith
left_place None false start len end at e f = omega arith
left_place (Some s) true start len end at e f = omega arith
left_place (Some s) false start len end at e f = omega arith

dropped : (start len end : ℕ) (g w v : List ℕ) → len ≡ end → drop start g ≡ w → v ≡ drop end w → v ≡ drop (start + len) g
dropped start len end g w v e win f = f ∙ ap (drop end) (sym win) ∙ drop-drop end start g ∙ ap (λ k. drop (start + k) g) (sym e)

left_held : (ended : Option ℕ) (more : Bool) (start len end : ℕ) (g w v : List ℕ) → len ≡ end → drop start g ≡ w → v ≡ next_bytes (stays more (is_over ended)) end w → v ≡ drop (next_start (ending_of ended) more start (start + len)) g
left_held None true start len end g w v e win f = f ∙ sym win
left_held None false start len end g w v e win f = dropped start len end g w v e win f
left_held (Some s) true start len end g w v e win f = dropped start len end g w v e win f
left_held (Some s) false start len end g w v e win f = dropped start len end g w v e win f

byte_get : (x : List ℕ) (i : ℕ) → byte_at x i ≡ get_or x i 0
byte_get [] i = refl
byte_get (b ∷ x) zero = refl
byte_get (b ∷ x) (suc i) = byte_get x i

line_after : (g w : List ℕ) (start end : ℕ) → 1 ≤ end → drop start g ≡ w → nat_eq (get_or w (end - 1) 0) 10 ≡ at_line_start g (start + end)
line_after g w start zero some win = absurd (omega (arith, some))
line_after g w start (suc e) some win =
    let one : suc e - 1 ≡ e = omega arith in
    let next : start + suc e ≡ suc (start + e) = omega arith in
    ap (λ i. nat_eq (get_or w i 0) 10) one ∙ ap (λ z. nat_eq (get_or z e 0) 10) (sym win) ∙ ap (λ b. nat_eq b 10) (get_or-drop start g e 0 ∙ sym (byte_get g (start + e))) ∙ ap (at_line_start g) (sym next)

state_same : (v : List ℕ) (st a b c d : ℕ) (k l : List ℕ) (e f : Option Ending) → a ≡ b → c ≡ d → k ≡ l → e ≡ f →
    ◌≡◌ {A = Run.State} (record { written = v; place = record { start = st; at = a; condition = c; stack = k }; ended = e }) (record { written = v; place = record { start = st; at = b; condition = d; stack = l }; ended = f })
state_same v st a b c d k l e f p q s r = λ i. record { written = v; place = record { start = st; at = p i; condition = q i; stack = s i }; ended = r i }

-- what the turn says
pub ended_is : (by : Option ℕ) (turn : Turn) (ended : Option ℕ) → TellsEnd turn by → ((e : ℕ) → by ≡ Some e → ended ≡ Some e) → (turn ≡ Turn.Went → ended ≡ None) → ended ≡ by
ended_is by Turn.Went ended says over went = went refl ∙ sym says
ended_is by (Turn.Ended s) ended says over went = over s says ∙ sym says

module _ {S K : Type 0} (M : Machine) (laws : MachineLaws M) (gave : S → List ℕ → S → Type 0) (wrote : K → List ℕ → K → Type 0) (s s' : S) (t t' : K) (n : ℕ) (given out : List ℕ) (old new : State) (turn : Turn)
    (going : old.ended ≡ None) (h : TurnInvariant M n given out old) where
  -- a match
  pub matched_stands : (m : MatchStep M gave wrote s s' t t' (record old { failed = true }) new turn) → new.ended ≡ m.acted.ended →
      TurnInvariant M (suc n) (given ++ m.took.got) (out ++ m.acted.performed.out) (record new { failed = false })
  matched_stands m ended =
      let p : TextPlace = old.place in
      let g : List ℕ = given ++ m.took.got in
      let w : List ℕ = m.mid.window.bytes in
      let len : ℕ = length (take m.acted.acting.end w) in
      let same : len ≡ m.acted.acting.end = length-take-le m.acted.acting.end w m.acted.inside in
      let win : drop h.start g ≡ w = drop-append-le h.start given m.took.got (omega (arith, h.covered)) ∙ ap (λ z. z ++ m.took.got) (sym h.held) ∙ sym m.took.held in
      let size : length w ≡ length g - h.start = ap length (sym win) ∙ length-drop h.start g in
      let before : length old.reading.window.bytes ≡ length given - h.start = ap length h.held ∙ length-drop h.start given in
      let longer : length g ≡ length given + length m.took.got = length-append given m.took.got in
      let by : Option ℕ = m.acted.ended in
      let after : Scan.Acting = acting_of w m.acted.acting m.acted.performed.out in
      let o : Scan.Acting = record after { ended = ending_of by } in
      let start : ℕ = next_start (ending_of by) m.acted.acting.more h.start (h.start + len) in
      let place : start + new.place.at ≡ h.start + len = left_place by m.acted.acting.more h.start len m.acted.acting.end new.place.at same m.acted.left.at in
      let ahead = seen_here M laws given m.took.got h.start p old.acting.stack w h.covered win h.line m.looked.reach m.looked.state m.path m.looked.some m.looked.so_far o (m.acted.performed.acts []) in
      let nonempty : 1 ≤ len = some_text M laws p w m.looked.reach m.looked.state m.path m.looked.some m.looked.so_far o [] (conditions_at old) (m.acted.performed.acts []) in
      let some : 1 ≤ m.acted.acting.end = omega arith in
      record {
        works = refl;
        start = start;
        scanned = subst (Scanned (rules_of_machine M) g new.reading.at_end (suc n))
            (ap (λ z. then_turn (state_of out h.start old) (seen_turn (record { start = h.start; at = h.start + p.at; condition = p.condition; stack = old.acting.stack }) z)) ahead.1
            ∙ state_same (out ++ m.acted.performed.out) start (h.start + len) (start + new.place.at) m.acted.acting.condition new.place.condition m.acted.acting.stack new.acting.stack (ending_of by) (ending_of new.ended) (sym place) (sym m.acted.left.condition) (sym m.acted.left.stack) (ap ending_of (sym ended)))
            (over_all win size before longer ahead.0 m.looked.stops);
        text = is_text_append given m.took.got h.text m.took.text;
        covered = omega (arith, place, same, m.acted.inside, size, h.covered, longer);
        held = left_held by m.acted.acting.more h.start len m.acted.acting.end g w new.reading.window.bytes same win m.acted.left.held;
        line = m.acted.left.line (omega arith) ∙ line_after g w h.start m.acted.acting.end some win ∙ ap (λ k. at_line_start g (h.start + k)) (sym same) ∙ ap (at_line_start g) (sym place);
        taken = m.acted.same.taken ∙ m.took.taken ∙ ap (λ k. k + length m.took.got) h.taken ∙ sym longer;
      }
    where
      over_all : drop h.start (given ++ m.took.got) ≡ m.mid.window.bytes → length m.mid.window.bytes ≡ length (given ++ m.took.got) - h.start → length old.reading.window.bytes ≡ length given - h.start →
          length (given ++ m.took.got) ≡ length given + length m.took.got →
          (ahead : Seen (rules_of_machine M) (given ++ m.took.got) (record { start = h.start; at = h.start + old.place.at; condition = old.place.condition; stack = old.acting.stack }) m.looked.reach) →
          ((M.goes_on m.looked.state ≡ false) × (m.mid.at_end ≡ old.reading.at_end)) ⊎ ((M.goes_on m.looked.state ≡ true) × (old.place.at + m.looked.reach ≡ length m.mid.window.bytes) × (m.mid.at_end ≡ true)) →
          Scanned (rules_of_machine M) (given ++ m.took.got) new.reading.at_end (suc n) (then_turn (state_of out h.start old) (seen_turn (record { start = h.start; at = h.start + old.place.at; condition = old.place.condition; stack = old.acting.stack }) ahead.outcome))
      over_all win size before longer ahead (inl k) =
          subst (λ e. Scanned (rules_of_machine M) (given ++ m.took.got) e (suc n) (then_turn (state_of out h.start old) (seen_turn (record { start = h.start; at = h.start + old.place.at; condition = old.place.condition; stack = old.acting.stack }) ahead.outcome))) (sym (m.acted.same.at_end ∙ k.1))
          (scanned_match (rules_of_machine M) (machine_laws M laws) given m.took.got old.reading.at_end n (state_of out h.start old) m.looked.reach (ap ending_of going) h.scanned m.took.nothing ahead
          (dead_here M laws given m.took.got h.start old.place old.acting.stack m.mid.window.bytes h.covered win h.line m.looked.reach m.looked.state m.path m.looked.some m.looked.so_far k.0)
          (omega (arith, size, before, longer, m.looked.size, h.covered)))
      over_all win size before longer ahead (inr k) =
          subst (λ e. Scanned (rules_of_machine M) (given ++ m.took.got) e (suc n) (then_turn (state_of out h.start old) (seen_turn (record { start = h.start; at = h.start + old.place.at; condition = old.place.condition; stack = old.acting.stack }) ahead.outcome))) (sym (m.acted.same.at_end ∙ k.2))
          (scanned_match_end (rules_of_machine M) (machine_laws M laws) given m.took.got old.reading.at_end n (state_of out h.start old) m.looked.reach (ap ending_of going) h.scanned m.took.nothing ahead
          (live_here M laws given m.took.got h.start old.place old.acting.stack m.mid.window.bytes h.covered win h.line m.looked.reach m.looked.state m.path m.looked.some m.looked.so_far k.0)
          (omega (arith, size, longer, k.1, h.covered)))

  -- the end action
  pub finished_stands : (m : EndStep M gave wrote s s' t t' (record old { failed = true }) new turn) →
      TurnInvariant M (suc n) (given ++ m.took.got) (out ++ (M.ending old.place.condition).print) (record new { failed = false })
  finished_stands m =
      let size : length m.mid.window.bytes ≡ length old.reading.window.bytes + length m.took.got = ap length m.took.held ∙ length-append old.reading.window.bytes m.took.got in
      let before : length old.reading.window.bytes ≡ length given - h.start = ap length h.held ∙ length-drop h.start given in
      let none : m.took.got ≡ [] = nil_from_length m.took.got (omega (arith, size, before, m.looked.all, h.covered)) in
      let all : h.start + old.place.at ≡ length given = omega (arith, size, before, m.looked.all, h.covered, ap length none) in
      let same : given ++ m.took.got ≡ given = ap (λ z. given ++ z) none ∙ append-nil given in
      let reads : m.mid.window.bytes ≡ drop h.start given = m.took.held ∙ ap (λ z. old.reading.window.bytes ++ z) none ∙ append-nil old.reading.window.bytes ∙ h.held in
      let last : Run.State = record {
        written = (M.ending old.place.condition).print;
        place = record { start = h.start + old.place.at; at = h.start + old.place.at; condition = old.place.condition; stack = old.acting.stack };
        ended = Some (Status (M.ending old.place.condition).status);
      } in
      let zero : h.start + old.place.at + new.place.at ≡ h.start + old.place.at = omega (arith, m.left.at) in
      subst (λ g. TurnInvariant M (suc n) g (out ++ (M.ending old.place.condition).print) (record new { failed = false })) (sym same) (record {
        works = refl;
        start = h.start + old.place.at;
        scanned = subst (λ e. Scanned (rules_of_machine M) given e (suc n) (state_of (out ++ (M.ending old.place.condition).print) (h.start + old.place.at) new)) (sym (m.left.same.at_end ∙ m.looked.at_end))
            (subst (Scanned (rules_of_machine M) given true (suc n))
            (state_same (out ++ (M.ending old.place.condition).print) (h.start + old.place.at) (h.start + old.place.at) (h.start + old.place.at + new.place.at) old.place.condition new.place.condition old.acting.stack new.acting.stack (Some (Status (M.ending old.place.condition).status)) (ending_of new.ended) (sym zero) (sym m.left.condition) (sym m.left.stack) (sym (ap ending_of m.left.ended)))
            (scanned_end (rules_of_machine M) given old.reading.at_end n (state_of out h.start old) last (ap ending_of going) h.scanned all (record { at_end = all; leaves = refl })));
        text = h.text;
        covered = omega (arith, zero, all);
        held = m.left.held ∙ ap (drop old.place.at) reads ∙ drop-drop old.place.at h.start given;
        line = m.left.line ∙ h.line ∙ ap (at_line_start given) (sym zero);
        taken = m.left.same.taken ∙ m.took.taken ∙ (let z : length m.took.got ≡ 0 = ap length none in omega (arith, h.taken));
      })

-- a fault of the stack
module _ {S K : Type 0} (M : Machine) (laws : MachineLaws M) (gave : S → List ℕ → S → Type 0) (wrote : K → List ℕ → K → Type 0) (s s' : S) (t t' : K) (n : ℕ) (given out : List ℕ) (old new : State)
    (going : old.ended ≡ None) (h : TurnInvariant M n given out old) (took : Took gave s s' old.reading new.reading) where
  over_fault : drop h.start (given ++ took.got) ≡ new.reading.window.bytes → (path : List ℕ) (looked : Looked M old.place old.reading new.reading path) →
      (ahead : Seen (rules_of_machine M) (given ++ took.got) (record { start = h.start; at = h.start + old.place.at; condition = old.place.condition; stack = old.acting.stack }) looked.reach) →
      ((M.goes_on looked.state ≡ false) × (new.reading.at_end ≡ old.reading.at_end)) ⊎ ((M.goes_on looked.state ≡ true) × (old.place.at + looked.reach ≡ length new.reading.window.bytes) × (new.reading.at_end ≡ true)) →
      Scanned (rules_of_machine M) (given ++ took.got) new.reading.at_end (suc n) (then_turn (state_of out h.start old) (seen_turn (record { start = h.start; at = h.start + old.place.at; condition = old.place.condition; stack = old.acting.stack }) ahead.outcome))
  over_fault win path looked ahead (inl k) =
      let size : length new.reading.window.bytes ≡ length (given ++ took.got) - h.start = ap length (sym win) ∙ length-drop h.start (given ++ took.got) in
      let before : length old.reading.window.bytes ≡ length given - h.start = ap length h.held ∙ length-drop h.start given in
      let longer : length (given ++ took.got) ≡ length given + length took.got = length-append given took.got in
      subst (λ e. Scanned (rules_of_machine M) (given ++ took.got) e (suc n) (then_turn (state_of out h.start old) (seen_turn (record { start = h.start; at = h.start + old.place.at; condition = old.place.condition; stack = old.acting.stack }) ahead.outcome))) (sym k.1)
      (scanned_match (rules_of_machine M) (machine_laws M laws) given took.got old.reading.at_end n (state_of out h.start old) looked.reach (ap ending_of going) h.scanned took.nothing ahead
      (dead_here M laws given took.got h.start old.place old.acting.stack new.reading.window.bytes h.covered win h.line looked.reach looked.state path looked.some looked.so_far k.0)
      (omega (arith, size, before, longer, looked.size, h.covered)))
  over_fault win path looked ahead (inr k) =
      let size : length new.reading.window.bytes ≡ length (given ++ took.got) - h.start = ap length (sym win) ∙ length-drop h.start (given ++ took.got) in
      let longer : length (given ++ took.got) ≡ length given + length took.got = length-append given took.got in
      subst (λ e. Scanned (rules_of_machine M) (given ++ took.got) e (suc n) (then_turn (state_of out h.start old) (seen_turn (record { start = h.start; at = h.start + old.place.at; condition = old.place.condition; stack = old.acting.stack }) ahead.outcome))) (sym k.2)
      (scanned_match_end (rules_of_machine M) (machine_laws M laws) given took.got old.reading.at_end n (state_of out h.start old) looked.reach (ap ending_of going) h.scanned took.nothing ahead
      (live_here M laws given took.got h.start old.place old.acting.stack new.reading.window.bytes h.covered win h.line looked.reach looked.state path looked.some looked.so_far k.0)
      (omega (arith, size, longer, k.1, h.covered)))

  pub faulted_ran : (path : List ℕ) (looked : Looked M old.place old.reading new.reading path) →
      (fault : Faulted M wrote t t' new.reading.window.bytes old.place.at (matches_of M new.reading.window.bytes old.place.at path) (conditions_at old)) →
      (r : RunCompleted (rules_of_machine M) (given ++ took.got) (out ++ fault.performed.out) new.reading.at_end StackFault) × (r.turns ≡ suc n)
  faulted_ran path looked fault =
      let w : List ℕ = new.reading.window.bytes in
      let win : drop h.start (given ++ took.got) ≡ w = drop-append-le h.start given took.got (omega (arith, h.covered)) ∙ ap (λ z. z ++ took.got) (sym h.held) ∙ sym took.held in
      let o : Scan.Acting = record (acting_of w fault.acting fault.performed.out) { ended = Some StackFault } in
      let ahead = seen_here M laws given took.got h.start old.place old.acting.stack w h.covered win h.line looked.reach looked.state path looked.some looked.so_far o (fault.performed.acts []) in
      let last : Run.State = then_turn (state_of out h.start old) (seen_turn (record { start = h.start; at = h.start + old.place.at; condition = old.place.condition; stack = old.acting.stack }) ahead.0.outcome) in
      let scanned : Scanned (rules_of_machine M) (given ++ took.got) new.reading.at_end (suc n) last = over_fault win path looked ahead.0 looked.stops in
      let writes : last.written ≡ out ++ fault.performed.out = ap (λ (z : Scan.Acting). out ++ z.written) ahead.1 in
      let ends : last.ended ≡ Some StackFault = ap (λ (z : Scan.Acting). z.ended) ahead.1 in (
        record {
          text = is_text_append given took.got h.text took.text;
          turns = suc n;
          place = last.place;
          scanned = subst (Scanned (rules_of_machine M) (given ++ took.got) new.reading.at_end (suc n)) (λ i. record { written = writes i; place = last.place; ended = ends i }) scanned;
        },
        refl,
      )

-- a turn after the end
pub stays_ended : (M : Machine) (n status : ℕ) (given out : List ℕ) (s : State) → s.ended ≡ Some status → TurnInvariant M n given out s → TurnInvariant M (suc n) (given ++ []) (out ++ []) s
stays_ended M n status given out s is h = rw (append-nil given, append-nil out) (record {
  works = h.works;
  start = h.start;
  scanned = scanned_ended (rules_of_machine M) given s.reading.at_end n (state_of out h.start s) (Status status) (ap ending_of is) h.scanned;
  text = h.text;
  covered = h.covered;
  held = h.held;
  line = h.line;
  taken = h.taken;
})

-- a scanner that has made no turn
pub stands_first : (M : Machine) (s : State) → s.failed ≡ false → s.reading.window.bytes ≡ [] → s.reading.taken ≡ 0 → s.reading.at_end ≡ false → s.place.at ≡ 0 → s.place.line_start ≡ true → s.place.condition ≡ 0 → s.acting.stack ≡ [] → s.ended ≡ None → TurnInvariant M 0 [] [] s
stands_first M s works held taken reading at line condition stack going =
    let zero : 0 ≡ 0 + s.place.at = omega arith in
    let nil : List ℕ = [] in
    record {
      works = works;
      start = 0;
      scanned = subst (λ e. Scanned (rules_of_machine M) [] e 0 (state_of [] 0 s)) (sym reading)
          (subst (Scanned (rules_of_machine M) [] false 0) (state_same [] 0 0 (0 + s.place.at) 0 s.place.condition [] s.acting.stack None (ending_of s.ended) zero (sym condition) (sym stack) (sym (ap ending_of going))) (scanned_first (rules_of_machine M)));
      text = tt;
      covered = omega (arith, at);
      held = held;
      line = line ∙ ap (at_line_start nil) zero;
      taken = taken;
    }
