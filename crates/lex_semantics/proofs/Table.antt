-- A machine for a specification has its turns, and asks for the same bytes.
use Rattle.std.proofs.Common.{◌≡◌, ℕ, zero, suc, ◌≤◌, ◌<◌, Bool, true, false, List, [], ◌∷◌, ◌++◌, length, take, drop, ◌⊎◌, inl, inr, ◌↔◌, Option, Some, None, refl, sym, ◌∙◌, ap, subst, arith}
use Rattle.std.specs.Prelude.{slice_get, nat_lt, if◌then◌else◌}
use Rattle.std.proofs.lemmas.Bool.{cond-true, cond-false, lt-ltb, le-ltb, or_parts, cases_lt}
use Rattle.lex_semantics.proofs.After.{turns_of}
use Rattle.lex_semantics.proofs.ResultsAre.{results_are}
use Rattle.lex_semantics.specs.Text.{IsText, Among, AllBelow, part, at_line_start}
use Rattle.lex_semantics.specs.Spec.{Spec, Rule, Statement, Echo, Print, Begin, More, Less, Reject, End, Push, Pop, has_reject, EndAction, statements_at, rejects, any_reject}
use Rattle.lex_semantics.specs.Rules.{Rules, Full, rules_of, statements_of}
use Rattle.lex_semantics.specs.Candidates.{Candidate, Before, IsCandidate, Candidates}
use Rattle.lex_semantics.specs.Acting.{Ending, Status, StackFault, Acting}
use Rattle.lex_semantics.specs.ActionResults.{ActionResult, Done, Again, Over, act_result, has_room, popped, settle, perform_results}
use Rattle.lex_semantics.specs.Run.{Place, State, Turn, MatchTurn, EndTurn, NextFrom, Turns, Run}
use Rattle.lex_semantics.specs.Demand.{AsksAt, Asks, AsksFrom}
use Rattle.lex_semantics.specs.Scanned.{AfterTurns}
use Rattle.lex_semantics.specs.Machine.{Machine, MachineFits, rules_of_machine, Keeps}
use Rattle.lex_semantics.specs.Reports.{HasFit}
use Rattle.lex_semantics.specs.Sound.{IsSound}
use Rattle.lex_semantics.proofs.Actions.{BeginsBelow, begins_below}
use Rattle.lex_semantics.proofs.Texts.{is_text_take, is_text_drop}
use Rattle.lex_semantics.proofs.Once.{same_order, same_heads}
use Rattle.lex_semantics.proofs.Local.{settle_same}
use Rattle.lex_semantics.proofs.Cuts.{cut_keeps, keeps_one}
use Rattle.lex_semantics.proofs.Exists.{candidates_exist}
use Rattle.lex_semantics.specs.Fits.{Fits}
use Rattle.lex_semantics.specs.TableFor.{TableFor, Accepted}

-- R has the matches of Q: all of them, or of each word the first alone, where no rule has REJECT.
abbrev pub HasMatches : Bool → Rules → Rules → Type 0
HasMatches true R Q = (c : ℕ) (line_start : Bool) (w : List ℕ) (i k : ℕ) → c < Q.conditions → IsText w → Q.full c line_start w i k → R.full c line_start w i k
HasMatches false R Q =
    ((c : ℕ) (line_start : Bool) (w : List ℕ) (i k : ℕ) → c < Q.conditions → IsText w → Q.full c line_start w i k → ((j l : ℕ) → j < i → Q.full c line_start w j l → ⊥) → R.full c line_start w i k)
    × ((i : ℕ) → i < Q.count → has_reject (Q.statements i) ≡ false)

pub record Alike (all : Bool) (R Q : Rules) : Type 0 where
  pub count : R.count ≡ Q.count
  pub statements : (i : ℕ) → i < Q.count → R.statements i ≡ Q.statements i
  pub begins : (i : ℕ) → i < Q.count → BeginsBelow Q.conditions (Q.statements i)
  pub ending : (c : ℕ) → c < Q.conditions → R.ending c ≡ Q.ending c
  pub some_condition : 1 ≤ Q.conditions
  pub live : (c : ℕ) (line_start : Bool) (w : List ℕ) → c < Q.conditions → IsText w → R.live c line_start w ↔ Q.live c line_start w
  pub full : (c : ℕ) (line_start : Bool) (w : List ℕ) (i k : ℕ) → c < Q.conditions → IsText w → R.full c line_start w i k → Q.full c line_start w i k
  pub matches : HasMatches all R Q
  pub exist : (c : ℕ) (line_start : Bool) (y : List ℕ) → (ms : List Candidate) × Candidates Q c line_start y ms

-- actions

full_quiet : (b : Bool) (a : Acting) (w : ActionResult) (f g : Acting → Option Acting) → settle w f ≡ settle w g → settle (if b then w else Over a StackFault) f ≡ settle (if b then w else Over a StackFault) g
full_quiet true a w f g h = h
full_quiet false a w f g h = refl

empty_quiet : (cs : List ℕ) (a : Acting) (next : ℕ → List ℕ → ActionResult) (f g : Acting → Option Acting) → ((c : ℕ) (rest : List ℕ) → settle (next c rest) f ≡ settle (next c rest) g) → settle (popped cs a next) f ≡ settle (popped cs a next) g
empty_quiet [] a next f g h = refl
empty_quiet (c ∷ cs) a next f g h = h c cs

settle_quiet : (ss : List Statement) (a : Acting) (f g : Acting → Option Acting) → has_reject ss ≡ false → settle (act_result ss a) f ≡ settle (act_result ss a) g
settle_quiet [] a f g h = refl
settle_quiet (Echo ∷ ss) a f g h = settle_quiet ss (record a { written = a.written ++ a.text }) f g h
settle_quiet (Print s ∷ ss) a f g h = settle_quiet ss (record a { written = a.written ++ s }) f g h
settle_quiet (Begin d ∷ ss) a f g h = settle_quiet ss (record a { condition = d }) f g h
settle_quiet (More ∷ ss) a f g h = settle_quiet ss (record a { more = true }) f g h
settle_quiet (Less n ∷ ss) a f g h = settle_quiet ss (record a { text = take n a.text }) f g h
settle_quiet (Reject ∷ ss) a f g h = absurd (no h)
  where
    no : true ≡ false → ⊥
    no p = cc
settle_quiet (End s ∷ ss) a f g h = refl
settle_quiet (Push d ∷ ss) a f g h =
    full_quiet (has_room a.stack) a (act_result ss (record a { condition = d; stack = a.condition ∷ a.stack })) f g (settle_quiet ss (record a { condition = d; stack = a.condition ∷ a.stack }) f g h)
settle_quiet (Pop ∷ ss) a f g h =
    empty_quiet a.stack a (λ c cs. act_result ss (record a { condition = c; stack = cs })) f g (λ c cs. settle_quiet ss (record a { condition = c; stack = cs }) f g h)

-- a condition and a stack
abbrev pub Below : ℕ → ℕ → List ℕ → Type 0
Below n c cs = (c < n) × AllBelow n cs

-- the conditions that an action leaves
abbrev pub ResultBelow : ℕ → ActionResult → Type 0
ResultBelow n (Done a) = Below n a.condition a.stack
ResultBelow n (Again a) = Below n a.condition a.stack
ResultBelow n (Over a e) = Below n a.condition a.stack

full_below : (n : ℕ) (b : Bool) (a : Acting) (w : ActionResult) → Below n a.condition a.stack → ResultBelow n w → ResultBelow n (if b then w else Over a StackFault)
full_below n true a w h k = k
full_below n false a w h k = h

empty_below : (n : ℕ) (cs : List ℕ) (a : Acting) (next : ℕ → List ℕ → ActionResult) → Below n a.condition a.stack → AllBelow n cs → ((c : ℕ) (rest : List ℕ) → Below n c rest → ResultBelow n (next c rest)) →
    ResultBelow n (popped cs a next)
empty_below n [] a next h all k = h
empty_below n (c ∷ cs) a next h all k = k c cs all

pub act_below : (n : ℕ) (ss : List Statement) (a : Acting) → Below n a.condition a.stack → BeginsBelow n ss → ResultBelow n (act_result ss a)
act_below n [] a h k = h
act_below n (Echo ∷ ss) a h k = act_below n ss (record a { written = a.written ++ a.text }) h k
act_below n (Print s ∷ ss) a h k = act_below n ss (record a { written = a.written ++ s }) h k
act_below n (Begin d ∷ ss) a h k = act_below n ss (record a { condition = d }) (k.0, h.1) k.1
act_below n (More ∷ ss) a h k = act_below n ss (record a { more = true }) h k
act_below n (Less m ∷ ss) a h k = act_below n ss (record a { text = take m a.text }) h k
act_below n (Reject ∷ ss) a h k = h
act_below n (End s ∷ ss) a h k = h
act_below n (Push d ∷ ss) a h k =
    full_below n (has_room a.stack) a (act_result ss (record a { condition = d; stack = a.condition ∷ a.stack })) h (act_below n ss (record a { condition = d; stack = a.condition ∷ a.stack }) (k.0, h) k.1)
act_below n (Pop ∷ ss) a h k =
    empty_below n a.stack a (λ c cs. act_result ss (record a { condition = c; stack = cs })) h h.1 (λ c cs below. act_below n ss (record a { condition = c; stack = cs }) below k)

settle_below : (n : ℕ) (w : ActionResult) (f : Acting → Option Acting) (o : Acting) → ResultBelow n w → ((a : Acting) → Below n a.condition a.stack → f a ≡ Some o → Below n o.condition o.stack) →
    settle w f ≡ Some o → Below n o.condition o.stack
settle_below n (Done a) f o h later e = let same : record a { ended = None } ≡ o = cc in subst (λ (z : Acting). Below n z.condition z.stack) same h
settle_below n (Again a) f o h later e = later a h e
settle_below n (Over a d) f o h later e = let same : record a { ended = Some d } ≡ o = cc in subst (λ (z : Acting). Below n z.condition z.stack) same h

-- the statements of a rule, and the default rule's
statements_below : (R : Rules) (i : ℕ) → ((j : ℕ) → j < R.count → BeginsBelow R.conditions (R.statements j)) → (i < R.count) ⊎ (R.count ≤ i) → BeginsBelow R.conditions (statements_of R i)
statements_below R i h (inl lt) = subst (BeginsBelow R.conditions) (sym (cond-true (nat_lt i R.count) (R.statements i) (Echo ∷ []) (lt-ltb i R.count lt))) (h i lt)
statements_below R i h (inr le) = subst (BeginsBelow R.conditions) (sym (cond-false (nat_lt i R.count) (R.statements i) (Echo ∷ []) (le-ltb i R.count le))) tt

pub perform_below : (R : Rules) → ((j : ℕ) → j < R.count → BeginsBelow R.conditions (R.statements j)) → (kept y : List ℕ) (ms : List Candidate) (out : List ℕ) (c : ℕ) (cs : List ℕ) (o : Acting) →
    Below R.conditions c cs → perform_results R kept y ms out c cs ≡ Some o → Below R.conditions o.condition o.stack
unfolding perform_results
perform_below R h kept y [] out c cs o lt e = absurd (no e)
  where
    no : None ≡ Some o → ⊥
    no p = cc
perform_below R h kept y (m ∷ ms) out c cs o lt e =
    let a : Acting = record { text = kept ++ take m.keep y; written = out; condition = c; stack = cs; more = false; ended = None } in
    settle_below R.conditions (act_result (statements_of R m.rule) a) (λ b. perform_results R kept y ms b.written b.condition b.stack) o
    (act_below R.conditions (statements_of R m.rule) a lt (statements_below R m.rule h (cases_lt m.rule R.count)))
    (λ b below p. perform_below R h kept y ms b.written b.condition b.stack o below p) e

module _ (all : Bool) (R Q : Rules) (alike : Alike all R Q) where
  pub same_statements : (i : ℕ) → statements_of R i ≡ statements_of Q i
  same_statements i = from (cases_lt i Q.count)
    where
      from : (i < Q.count) ⊎ (Q.count ≤ i) → statements_of R i ≡ statements_of Q i
      from (inl lt) =
          cond-true (nat_lt i R.count) (R.statements i) (Echo ∷ []) (lt-ltb i R.count (omega (arith, alike.count))) ∙ alike.statements i lt
          ∙ sym (cond-true (nat_lt i Q.count) (Q.statements i) (Echo ∷ []) (lt-ltb i Q.count lt))
      from (inr le) =
          cond-false (nat_lt i R.count) (R.statements i) (Echo ∷ []) (le-ltb i R.count (omega (arith, alike.count)))
          ∙ sym (cond-false (nat_lt i Q.count) (Q.statements i) (Echo ∷ []) (le-ltb i Q.count le))

  -- matches of R are matches of Q
  pub full_to : (c : ℕ) (line_start : Bool) (w : List ℕ) (i k : ℕ) → c < Q.conditions → IsText w → Full R c line_start w i k → Full Q c line_start w i k
  full_to c line_start w i k lt text (inl h) = inl (omega (arith, h.0, alike.count), alike.full c line_start w i k lt text h.1)
  full_to c line_start w i k lt text (inr h) = inr (h.0 ∙ alike.count, h.1, h.2)

  pub candidate_to : (c : ℕ) (line_start : Bool) (y : List ℕ) (m : Candidate) → c < Q.conditions → IsText y → IsCandidate R c line_start y m → IsCandidate Q c line_start y m
  candidate_to c line_start y m lt text h = (h.0, full_to c line_start (take m.len y) m.rule m.keep lt (is_text_take m.len y text) h.1)

same_perform : (all : Bool) (R Q : Rules) (alike : Alike all R Q) (kept y : List ℕ) (ms : List Candidate) (out : List ℕ) (d : ℕ) (cs : List ℕ) → perform_results R kept y ms out d cs ≡ perform_results Q kept y ms out d cs
unfolding perform_results
same_perform all R Q alike kept y [] out d cs = refl
same_perform all R Q alike kept y (m ∷ ms) out d cs =
    let a : Acting = record { text = kept ++ take m.keep y; written = out; condition = d; stack = cs; more = false; ended = None } in
    ap (λ ss. settle (act_result ss a) (λ b. perform_results R kept y ms b.written b.condition b.stack)) (same_statements all R Q alike m.rule)
    ∙ settle_same (act_result (statements_of Q m.rule) a) (λ b. perform_results R kept y ms b.written b.condition b.stack) (λ b. perform_results Q kept y ms b.written b.condition b.stack)
    (λ b. same_perform all R Q alike kept y ms b.written b.condition b.stack)

quiet_statements : (Q : Rules) → ((i : ℕ) → i < Q.count → has_reject (Q.statements i) ≡ false) → (i : ℕ) → (i < Q.count) ⊎ (Q.count ≤ i) → has_reject (statements_of Q i) ≡ false
quiet_statements Q h i (inl lt) = ap has_reject (cond-true (nat_lt i Q.count) (Q.statements i) (Echo ∷ []) (lt-ltb i Q.count lt)) ∙ h i lt
quiet_statements Q h i (inr le) = ap has_reject (cond-false (nat_lt i Q.count) (Q.statements i) (Echo ∷ []) (le-ltb i Q.count le))

-- the first match decides, where no rule has REJECT
head_performed : (R Q : Rules) (alike : Alike false R Q) (kept y : List ℕ) (m : Candidate) (ms ns : List Candidate) (out : List ℕ) (d : ℕ) (cs : List ℕ) →
    perform_results R kept y (m ∷ ms) out d cs ≡ perform_results Q kept y (m ∷ ns) out d cs
unfolding perform_results
head_performed R Q alike kept y m ms ns out d cs =
    let a : Acting = record { text = kept ++ take m.keep y; written = out; condition = d; stack = cs; more = false; ended = None } in
    ap (λ ss. settle (act_result ss a) (λ b. perform_results R kept y ms b.written b.condition b.stack)) (same_statements false R Q alike m.rule)
    ∙ settle_quiet (statements_of Q m.rule) a (λ b. perform_results R kept y ms b.written b.condition b.stack) (λ b. perform_results Q kept y ns b.written b.condition b.stack)
    (quiet_statements Q alike.matches.1 m.rule (cases_lt m.rule Q.count))

candidate_from : (R Q : Rules) (alike : Alike true R Q) (c : ℕ) (line_start : Bool) (y : List ℕ) (m : Candidate) → c < Q.conditions → IsText y → IsCandidate Q c line_start y m → IsCandidate R c line_start y m
candidate_from R Q alike c line_start y m lt text h = (h.0, from h.1)
  where
    from : Full Q c line_start (take m.len y) m.rule m.keep → Full R c line_start (take m.len y) m.rule m.keep
    from (inl f) = inl (omega (arith, f.0, alike.count), alike.matches c line_start (take m.len y) m.rule m.keep lt (is_text_take m.len y text) f.1)
    from (inr f) = inr (f.0 ∙ sym alike.count, f.1, f.2)

-- the first match of Q is one of R
first_from : (R Q : Rules) (alike : Alike false R Q) (c : ℕ) (line_start : Bool) (y : List ℕ) (n : Candidate) (ns : List Candidate) → c < Q.conditions → IsText y →
    Candidates Q c line_start y (n ∷ ns) → IsCandidate R c line_start y n
first_from R Q alike c line_start y n ns lt text h = (own.0, from own.1)
  where
    own : IsCandidate Q c line_start y n
    own = (h.members n).0 (inl refl)

    not_after : (q : Candidate) → q.len ≡ n.len → q.rule < n.rule → Among (n ∷ ns) q → ⊥
    not_after q len less (inl e) = let same : q.rule ≡ n.rule = ap (λ (z : Candidate). z.rule) e in omega arith
    not_after q len less (inr k) = let b : Before n q = h.in_order.0 q k in omega arith

    from : Full Q c line_start (take n.len y) n.rule n.keep → Full R c line_start (take n.len y) n.rule n.keep
    from (inr f) = inr (f.0 ∙ sym alike.count, f.1, f.2)
    from (inl f) = inl (omega (arith, f.0, alike.count), alike.matches.0 c line_start (take n.len y) n.rule n.keep lt (is_text_take n.len y text) f.1 none)
      where
        none : (j l : ℕ) → j < n.rule → Q.full c line_start (take n.len y) j l → ⊥
        none j l less g =
            let q : Candidate = record { len = n.len; rule = j; keep = l } in
            not_after q refl less ((h.members q).1 ((own.0, inl (omega (arith, less, f.0), g))))

nothing_performed : (R : Rules) (kept y : List ℕ) (d : ℕ) (cs : List ℕ) (o : Acting) → perform_results R kept y [] [] d cs ≡ Some o → ⊥
unfolding perform_results
nothing_performed R kept y d cs o e = no e
  where
    no : None ≡ Some o → ⊥
    no p = cc

performed_to : (all : Bool) (R Q : Rules) (alike : Alike all R Q) (c : ℕ) (line_start : Bool) (kept y : List ℕ) (ms ns : List Candidate) (d : ℕ) (cs : List ℕ) (o : Acting) → c < Q.conditions → IsText y →
    Candidates R c line_start y ms → Candidates Q c line_start y ns → perform_results R kept y ms [] d cs ≡ Some o → perform_results Q kept y ns [] d cs ≡ Some o
performed_to true R Q alike c line_start kept y ms ns d cs o lt text p q e =
    let same : ms ≡ ns = same_order ms ns p.in_order q.in_order (λ m. (
      λ a. (q.members m).1 (candidate_to true R Q alike c line_start y m lt text ((p.members m).0 a)),
      λ a. (p.members m).1 (candidate_from R Q alike c line_start y m lt text ((q.members m).0 a)),
    )) in
    ap (λ z. perform_results Q kept y z [] d cs) (sym same) ∙ sym (same_perform true R Q alike kept y ms [] d cs) ∙ e
performed_to false R Q alike c line_start kept y [] ns d cs o lt text p q e = absurd (nothing_performed R kept y d cs o e)
performed_to false R Q alike c line_start kept y (m ∷ ms) [] d cs o lt text p q e = absurd ((q.members m).1 (candidate_to false R Q alike c line_start y m lt text ((p.members m).0 (inl refl))))
performed_to false R Q alike c line_start kept y (m ∷ ms) (n ∷ ns) d cs o lt text p q e =
    let m_in : Among (n ∷ ns) m = (q.members m).1 (candidate_to false R Q alike c line_start y m lt text ((p.members m).0 (inl refl))) in
    let n_in : Among (m ∷ ms) n = (p.members n).1 (first_from R Q alike c line_start y n ns lt text q) in
    let same : m ≡ n = same_heads m n ms ns p.in_order q.in_order m_in n_in in
    ap (λ z. perform_results Q kept y (z ∷ ns) [] d cs) (sym same) ∙ sym (head_performed R Q alike kept y m ms ns [] d cs) ∙ e

-- turns

-- the conditions of a place are in range
abbrev pub PlaceBelow : Rules → Place → Type 0
PlaceBelow Q p = Below Q.conditions p.condition p.stack

-- where a turn leads, the conditions are in range
abbrev pub Leads : Rules → List ℕ → Place → State → Type 0
Leads Q x p s = Turn Q x p s × PlaceBelow Q s.place

match_to : (all : Bool) (R Q : Rules) (alike : Alike all R Q) (x : List ℕ) (p : Place) (s : State) → IsText x → PlaceBelow Q p → MatchTurn R x p s → Leads Q x p s
match_to all R Q alike x p s text lt h =
    let line_start : Bool = at_line_start x p.at in
    let y : List ℕ = drop p.at x in
    let listed = alike.exist p.condition line_start y in
    let done : perform_results Q (part x p.start p.at) y listed.0 [] p.condition p.stack ≡ Some h.outcome =
    performed_to all R Q alike p.condition line_start (part x p.start p.at) y h.matches listed.0 p.condition p.stack h.outcome lt.0 (is_text_drop p.at x text) h.all listed.1 (sym (results_are _ _ _ _ _ _ _) ∙ h.performed) in
    let below = perform_below Q alike.begins (part x p.start p.at) y listed.0 [] p.condition p.stack h.outcome lt done in (
      inl (record { before_end = h.before_end; matches = listed.0; all = listed.1; outcome = h.outcome; performed = results_are _ _ _ _ _ _ _ ∙ done; leaves = h.leaves }),
      subst (λ (z : State). PlaceBelow Q z.place) (sym h.leaves) below,
    )

end_to : (all : Bool) (R Q : Rules) (alike : Alike all R Q) (x : List ℕ) (p : Place) (s : State) → PlaceBelow Q p → EndTurn R x p s → Leads Q x p s
end_to all R Q alike x p s lt h =
    let make : EndAction → State = λ a. record { written = a.print; place = record { start = p.at; at = p.at; condition = p.condition; stack = p.stack }; ended = Some (Status a.status) } in
    (inr (record { at_end = h.at_end; leaves = h.leaves ∙ ap make (alike.ending p.condition lt.0) }), subst (λ (z : State). PlaceBelow Q z.place) (sym h.leaves) lt)

turn_to : (all : Bool) (R Q : Rules) (alike : Alike all R Q) (x : List ℕ) (p : Place) (s : State) → IsText x → PlaceBelow Q p → Turn R x p s → Leads Q x p s
turn_to all R Q alike x p s text lt (inl h) = match_to all R Q alike x p s text lt h
turn_to all R Q alike x p s text lt (inr h) = end_to all R Q alike x p s lt h

next_to : (all : Bool) (R Q : Rules) (alike : Alike all R Q) (x : List ℕ) (s t : State) (e : Option Ending) → IsText x → PlaceBelow Q s.place → NextFrom R x s e t →
    NextFrom Q x s e t × PlaceBelow Q t.place
next_to all R Q alike x s t (Some e) text lt h = (h, subst (λ (z : State). PlaceBelow Q z.place) (sym h) lt)
next_to all R Q alike x s t None text lt (u, turn, is) =
    let k = turn_to all R Q alike x s.place u text lt turn in
    ((u, k.0, is), subst (λ (z : State). PlaceBelow Q z.place) (sym is) k.1)

-- n turns of R are n turns of Q
pub turns_to : (all : Bool) (R Q : Rules) (alike : Alike all R Q) (x : List ℕ) (n : ℕ) (s : State) → IsText x → Turns R x n s → Turns Q x n s × PlaceBelow Q s.place
turns_to all R Q alike x zero s text h = (h, subst (λ (z : State). PlaceBelow Q z.place) (sym h) (alike.some_condition, tt))
turns_to all R Q alike x (suc n) s text (b, h, next) =
    let ih = turns_to all R Q alike x n b text h in
    let k = next_to all R Q alike x b s b.ended text ih.1 next in
    ((b, ih.0, k.0), k.1)

-- what they ask for

module _ (all : Bool) (R Q : Rules) (alike : Alike all R Q) (x : List ℕ) (text : IsText x) where
  pub asks_to : (p : Place) (i : ℕ) → p.condition < Q.conditions → AsksAt R x p i → AsksAt Q x p i
  asks_to p i lt (inl e) = inl e
  asks_to p i lt (inr h) = inr ((alike.live p.condition (at_line_start x p.at) (take i (drop p.at x)) lt (is_text_take i (drop p.at x) (is_text_drop p.at x text))).0 h)

  pub asks_from : (p : Place) (i : ℕ) → p.condition < Q.conditions → AsksAt Q x p i → AsksAt R x p i
  asks_from p i lt (inl e) = inl e
  asks_from p i lt (inr h) = inr ((alike.live p.condition (at_line_start x p.at) (take i (drop p.at x)) lt (is_text_take i (drop p.at x) (is_text_drop p.at x text))).1 h)

  pub reach_to : (p : Place) (r : ℕ) → p.condition < Q.conditions → Asks R x p r → Asks Q x p r
  reach_to p r lt h i = (λ less. (let k = (h i).0 less in (k.0, asks_to p i lt k.1)), λ (fits, a). (h i).1 (fits, asks_from p i lt a))

  asks_from_to : (p : Place) (e : Option Ending) (f g : ℕ) → p.condition < Q.conditions → AsksFrom R x p e f g → AsksFrom Q x p e f g
  asks_from_to p (Some e) f g lt h = h
  asks_from_to p None f g lt (r, asks, is) = (r, reach_to p r lt asks, is)

  -- how a scan over R stands is how one over Q stands
  pub after_to : (n : ℕ) (s : State) (asked : ℕ) → AfterTurns R x n s asked → AfterTurns Q x n s asked
  after_to zero s asked h = h
  after_to (suc n) s asked (b, f, h, next, asks) =
      let k = turns_to all R Q alike x n b text (turns_of R x n b f h) in
      (b, f, after_to n b f h, (next_to all R Q alike x b s b.ended text k.1 next).0, asks_from_to b.place b.ended f asked k.1.0 asks)

  pub run_to : (w : List ℕ) (d : Ending) → Run R x w d → Run Q x w d
  run_to w d (n, p, h) = (n, p, (turns_to all R Q alike x n (record { written = w; place = p; ended = Some d }) text h).0)

-- a machine for a specification

no_reject_at : (rs : List Rule) (i : ℕ) → any_reject rs ≡ false → has_reject (statements_at (slice_get rs i)) ≡ false
no_reject_at [] i h = refl
no_reject_at (r ∷ rs) zero h = (or_parts (has_reject r.statements) (any_reject rs) h).0
no_reject_at (r ∷ rs) (suc i) h = no_reject_at rs i (or_parts (has_reject r.statements) (any_reject rs) h).1

pub get_at : {X : Type 0} (xs : List X) (i : ℕ) → i < length xs → (x : X) × (slice_get xs i ≡ Some x)
get_at [] i h = absurd (omega (arith, h))
get_at (x ∷ xs) zero h = (x, refl)
get_at (x ∷ xs) (suc i) h = get_at xs i (omega (arith, h))

module _ (M : Machine) (S : Spec) (sound : IsSound S) (table : TableFor M S) where
  -- a word that fits some text, and what the cut keeps
  fit_kept : (c : ℕ) (line_start : Bool) (w : List ℕ) (i k : ℕ) → Keeps (M.cut i) (length w) k → HasFit S c line_start w i → Fits S c line_start w i k
  fit_kept c line_start w i k keeps (l, fits) =
      let cut : M.cut i ≡ fits.rule.cut = table.cut i fits.rule fits.at in
      let same : l ≡ k = keeps_one fits.rule.cut (length w) l k (cut_keeps S sound c line_start w i l fits.rule fits.at fits) (subst (λ z. Keeps z (length w) k) cut keeps) in
      subst (Fits S c line_start w i) same fits

  kept_fit : (c : ℕ) (line_start : Bool) (w : List ℕ) (i k : ℕ) → Fits S c line_start w i k → Keeps (M.cut i) (length w) k × (1 ≤ length w)
  kept_fit c line_start w i k fits = (
    subst (λ z. Keeps z (length w) k) (sym (table.cut i fits.rule fits.at)) (cut_keeps S sound c line_start w i k fits.rule fits.at fits),
    omega (arith, fits.inside, fits.not_empty),
  )

  machine_full : (c : ℕ) (line_start : Bool) (w : List ℕ) (i k : ℕ) → c < length S.conditions → IsText w → MachineFits M c line_start w i k → Fits S c line_start w i k
  machine_full c line_start w i k lt text h = fit_kept c line_start w i k h.keeps ((table.accepts c line_start w i lt text).0 h.accepted).0

  full_machine : (c : ℕ) (line_start : Bool) (w : List ℕ) (i k : ℕ) → c < length S.conditions → IsText w → Fits S c line_start w i k → Accepted S c line_start w i → MachineFits M c line_start w i k
  full_machine c line_start w i k lt text fits ok =
      let kept = kept_fit c line_start w i k fits in
      record { not_empty = kept.1; accepted = (table.accepts c line_start w i lt text).1 ok; keeps = kept.0 }

  has_matches : (b : Bool) → rejects S ≡ b → HasMatches b (rules_of_machine M) (rules_of S)
  has_matches true e = λ c line_start w i k lt text fits. full_machine c line_start w i k lt text fits ((k, fits), λ no. cc)
  has_matches false e = (
    λ c line_start w i k lt text fits none. full_machine c line_start w i k lt text fits ((k, fits), λ no j less h. none j h.0 less h.1),
    λ i lt. no_reject_at S.rules i e,
  )

  begins_at : (i : ℕ) → i < length S.rules → BeginsBelow (length S.conditions) (statements_at (slice_get S.rules i))
  begins_at i lt = let r = get_at S.rules i lt in subst (λ o. BeginsBelow (length S.conditions) (statements_at o)) (sym r.1) (begins_below (length S.conditions) r.0.statements (sound.rules i r.0 r.1).legal.0.ranges)

  pub table_alike : Alike (rejects S) (rules_of_machine M) (rules_of S)
  table_alike = record {
    count = table.count;
    statements = table.statements;
    begins = begins_at;
    ending = table.ending;
    some_condition = sound.some_condition;
    live = table.goes_on;
    full = machine_full;
    matches = has_matches (rejects S) refl;
    exist = λ c line_start y. (let r = candidates_exist S sound c line_start y in (r.0, r.2));
  }

  -- What is known of a scan over the machine is known of one over the specification.
  pub table_after : (x : List ℕ) (n : ℕ) (s : State) (asked : ℕ) → IsText x → AfterTurns (rules_of_machine M) x n s asked → AfterTurns (rules_of S) x n s asked
  table_after x n s asked text h = after_to (rejects S) (rules_of_machine M) (rules_of S) table_alike x text n s asked h

  -- A run of the machine is the run of the specification.
  pub table_run : (x w : List ℕ) (d : Ending) → IsText x → Run (rules_of_machine M) x w d → Run (rules_of S) x w d
  table_run x w d text h = run_to (rejects S) (rules_of_machine M) (rules_of S) table_alike x text w d h
