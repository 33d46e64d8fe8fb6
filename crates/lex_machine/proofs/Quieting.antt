-- A machine in which rules that only REJECT fit no text keeps the laws, and makes the same turns.
use Rattle.std.proofs.Common.{◌≡◌, ℕ, zero, suc, ◌-◌, ◌≤◌, ◌<◌, Bool, true, false, List, [], ◌∷◌, ◌++◌, length, take, drop, ◌⊎◌, inl, inr, Option, Some, None, refl, sym, ◌∙◌, ap, subst, arith}
use Rattle.std.specs.Prelude.{nat_lt, map, if◌then◌else◌}
use Rattle.std.proofs.lemmas.Bool.{cond-true, cond-false, lt-ltb, le-ltb, cases_lt}
use Rattle.lex_semantics.specs.Text.{Among, Pairwise, at_line_start}
use Rattle.lex_semantics.specs.Spec.{Cut, Head, EndAction, Statement, Echo, Print, Begin, More, Less, Reject, End, Push, Pop}
use Rattle.lex_semantics.specs.Legal.{IsAction}
use Rattle.lex_semantics.specs.Rules.{Rules, Full, statements_of}
use Rattle.lex_semantics.specs.Candidates.{Candidate, Before, Candidates}
use Rattle.lex_semantics.specs.Acting.{Ending, Status, Acting}
use Rattle.lex_semantics.specs.ActionResults.{act_result, settle, perform_results}
use Rattle.lex_semantics.specs.Run.{Place, State, MatchTurn, EndTurn, NextFrom, Turns, Run}
use Rattle.lex_semantics.specs.Demand.{AsksAt, AsksFrom}
use Rattle.lex_semantics.specs.Scanned.{AfterTurns}
use Rattle.lex_semantics.specs.Machine.{Machine, Keeps, rules_of_machine}
use Rattle.lex_semantics.specs.MachineLaws.{MachineLaws, StaysBelow}
use Rattle.lex_semantics.specs.ScanLaws.{SameOver}
use Rattle.lex_semantics.proofs.ResultsAre.{results_are}
use Rattle.lex_semantics.proofs.Local.{settle_same}
use Rattle.lex_semantics.proofs.Once.{one_candidates}
use Rattle.lex_semantics.proofs.MachineRun.{machine_candidates_exist}
use Rattle.lex_machine.specs.declared.glance.Gist.{Gist}
use Rattle.lex_machine.specs.declared.glance.Gist.TheVariants as G
use Rattle.lex_machine.specs.Views.{statement_of}
use Rattle.lex_machine.specs.Glances.{are_simple, FirstDoes, Gists}
use Rattle.lex_machine.specs.Quiets.{only_rejects, quiet}

-- the laws

quiet_action : (n : ℕ) (b : Bool) (ss : List Statement) → IsAction n ss → IsAction n (if b then [] else ss)
quiet_action n false ss h = h
quiet_action n true ss h = record { ranges = refl; last = refl; compatible = refl }

pub quiet_laws : (M : Machine) → MachineLaws M → MachineLaws (quiet M)
quiet_laws M laws = record {
  some_condition = laws.some_condition;
  in_range = laws.in_range;
  ascending = laws.ascending;
  dead_stays = laws.dead_stays;
  dead_accepts = laws.dead_accepts;
  goes_on = laws.goes_on;
  legal = λ i lt. quiet_action M.conditions (only_rejects (M.statements i)) (M.statements i) (laws.legal i lt);
}

pub quiet_below : (M : Machine) (n : ℕ) → StaysBelow M n → StaysBelow (quiet M) n
quiet_below M n h = record { dead = h.dead; start = h.start; next = h.next; accepts = h.accepts }

-- what is told at a glance stays

loud_action : (M : Machine) (s : ℕ) (ss : List Statement) → only_rejects ss ≡ false → FirstDoes M s ss → FirstDoes (quiet M) s ss
loud_action M s ss is f = record {
  rule = f.rule;
  others = f.others;
  accepts = f.accepts;
  whole = kept (only_rejects (M.statements f.rule)) (ap only_rejects f.does ∙ is) (M.cut f.rule) ∙ f.whole;
  does = done (only_rejects (M.statements f.rule)) (ap only_rejects f.does ∙ is) (M.statements f.rule) ∙ f.does;
}
  where
    kept : (b : Bool) → b ≡ false → (cut : Cut) → (if b then Head 0 else cut) ≡ cut
    kept false e cut = refl
    kept true e cut = absurd cc

    done : (b : Bool) → b ≡ false → (l : List Statement) → (if b then [] else l) ≡ l
    done false e l = refl
    done true e l = absurd cc

simple_loud : (ss : List Statement) → are_simple ss ≡ true → only_rejects ss ≡ false
simple_loud [] h = refl
simple_loud (Echo ∷ ss) h = refl
simple_loud (Print s ∷ ss) h = refl
simple_loud (Begin d ∷ ss) h = refl
simple_loud (More ∷ ss) h = refl
simple_loud (Less n ∷ ss) h = refl
simple_loud (Reject ∷ ss) h = absurd cc
simple_loud (End s ∷ ss) h = refl
simple_loud (Push d ∷ ss) h = refl
simple_loud (Pop ∷ ss) h = refl

pub quiet_gist : (M : Machine) (s : ℕ) (g : Gist) → Gists M s g → Gists (quiet M) s g
quiet_gist M s G.Any h = h
quiet_gist M s G.NoRule h = h
quiet_gist M s G.Silent h = loud_action M s [] refl h
quiet_gist M s G.Echo h = loud_action M s (Echo ∷ []) refl h
quiet_gist M s (G.Print bytes) h = loud_action M s (Print bytes.now ∷ []) refl h
quiet_gist M s (G.Begin c) h = loud_action M s (Begin c ∷ []) refl h
quiet_gist M s (G.Several ss) h = (h.0, loud_action M s (map statement_of ss.now) (simple_loud (map statement_of ss.now) h.0) h.1)

-- a turn goes over to other rules, where a match does

module _ (R Q : Rules) (x : List ℕ) (match_to : (p : Place) (s : State) → MatchTurn R x p s → MatchTurn Q x p s) (ending : (c : ℕ) → R.ending c ≡ Q.ending c)
    (live_to : (c : ℕ) (line_start : Bool) (w : List ℕ) → R.live c line_start w → Q.live c line_start w)
    (live_from : (c : ℕ) (line_start : Bool) (w : List ℕ) → Q.live c line_start w → R.live c line_start w) where
  turn_to : (p : Place) (s : State) → MatchTurn R x p s ⊎ EndTurn R x p s → MatchTurn Q x p s ⊎ EndTurn Q x p s
  turn_to p s (inl h) = inl (match_to p s h)
  turn_to p s (inr h) = inr (record { at_end = h.at_end; leaves = subst (EndsBy p s) (ending p.condition) h.leaves })
    where
      EndsBy : Place → State → EndAction → Type 0
      EndsBy q t e = t ≡ record { written = e.print; place = record q { start = q.at }; ended = Some (Status e.status) }

  next_to : (s t : State) (e : Option Ending) → NextFrom R x s e t → NextFrom Q x s e t
  next_to s t (Some e) h = h
  next_to s t None (u, turn, is) = (u, turn_to s.place u turn, is)

  turns_to : (n : ℕ) (s : State) → Turns R x n s → Turns Q x n s
  turns_to zero s h = h
  turns_to (suc n) s (b, h, next) = (b, turns_to n b h, next_to b s b.ended next)

  asks_to : (p : Place) (i : ℕ) → AsksAt R x p i → AsksAt Q x p i
  asks_to p i (inl e) = inl e
  asks_to p i (inr h) = inr (live_to p.condition (at_line_start x p.at) (take i (drop p.at x)) h)

  asks_from : (p : Place) (i : ℕ) → AsksAt Q x p i → AsksAt R x p i
  asks_from p i (inl e) = inl e
  asks_from p i (inr h) = inr (live_from p.condition (at_line_start x p.at) (take i (drop p.at x)) h)

  asks_from_to : (p : Place) (e : Option Ending) (f g : ℕ) → AsksFrom R x p e f g → AsksFrom Q x p e f g
  asks_from_to p (Some e) f g h = h
  asks_from_to p None f g (r, asks, is) = (r, λ i. (λ lt. (let k = (asks i).0 lt in (k.0, asks_to p i k.1)), λ (fits, a). (asks i).1 (fits, asks_from p i a)), is)

  after_to : (n : ℕ) (s : State) (asked : ℕ) → AfterTurns R x n s asked → AfterTurns Q x n s asked
  after_to zero s asked h = h
  after_to (suc n) s asked (b, before, h, next, asks) = (b, before, after_to n b before h, next_to b s b.ended next, asks_from_to b.place b.ended before asked asks)

  run_to : (w : List ℕ) (d : Ending) → Run R x w d → Run Q x w d
  run_to w d (n, p, h) = (n, p, turns_to n (record { written = w; place = p; ended = Some d }) h)

-- the matches without those of rules that only REJECT

abbrev if_loud : Bool → Candidate → List Candidate → List Candidate
if_loud true m ms = ms
if_loud false m ms = m ∷ ms

module _ (M : Machine) where
  abbrev silent : Candidate → Bool
  silent m = only_rejects (statements_of (rules_of_machine M) m.rule)

  abbrev loud : List Candidate → List Candidate
  loud [] = []
  loud (m ∷ ms) = if_loud (silent m) m (loud ms)

  among_one : (m n : Candidate) (ms : List Candidate) (b : Bool) → silent m ≡ b → (Among (loud ms) n → Among ms n × (silent n ≡ false)) → Among (if_loud b m (loud ms)) n → Among (m ∷ ms) n × (silent n ≡ false)
  among_one m n ms true is later a = (let k = later a in (inr k.0, k.1))
  among_one m n ms false is later (inl e) = (inl e, ap silent e ∙ is)
  among_one m n ms false is later (inr a) = (let k = later a in (inr k.0, k.1))

  loud_among : (ms : List Candidate) (n : Candidate) → Among (loud ms) n → Among ms n × (silent n ≡ false)
  loud_among [] n h = absurd h
  loud_among (m ∷ ms) n h = among_one m n ms (silent m) refl (loud_among ms n) h

  one_among : (m n : Candidate) (ms : List Candidate) (b : Bool) → silent m ≡ b → silent n ≡ false → (Among ms n → Among (loud ms) n) → Among (m ∷ ms) n → Among (if_loud b m (loud ms)) n
  one_among m n ms true rejects is later (inl e) = absurd (clash (sym rejects ∙ ap silent (sym e) ∙ is))
    where
      clash : true ≡ false → ⊥
      clash p = cc
  one_among m n ms true rejects is later (inr a) = later a
  one_among m n ms false keeps is later (inl e) = inl e
  one_among m n ms false keeps is later (inr a) = inr (later a)

  among_loud : (ms : List Candidate) (n : Candidate) → Among ms n → silent n ≡ false → Among (loud ms) n
  among_loud [] n h is = absurd h
  among_loud (m ∷ ms) n h is = one_among m n ms (silent m) refl is (λ a. among_loud ms n a is) h

  one_order : (m : Candidate) (ms : List Candidate) (b : Bool) → ((n : Candidate) → Among ms n → Before m n) → Pairwise Before (loud ms) → Pairwise Before (if_loud b m (loud ms))
  one_order m ms true h rest = rest
  one_order m ms false h rest = (λ n a. h n (loud_among ms n a).0, rest)

  loud_order : (ms : List Candidate) → Pairwise Before ms → Pairwise Before (loud ms)
  loud_order [] h = h
  loud_order (m ∷ ms) h = one_order m ms (silent m) h.0 (loud_order ms h.1)

  -- of a rule that only rejects no match is kept
  keeps_to : (b : Bool) (cut : Cut) (n k : ℕ) → b ≡ false → Keeps cut n k → Keeps (if b then Head 0 else cut) n k
  keeps_to false cut n k is h = h
  keeps_to true cut n k is h = absurd cc

  keeps_from : (b : Bool) (cut : Cut) (n k : ℕ) → Keeps (if b then Head 0 else cut) n k → (b ≡ false) × Keeps cut n k
  keeps_from false cut n k h = (refl, h)
  keeps_from true cut n k h = absurd (omega (arith, h.1))

  rule_statements : (i : ℕ) → i < M.count → statements_of (rules_of_machine M) i ≡ M.statements i
  rule_statements i lt = cond-true (nat_lt i M.count) (M.statements i) (Echo ∷ []) (lt-ltb i M.count lt)

  default_statements : (i : ℕ) → M.count ≤ i → statements_of (rules_of_machine M) i ≡ Echo ∷ []
  default_statements i le = cond-false (nat_lt i M.count) (M.statements i) (Echo ∷ []) (le-ltb i M.count le)

  full_to : (c : ℕ) (line_start : Bool) (w : List ℕ) (i k : ℕ) → only_rejects (statements_of (rules_of_machine M) i) ≡ false
      → Full (rules_of_machine M) c line_start w i k → Full (rules_of_machine (quiet M)) c line_start w i k
  full_to c line_start w i k is (inl (lt, h)) = inl (
    lt,
    record {
      not_empty = h.not_empty;
      accepted = h.accepted;
      keeps = keeps_to (only_rejects (M.statements i)) (M.cut i) (length w) k (ap only_rejects (sym (rule_statements i lt)) ∙ is) h.keeps;
    },
  )
  full_to c line_start w i k is (inr h) = inr h

  full_from : (c : ℕ) (line_start : Bool) (w : List ℕ) (i k : ℕ) → Full (rules_of_machine (quiet M)) c line_start w i k
      → Full (rules_of_machine M) c line_start w i k × (only_rejects (statements_of (rules_of_machine M) i) ≡ false)
  full_from c line_start w i k (inl (lt, h)) =
      let kept = keeps_from (only_rejects (M.statements i)) (M.cut i) (length w) k h.keeps in
      (inl (lt, record { not_empty = h.not_empty; accepted = h.accepted; keeps = kept.1 }), ap only_rejects (rule_statements i lt) ∙ kept.0)
  full_from c line_start w i k (inr h) = (inr h, ap only_rejects (default_statements i (omega (arith, h.0))))

  loud_candidates : (c : ℕ) (line_start : Bool) (y : List ℕ) (ms : List Candidate) → Candidates (rules_of_machine M) c line_start y ms → Candidates (rules_of_machine (quiet M)) c line_start y (loud ms)
  loud_candidates c line_start y ms h = record {
    in_order = loud_order ms h.in_order;
    members = λ m. (
      λ a. (let k = loud_among ms m a in let own = (h.members m).0 k.0 in (own.0, full_to c line_start (take m.len y) m.rule m.keep k.1 own.1)),
      λ own. (let k = full_from c line_start (take m.len y) m.rule m.keep own.1 in among_loud ms m ((h.members m).1 (own.0, k.0)) k.1),
    );
  }

  -- what is done

  rejected : (ss : List Statement) (a : Acting) (f : Acting → Option Acting) → only_rejects ss ≡ true → settle (act_result ss a) f ≡ f a
  rejected [] a f h = absurd cc
  rejected (Echo ∷ ss) a f h = absurd cc
  rejected (Print s ∷ ss) a f h = absurd cc
  rejected (Begin d ∷ ss) a f h = absurd cc
  rejected (More ∷ ss) a f h = absurd cc
  rejected (Less n ∷ ss) a f h = absurd cc
  rejected (Reject ∷ ss) a f h = refl
  rejected (End s ∷ ss) a f h = absurd cc
  rejected (Push d ∷ ss) a f h = absurd cc
  rejected (Pop ∷ ss) a f h = absurd cc

  quiet_statements : (b : Bool) (ss : List Statement) → b ≡ false → ss ≡ (if b then [] else ss)
  quiet_statements false ss h = refl
  quiet_statements true ss h = absurd cc

  same_statements : (i : ℕ) → only_rejects (statements_of (rules_of_machine M) i) ≡ false → statements_of (rules_of_machine M) i ≡ statements_of (rules_of_machine (quiet M)) i
  same_statements i is = from (cases_lt i M.count)
    where
      from : (i < M.count) ⊎ (M.count ≤ i) → statements_of (rules_of_machine M) i ≡ statements_of (rules_of_machine (quiet M)) i
      from (inl lt) =
          rule_statements i lt ∙ quiet_statements (only_rejects (M.statements i)) (M.statements i) (ap only_rejects (sym (rule_statements i lt)) ∙ is)
          ∙ sym (cond-true (nat_lt i M.count) (if only_rejects (M.statements i) then [] else M.statements i) (Echo ∷ []) (lt-ltb i M.count lt))
      from (inr le) = default_statements i le ∙ sym (cond-false (nat_lt i M.count) (if only_rejects (M.statements i) then [] else M.statements i) (Echo ∷ []) (le-ltb i M.count le))

  one_performed : (kept y : List ℕ) (m : Candidate) (ms : List Candidate) (out : List ℕ) (c : ℕ) (cs : List ℕ) (b : Bool) → silent m ≡ b
      → ((w : List ℕ) (d : ℕ) (ds : List ℕ) → perform_results (rules_of_machine M) kept y ms w d ds ≡ perform_results (rules_of_machine (quiet M)) kept y (loud ms) w d ds) →
      perform_results (rules_of_machine M) kept y (m ∷ ms) out c cs ≡ perform_results (rules_of_machine (quiet M)) kept y (if_loud b m (loud ms)) out c cs
  unfolding perform_results
  one_performed kept y m ms out c cs true is later =
      let begin : Acting = record { text = kept ++ take m.keep y; written = out; condition = c; stack = cs; more = false; ended = None } in
      rejected (statements_of (rules_of_machine M) m.rule) begin (λ a. perform_results (rules_of_machine M) kept y ms a.written a.condition a.stack) is ∙ later out c cs
  one_performed kept y m ms out c cs false is later =
      let begin : Acting = record { text = kept ++ take m.keep y; written = out; condition = c; stack = cs; more = false; ended = None } in
      let next : Acting → Option Acting = λ a. perform_results (rules_of_machine M) kept y ms a.written a.condition a.stack in
      let next_quiet : Acting → Option Acting = λ a. perform_results (rules_of_machine (quiet M)) kept y (loud ms) a.written a.condition a.stack in
      settle_same (act_result (statements_of (rules_of_machine M) m.rule) begin) next next_quiet (λ a. later a.written a.condition a.stack)
      ∙ ap (λ ss. settle (act_result ss begin) next_quiet) (same_statements m.rule is)

  same_performed : (kept y : List ℕ) (ms : List Candidate) (out : List ℕ) (c : ℕ) (cs : List ℕ) →
      perform_results (rules_of_machine M) kept y ms out c cs ≡ perform_results (rules_of_machine (quiet M)) kept y (loud ms) out c cs
  unfolding perform_results
  same_performed kept y [] out c cs = refl
  same_performed kept y (m ∷ ms) out c cs = one_performed kept y m ms out c cs (silent m) refl (λ w d ds. same_performed kept y ms w d ds)

  pub match_quiet : (x : List ℕ) (p : Place) (s : State) → MatchTurn (rules_of_machine M) x p s → MatchTurn (rules_of_machine (quiet M)) x p s
  match_quiet x p s h = record {
    before_end = h.before_end;
    matches = loud h.matches;
    all = loud_candidates p.condition (at_line_start x p.at) (drop p.at x) h.matches h.all;
    outcome = h.outcome;
    performed = results_are _ _ _ _ _ _ _ ∙ sym (same_performed (take (p.at - p.start) (drop p.start x)) (drop p.at x) h.matches [] p.condition p.stack) ∙ sym (results_are _ _ _ _ _ _ _) ∙ h.performed;
    leaves = h.leaves;
  }

  pub match_loud : MachineLaws M → (x : List ℕ) (p : Place) (s : State) → MatchTurn (rules_of_machine (quiet M)) x p s → MatchTurn (rules_of_machine M) x p s
  match_loud laws x p s h =
      let kept : List ℕ = take (p.at - p.start) (drop p.start x) in
      let y : List ℕ = drop p.at x in
      let listed = machine_candidates_exist M laws p.condition (at_line_start x p.at) y in
      let same : loud listed.0 ≡ h.matches = one_candidates (rules_of_machine (quiet M)) p.condition (at_line_start x p.at) y (loud listed.0) h.matches (loud_candidates p.condition (at_line_start x p.at) y listed.0 listed.1) h.all in
      record {
        before_end = h.before_end;
        matches = listed.0;
        all = listed.1;
        outcome = h.outcome;
        performed = results_are _ _ _ _ _ _ _ ∙ same_performed kept y listed.0 [] p.condition p.stack ∙ ap (λ ms. perform_results (rules_of_machine (quiet M)) kept y ms [] p.condition p.stack) same
            ∙ sym (results_are _ _ _ _ _ _ _) ∙ h.performed;
        leaves = h.leaves;
      }

-- the scan is the same
pub same_quiet : (M : Machine) → MachineLaws M → (x : List ℕ) → SameOver (rules_of_machine (quiet M)) (rules_of_machine M) x
same_quiet M laws x = record {
  turns = λ n s. (turns_to Q R x loud_to ends (λ c b w h. h) (λ c b w h. h) n s, turns_to R Q x quiet_to ends (λ c b w h. h) (λ c b w h. h) n s);
  after = λ n s asked. (
    after_to Q R x loud_to ends (λ c b w h. h) (λ c b w h. h) n s asked,
    after_to R Q x quiet_to ends (λ c b w h. h) (λ c b w h. h) n s asked,
  );
  run = λ w d. (run_to Q R x loud_to ends (λ c b v h. h) (λ c b v h. h) w d, run_to R Q x quiet_to ends (λ c b v h. h) (λ c b v h. h) w d);
}
  where
    R : Rules
    R = rules_of_machine M

    Q : Rules
    Q = rules_of_machine (quiet M)

    loud_to : (p : Place) (s : State) → MatchTurn Q x p s → MatchTurn R x p s
    loud_to p s h = match_loud M laws x p s h

    quiet_to : (p : Place) (s : State) → MatchTurn R x p s → MatchTurn Q x p s
    quiet_to p s h = match_quiet M x p s h

    ends : (c : ℕ) → M.ending c ≡ M.ending c
    ends c = refl
