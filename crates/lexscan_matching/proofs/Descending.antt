-- The matches at a place, tried one after another.
use Rattle.std.proofs.Common.{◌≡◌, ℕ, suc, zero, ◌+◌, ◌≤◌, ◌<◌, false, List, [], ◌∷◌, ◌++◌, length, take, drop, get_or, inl, inr, Option, Some, None, refl, sym, ◌∙◌, ap, subst, arith}
use Rattle.std.specs.Prelude.{filter_map, nat_lt, option_map}
use Rattle.std.specs.List.{cons_option}
use Rattle.std.proofs.lemmas.List.{append-nil, append_assoc, drop_more, length-take-le, length-drop}
use Rattle.std.proofs.lemmas.Bool.{cond-true, cond-false, lt-ltb, le-ltb}
use Rattle.std.proofs.Math.Seq.{take-add}
use Rattle.lex_semantics.specs.Text.{Among, BeginsWith}
use Rattle.lex_semantics.specs.Spec.{Statement, Echo}
use Rattle.lex_semantics.specs.Rules.{statements_of}
use Rattle.lex_semantics.specs.Candidates.{Candidate}
use Rattle.lex_semantics.specs.Acting as Scan
use Rattle.lex_semantics.specs.Acting.{Ending}
use Rattle.lex_semantics.specs.ActionResults.{ActionResult, Done, Again, Over, act_result, settle, perform_results}
use Rattle.lex_semantics.specs.Machine.{Machine, rules_of_machine}
use Rattle.lex_semantics.specs.PlainMachine.{kept_by, match_of}
use Rattle.lex_semantics.specs.Trail.{falling}
use Rattle.lex_semantics.proofs.Falling.{settle_adds, perform_adds, acting_after, falling-snoc}
use Rattle.lexscan_window.specs.declared.act.ActionState.{ActionState}
use Rattle.lexscan_window.specs.declared.act.Finish.{Finish}
use Rattle.lexscan_window.specs.declared.act.ActionFlow.{ActionFlow}
use Rattle.lexscan_window.specs.Acts.{acting_of, after_step, written_of, Carried, CutShort}
use Rattle.lexscan_window.specs.declared.matched.MatchedRule.{MatchedRule}
use Rattle.lexscan_window.specs.declared.matched.MatchedRule.TheVariants.{Numbered, Default}
use Rattle.lexscan_matching.specs.Descends.{Conditions, conditions_of, conditions_in, outcome, matches_of, Passed, Tried, CutOff, CutAll, Performed, finished_of, IsRule, Takes}
use Rattle.lexscan_matching.proofs.Growing.{take_one_more}
use Rattle.lex_semantics.specs.Plain.{default_match}

-- a match and those after it
pub one_match : (M : Machine) (n i k : ℕ) (is : List ℕ) → kept_by (M.cut i) n ≡ Some k → filter_map (match_of M n) (i ∷ is) ≡ record { len = n; rule = i; keep = k } ∷ filter_map (match_of M n) is
one_match M n i k is e = ap (λ o. cons_option (option_map (λ j. record { len = n; rule = i; keep = j }) o) (filter_map (match_of M n) is)) e

pub no_match : (M : Machine) (n i : ℕ) (is : List ℕ) → kept_by (M.cut i) n ≡ None → filter_map (match_of M n) (i ∷ is) ≡ filter_map (match_of M n) is
no_match M n i is e = ap (λ o. cons_option (option_map (λ j. record { len = n; rule = i; keep = j }) o) (filter_map (match_of M n) is)) e

written_same : (w : ActionResult) → (acting_after w).written ≡ written_of w
written_same (Done a) = refl
written_same (Again a) = refl
written_same (Over a e) = refl

settle_stop : (step : ActionFlow) (a : Scan.Acting) (f g : Scan.Acting → Option Scan.Acting) → (step ≡ ActionFlow.Again → ⊥) → settle (after_step step [] a) f ≡ settle (after_step step [] a) g
settle_stop ActionFlow.Next a f g never = refl
settle_stop ActionFlow.Again a f g never = absurd (never refl)
settle_stop (ActionFlow.Over s) a f g never = refl

-- what the action of a match starts from
abbrev pub start_of : (at keep : ℕ) → Conditions → ActionState
start_of at keep c = record { end = at + keep; condition = c.next; stack = c.stack; more = false }

pub head_outcome : (M : Machine) (w : List ℕ) (at : ℕ) (m : Candidate) (ms : List Candidate) (before : List ℕ) (c : Conditions) →
    outcome M w at (m ∷ ms) before c ≡ settle (act_result (statements_of (rules_of_machine M) m.rule) (acting_of w (start_of at m.keep c) before)) (λ a. outcome M w at ms a.written (conditions_in a))
unfolding perform_results
head_outcome M w at m ms before c =
    let text : take at w ++ take m.keep (drop at w) ≡ take (at + m.keep) w = sym (take-add at m.keep w) in
    ap (λ t. settle (act_result (statements_of (rules_of_machine M) m.rule) (record { text = t; written = before; condition = c.next; stack = c.stack; more = false; ended = None })) (λ a. outcome M w at ms a.written (conditions_in a))) text

pub statements_are : (M : Machine) (i : ℕ) → i < M.count → statements_of (rules_of_machine M) i ≡ M.statements i
statements_are M i lt = cond-true (nat_lt i M.count) (M.statements i) (Echo ∷ []) (lt-ltb i M.count lt)

pub default_is : (M : Machine) → statements_of (rules_of_machine M) M.count ≡ Echo ∷ []
default_is M = cond-false (nat_lt M.count M.count) (M.statements M.count) (Echo ∷ []) (le-ltb M.count M.count (omega arith))

abbrev pub ended_by : ActionFlow → Option Finish
ended_by ActionFlow.Next = None
ended_by ActionFlow.Again = None
ended_by (ActionFlow.Over f) = Some f

pub settled : (step : ActionFlow) (a : Scan.Acting) (f : Scan.Acting → Option Scan.Acting) → (step ≡ ActionFlow.Again → ⊥) → settle (after_step step [] a) f ≡ Some (record a { ended = finished_of (ended_by step) })
settled ActionFlow.Next a f never = refl
settled ActionFlow.Again a f never = absurd (never refl)
settled (ActionFlow.Over s) a f never = refl

-- no match makes nothing of it
pub no_outcome : (M : Machine) (w : List ℕ) (at : ℕ) (before : List ℕ) (c : Conditions) → outcome M w at [] before c ≡ None
unfolding perform_results
no_outcome M w at before c = refl

-- what all matches make of it is what those left do
passed_acts : {K : Type 0} {M : Machine} {wrote : K → List ℕ → K → Type 0} {s t : K} {w : List ℕ} {at : ℕ} {all left : List Candidate} {c d : Conditions} → (h : Passed M wrote s t w at all left c d) → (before : List ℕ) (rest : List Candidate) →
    outcome M w at (all ++ rest) before c ≡ outcome M w at (left ++ rest) (before ++ h.out) d
passed_acts {M = M} {w = w} {at = at} {left = left} {c = c} h before rest =
    ap (λ l. outcome M w at (l ++ rest) before c) h.in_order ∙ ap (λ l. outcome M w at l before c) (append_assoc h.gone left rest) ∙ h.acts before (left ++ rest)

-- one of those left was carried out
takes_after : {K : Type 0} {M : Machine} {wrote : K → List ℕ → K → Type 0} {s t : K} {w : List ℕ} {at : ℕ} {all left : List Candidate} {c d : Conditions} {rule : Option MatchedRule} →
    Passed M wrote s t w at all left c d → Takes M w at left d rule → Takes M w at all c rule
takes_after {M = M} {w = w} {at = at} {c = c} h k = record {
  passed = h.gone ++ k.passed;
  taken = k.taken;
  left = k.left;
  in_order = h.in_order ∙ ap (λ l. h.gone ++ l) k.in_order ∙ sym (append_assoc h.gone k.passed (k.taken ∷ k.left));
  rule_is = k.rule_is;
  rejected = λ before. h.acts before k.passed ∙ k.rejected (before ++ h.out);
  carried = λ before. (
    (k.carried (before ++ h.out)).0,
    λ rest. ap (λ l. outcome M w at l before c) (append_assoc h.gone k.passed (k.taken ∷ rest)) ∙ h.acts before (k.passed ++ k.taken ∷ rest) ∙ (k.carried (before ++ h.out)).1 rest,
  );
}

-- others stand after it
pub takes_more : {M : Machine} {w : List ℕ} {at : ℕ} {all : List Candidate} {c : Conditions} {rule : Option MatchedRule} → (more : List Candidate) → Takes M w at all c rule → Takes M w at (all ++ more) c rule
takes_more more k = record {
  passed = k.passed;
  taken = k.taken;
  left = k.left ++ more;
  in_order = ap (λ l. l ++ more) k.in_order ∙ append_assoc k.passed (k.taken ∷ k.left) more;
  rule_is = k.rule_is;
  rejected = k.rejected;
  carried = k.carried;
}

module _ {K : Type 0} (M : Machine) (wrote : K → List ℕ → K → Type 0) (none : (s : K) → wrote s [] s) (join : (s t u : K) (xs ys : List ℕ) → wrote s xs t → wrote t ys u → wrote s (xs ++ ys) u) (w : List ℕ) (at : ℕ) where
  pub passed_first : (s : K) (all : List Candidate) (c : Conditions) → Passed M wrote s s w at all all c c
  passed_first s all c = record { out = []; sink = none s; gone = []; in_order = refl; acts = λ before rest. ap (λ z. outcome M w at rest z c) (sym (append-nil before)) }

  -- a rule whose cut does not fit
  pub passed_skip : (s t : K) (all : List Candidate) (rules : List ℕ) (i len : ℕ) (c d : Conditions) → i < length rules → kept_by (M.cut (get_or rules i 0)) len ≡ None →
      Passed M wrote s t w at all (filter_map (match_of M len) (drop i rules)) c d → Passed M wrote s t w at all (filter_map (match_of M len) (drop (i + 1) rules)) c d
  passed_skip s t all rules i len c d lt e h =
      subst (λ l. Passed M wrote s t w at all l c d) (ap (filter_map (match_of M len)) (drop_more rules i 0 lt) ∙ no_match M len (get_or rules i 0) (drop (i + 1) rules) e) h

  pub left_match : (rules : List ℕ) (i len keep : ℕ) → i < length rules → kept_by (M.cut (get_or rules i 0)) len ≡ Some keep →
      filter_map (match_of M len) (drop i rules) ≡ record { len = len; rule = get_or rules i 0; keep = keep } ∷ filter_map (match_of M len) (drop (i + 1) rules)
  left_match rules i len keep lt e = ap (filter_map (match_of M len)) (drop_more rules i 0 lt) ∙ one_match M len (get_or rules i 0) keep (drop (i + 1) rules) e

  -- what the first match does
  pub did : (t u : K) (m : Candidate) (rest : List Candidate) (d : Conditions) (ss : List Statement) (new : ActionState) (step : ActionFlow) → ss ≡ statements_of (rules_of_machine M) m.rule →
      (k : Carried wrote t u w ss (start_of at m.keep d) new step) → (before : List ℕ) →
      outcome M w at (m ∷ rest) before d ≡ settle (after_step step [] (acting_of w new (before ++ k.out))) (λ a. outcome M w at rest a.written (conditions_in a))
  did t u m rest d ss new step same k before =
      head_outcome M w at m rest before d
      ∙ ap (λ l. settle (act_result l (acting_of w (start_of at m.keep d) before)) (λ a. outcome M w at rest a.written (conditions_in a))) (sym same)
      ∙ ap (λ z. settle z (λ a. outcome M w at rest a.written (conditions_in a))) (k.acts before)

  -- the first match was carried out
  pub takes_first : (t u : K) (m : Candidate) (ms : List Candidate) (d : Conditions) (ss : List Statement) (new : ActionState) (step : ActionFlow) (rule : Option MatchedRule) → (step ≡ ActionFlow.Again → ⊥) → ss ≡ statements_of (rules_of_machine M) m.rule →
      Carried wrote t u w ss (start_of at m.keep d) new step → IsRule M.count rule m.rule → Takes M w at (m ∷ ms) d rule
  takes_first t u m ms d ss new step rule never same k is = record {
    passed = [];
    taken = m;
    left = ms;
    in_order = refl;
    rule_is = is;
    rejected = λ before. no_outcome M w at before d;
    carried = λ before. (
      record (acting_of w new (before ++ k.out)) { ended = finished_of (ended_by step) },
      λ rest. did t u m rest d ss new step same k before ∙ settled step (acting_of w new (before ++ k.out)) (λ a. outcome M w at rest a.written (conditions_in a)) never,
    );
  }

  -- the next match, where its action was carried out
  acted : (s t u : K) (all : List Candidate) (rules : List ℕ) (i len keep : ℕ) (c d : Conditions) (ss : List Statement) (new : ActionState) (step : ActionFlow) → i < length rules → get_or rules i 0 < M.count →
      kept_by (M.cut (get_or rules i 0)) len ≡ Some keep → ss ≡ M.statements (get_or rules i 0) → (h : Passed M wrote s t w at all (filter_map (match_of M len) (drop i rules)) c d) →
      (k : Carried wrote t u w ss (start_of at keep d) new step) → (before : List ℕ) (rest : List Candidate) →
      outcome M w at (all ++ rest) before c ≡ settle (after_step step [] (acting_of w new (before ++ (h.out ++ k.out)))) (λ a. outcome M w at (filter_map (match_of M len) (drop (i + 1) rules) ++ rest) a.written (conditions_in a))
  acted s t u all rules i len keep c d ss new step lt below e same h k before rest =
      passed_acts h before rest ∙ ap (λ l. outcome M w at (l ++ rest) (before ++ h.out) d) (left_match rules i len keep lt e)
      ∙ did t u (record { len = len; rule = get_or rules i 0; keep = keep }) (filter_map (match_of M len) (drop (i + 1) rules) ++ rest) d ss new step (same ∙ sym (statements_are M (get_or rules i 0) below)) k (before ++ h.out)
      ∙ ap (λ z. settle (after_step step [] (acting_of w new z)) (λ a. outcome M w at (filter_map (match_of M len) (drop (i + 1) rules) ++ rest) a.written (conditions_in a))) (append_assoc before h.out k.out)

  pub passed_again : (s t u : K) (all : List Candidate) (rules : List ℕ) (i len keep : ℕ) (c d : Conditions) (ss : List Statement) (new : ActionState) → i < length rules → get_or rules i 0 < M.count →
      kept_by (M.cut (get_or rules i 0)) len ≡ Some keep → ss ≡ M.statements (get_or rules i 0) → Passed M wrote s t w at all (filter_map (match_of M len) (drop i rules)) c d →
      Carried wrote t u w ss (start_of at keep d) new ActionFlow.Again → Passed M wrote s u w at all (filter_map (match_of M len) (drop (i + 1) rules)) c (conditions_of new)
  passed_again s t u all rules i len keep c d ss new lt below e same h k = record {
    out = h.out ++ k.out;
    sink = join s t u h.out k.out h.sink k.sink;
    gone = h.gone ++ m ∷ [];
    in_order = h.in_order ∙ ap (λ l. h.gone ++ l) (left_match rules i len keep lt e) ∙ sym (append_assoc h.gone (m ∷ []) (filter_map (match_of M len) (drop (i + 1) rules)));
    acts = λ before rest.
        ap (λ l. outcome M w at l before c) (append_assoc h.gone (m ∷ []) rest) ∙ h.acts before (m ∷ rest)
        ∙ did t u m rest d ss new ActionFlow.Again (same ∙ sym (statements_are M (get_or rules i 0) below)) k (before ++ h.out)
        ∙ ap (λ z. outcome M w at rest z (conditions_of new)) (append_assoc before h.out k.out);
  }
    where
      m : Candidate
      m = record { len = len; rule = get_or rules i 0; keep = keep }

  -- it was the one that was carried out
  pub takes_next : (s t u : K) (all : List Candidate) (rules : List ℕ) (i len keep : ℕ) (c d : Conditions) (ss : List Statement) (new : ActionState) (step : ActionFlow) → (step ≡ ActionFlow.Again → ⊥) → i < length rules → get_or rules i 0 < M.count →
      kept_by (M.cut (get_or rules i 0)) len ≡ Some keep → ss ≡ M.statements (get_or rules i 0) → Passed M wrote s t w at all (filter_map (match_of M len) (drop i rules)) c d →
      Carried wrote t u w ss (start_of at keep d) new step → (rule : ℕ) → rule ≡ get_or rules i 0 → Takes M w at all c (Some (Numbered rule))
  takes_next s t u all rules i len keep c d ss new step never lt below e same h k rule is =
      takes_after h
      (subst (λ l. Takes M w at l d (Some (Numbered rule))) (sym (left_match rules i len keep lt e))
      (takes_first t u (record { len = len; rule = get_or rules i 0; keep = keep }) (filter_map (match_of M len) (drop (i + 1) rules)) d ss new step (Some (Numbered rule)) never (same ∙ sym (statements_are M (get_or rules i 0) below)) k (is, below)))

  pub tried_stop : (s t u : K) (all : List Candidate) (rules : List ℕ) (i len keep : ℕ) (c d : Conditions) (ss : List Statement) (new : ActionState) (step : ActionFlow) → (step ≡ ActionFlow.Again → ⊥) → i < length rules → get_or rules i 0 < M.count →
      kept_by (M.cut (get_or rules i 0)) len ≡ Some keep → ss ≡ M.statements (get_or rules i 0) → Passed M wrote s t w at all (filter_map (match_of M len) (drop i rules)) c d →
      Carried wrote t u w ss (start_of at keep d) new step → Tried M wrote s u w at all c new step
  tried_stop s t u all rules i len keep c d ss new step never lt below e same h k = record {
    out = h.out ++ k.out;
    sink = join s t u h.out k.out h.sink k.sink;
    acts = λ before rest. acted s t u all rules i len keep c d ss new step lt below e same h k before rest
        ∙ settle_stop step (acting_of w new (before ++ (h.out ++ k.out))) (λ a. outcome M w at (filter_map (match_of M len) (drop (i + 1) rules) ++ rest) a.written (conditions_in a)) (λ a. outcome M w at rest a.written (conditions_in a)) never;
  }

  -- or cut short
  pub cut_front : (t u : K) (m : Candidate) (ms : List Candidate) (d : Conditions) (ss : List Statement) → ss ≡ statements_of (rules_of_machine M) m.rule → (k : CutShort wrote t u w ss (start_of at m.keep d)) →
      (before : List ℕ) (o : Scan.Acting) → outcome M w at (m ∷ ms) before d ≡ Some o → BeginsWith o.written (before ++ k.out)
  cut_front t u m ms d ss same k before o e =
      settle_adds went (λ a. outcome M w at ms a.written (conditions_in a)) (before ++ k.out) o
      (subst (λ z. BeginsWith z (before ++ k.out)) (sym (written_same went)) (k.front before))
      (λ a p. perform_adds (rules_of_machine M) (take at w) (drop at w) ms a.written a.condition a.stack o p)
      (ap (λ l. settle (act_result l (acting_of w (start_of at m.keep d) before)) (λ a. outcome M w at ms a.written (conditions_in a))) same ∙ sym (head_outcome M w at m ms before d) ∙ e)
    where
      went : ActionResult
      went = act_result ss (acting_of w (start_of at m.keep d) before)

  pub cut_here : (s t u : K) (all : List Candidate) (rules : List ℕ) (i len keep : ℕ) (c d : Conditions) (ss : List Statement) → i < length rules → get_or rules i 0 < M.count →
      kept_by (M.cut (get_or rules i 0)) len ≡ Some keep → ss ≡ M.statements (get_or rules i 0) → Passed M wrote s t w at all (filter_map (match_of M len) (drop i rules)) c d →
      CutShort wrote t u w ss (start_of at keep d) → CutOff M wrote s u w at all c
  cut_here s t u all rules i len keep c d ss lt below e same h k = record {
    out = h.out ++ k.out;
    sink = join s t u h.out k.out h.sink k.sink;
    front = λ before rest o is.
        subst (BeginsWith o.written) (append_assoc before h.out k.out)
        (cut_front t u (record { len = len; rule = get_or rules i 0; keep = keep }) (filter_map (match_of M len) (drop (i + 1) rules) ++ rest) d ss (same ∙ sym (statements_are M (get_or rules i 0) below)) k (before ++ h.out) o
        (ap (λ l. outcome M w at (l ++ rest) (before ++ h.out) d) (sym (left_match rules i len keep lt e)) ∙ sym (passed_acts h before rest) ∙ is));
  }

pub among_get : (l : List ℕ) (i : ℕ) → i < length l → Among l (get_or l i 0)
among_get [] i lt = absurd (omega (arith, lt))
among_get (b ∷ l) zero lt = inl refl
among_get (b ∷ l) (suc i) lt = inr (among_get l i (omega (arith, lt)))

-- the matches that the last of some states tells, and the others
falling_take : (M : Machine) (path : List ℕ) (n : ℕ) → n < length path → falling M 0 (take (n + 1) path) ≡ filter_map (match_of M (n + 1)) (M.accepts (get_or path n 0)) ++ falling M 0 (take n path)
falling_take M path n lt =
    let size : length (take n path) ≡ n = length-take-le n path (omega arith) in
    let e : 0 + suc (length (take n path)) ≡ n + 1 = omega (arith, size) in
    ap (falling M 0) (take_one_more n path lt) ∙ falling-snoc M 0 (get_or path n 0) (take n path) ∙ ap (λ k. filter_map (match_of M k) (M.accepts (get_or path n 0)) ++ falling M 0 (take n path)) e

pub default_one : (M : Machine) (y : List ℕ) → 1 ≤ length y → default_match M.count y ≡ record { len = 1; rule = M.count; keep = 1 } ∷ []
default_one M [] lt = absurd (omega (arith, lt))
default_one M (b ∷ y) lt = refl

-- it is the default match
pub takes_default : (M : Machine) (w : List ℕ) (at : ℕ) (c : Conditions) → at < length w → Takes M w at (default_match M.count (drop at w)) c (Some Default)
takes_default M w at c lt = record {
  passed = [];
  taken = one;
  left = [];
  in_order = default_one M (drop at w) (omega (arith, length-drop at w, lt));
  rule_is = refl;
  rejected = λ before. no_outcome M w at before c;
  carried = λ before. (
    record (acting_of w (start_of at 1 c) (before ++ take (at + 1) w)) { ended = None },
    λ rest. head_outcome M w at one rest before c
        ∙ ap (λ l. settle (act_result l (acting_of w (start_of at 1 c) before)) (λ a. outcome M w at rest a.written (conditions_in a))) (default_is M),
  );
}
  where
    one : Candidate
    one = record { len = 1; rule = M.count; keep = 1 }

module _ {K : Type 0} (M : Machine) (wrote : K → List ℕ → K → Type 0) (join : (s t u : K) (xs ys : List ℕ) → wrote s xs t → wrote t ys u → wrote s (xs ++ ys) u) (w : List ℕ) (at : ℕ) (path : List ℕ) where
  -- the matches that end after n + 1 bytes
  abbrev pub here : ℕ → List Candidate
  here n = filter_map (match_of M (n + 1)) (M.accepts (get_or path n 0))

  state_acts : (s t u : K) (n : ℕ) (c d : Conditions) (new : ActionState) (step : ActionFlow) → n < length path → (h : Passed M wrote s t w at (falling M 0 path) (falling M 0 (take (n + 1) path)) c d) → (k : Tried M wrote t u w at (here n) d new step) →
      (before : List ℕ) (rest : List Candidate) → outcome M w at (falling M 0 path ++ rest) before c
      ≡ settle (after_step step [] (acting_of w new (before ++ (h.out ++ k.out)))) (λ a. outcome M w at (falling M 0 (take n path) ++ rest) a.written (conditions_in a))
  state_acts s t u n c d new step lt h k before rest =
      passed_acts h before rest ∙ ap (λ l. outcome M w at (l ++ rest) (before ++ h.out) d) (falling_take M path n lt) ∙ ap (λ l. outcome M w at l (before ++ h.out) d) (append_assoc (here n) (falling M 0 (take n path)) rest)
      ∙ k.acts (before ++ h.out) (falling M 0 (take n path) ++ rest)
      ∙ ap (λ z. settle (after_step step [] (acting_of w new z)) (λ a. outcome M w at (falling M 0 (take n path) ++ rest) a.written (conditions_in a))) (append_assoc before h.out k.out)

  pub state_passed : (s t u : K) (n : ℕ) (c d : Conditions) (new : ActionState) → n < length path → Passed M wrote s t w at (falling M 0 path) (falling M 0 (take (n + 1) path)) c d → Tried M wrote t u w at (here n) d new ActionFlow.Again →
      Passed M wrote s u w at (falling M 0 path) (falling M 0 (take n path)) c (conditions_of new)
  state_passed s t u n c d new lt h k = record {
    out = h.out ++ k.out;
    sink = join s t u h.out k.out h.sink k.sink;
    gone = h.gone ++ here n;
    in_order = h.in_order ∙ ap (λ l. h.gone ++ l) (falling_take M path n lt) ∙ sym (append_assoc h.gone (here n) (falling M 0 (take n path)));
    acts = λ before rest.
        ap (λ l. outcome M w at l before c) (append_assoc h.gone (here n) rest) ∙ h.acts before (here n ++ rest) ∙ k.acts (before ++ h.out) rest
        ∙ ap (λ z. outcome M w at rest z (conditions_of new)) (append_assoc before h.out k.out);
  }

  pub state_stop : (s t u : K) (n : ℕ) (c d : Conditions) (new : ActionState) (step : ActionFlow) → (step ≡ ActionFlow.Again → ⊥) → n < length path → Passed M wrote s t w at (falling M 0 path) (falling M 0 (take (n + 1) path)) c d → Tried M wrote t u w at (here n) d new step →
      Performed M wrote s u w at (matches_of M w at path) c new (finished_of (ended_by step))
  state_stop s t u n c d new step never lt h k = record {
    out = h.out ++ k.out;
    sink = join s t u h.out k.out h.sink k.sink;
    acts = λ before. state_acts s t u n c d new step lt h k before (default_match M.count (drop at w))
        ∙ settled step (acting_of w new (before ++ (h.out ++ k.out))) (λ a. outcome M w at (falling M 0 (take n path) ++ default_match M.count (drop at w)) a.written (conditions_in a)) never;
  }

  pub state_cut : (s t u : K) (n : ℕ) (c d : Conditions) → n < length path → Passed M wrote s t w at (falling M 0 path) (falling M 0 (take (n + 1) path)) c d → CutOff M wrote t u w at (here n) d → CutAll M wrote s u w at (matches_of M w at path) c
  state_cut s t u n c d lt h k = record {
    out = h.out ++ k.out;
    sink = join s t u h.out k.out h.sink k.sink;
    front = λ before o is.
        let more : List Candidate = default_match M.count (drop at w) in
        subst (BeginsWith o.written) (append_assoc before h.out k.out)
        (k.front (before ++ h.out) (falling M 0 (take n path) ++ more) o
        (ap (λ l. outcome M w at l (before ++ h.out) d) (sym (append_assoc (here n) (falling M 0 (take n path)) more)) ∙ ap (λ l. outcome M w at (l ++ more) (before ++ h.out) d) (sym (falling_take M path n lt))
        ∙ sym (passed_acts h before more) ∙ is));
  }

  -- one of them was carried out
  pub state_takes : (s t : K) (n : ℕ) (c d : Conditions) (rule : Option MatchedRule) → n < length path → Passed M wrote s t w at (falling M 0 path) (falling M 0 (take (n + 1) path)) c d → Takes M w at (here n) d rule →
      Takes M w at (matches_of M w at path) c rule
  state_takes s t n c d rule lt h k =
      takes_more (default_match M.count (drop at w)) (takes_after h (subst (λ l. Takes M w at l d rule) (sym (falling_take M path n lt)) (takes_more (falling M 0 (take n path)) k)))

  -- all were rejected but the default match
  pub default_takes : (s t : K) (c d : Conditions) → at < length w → Passed M wrote s t w at (falling M 0 path) [] c d → Takes M w at (matches_of M w at path) c (Some Default)
  default_takes s t c d lt h = takes_after (all_passed h) (takes_default M w at d lt)
    where
      all_passed : Passed M wrote s t w at (falling M 0 path) [] c d → Passed M wrote s t w at (matches_of M w at path) (default_match M.count (drop at w)) c d
      all_passed h = record {
        out = h.out;
        sink = h.sink;
        gone = h.gone;
        in_order = ap (λ l. l ++ default_match M.count (drop at w)) h.in_order ∙ append_assoc h.gone [] (default_match M.count (drop at w));
        acts = h.acts;
      }

  -- the default match
  default_acts : (s t : K) (c d : Conditions) → at < length w → (h : Passed M wrote s t w at (falling M 0 path) [] c d) → (before : List ℕ) (rest : List Candidate) →
      outcome M w at ((falling M 0 path ++ default_match M.count (drop at w)) ++ rest) before c ≡ Some (record (acting_of w (start_of at 1 d) (before ++ (h.out ++ take (at + 1) w))) { ended = None })
  default_acts s t c d lt h before rest =
      let some : 1 ≤ length (drop at w) = omega (arith, length-drop at w, lt) in
      let one : Candidate = record { len = 1; rule = M.count; keep = 1 } in
      ap (λ l. outcome M w at l before c) (append_assoc (falling M 0 path) (default_match M.count (drop at w)) rest)
      ∙ passed_acts h before (default_match M.count (drop at w) ++ rest)
      ∙ ap (λ l. outcome M w at (l ++ rest) (before ++ h.out) d) (default_one M (drop at w) some)
      ∙ head_outcome M w at one rest (before ++ h.out) d
      ∙ ap (λ l. settle (act_result l (acting_of w (start_of at 1 d) (before ++ h.out))) (λ a. outcome M w at rest a.written (conditions_in a))) (default_is M)
      ∙ ap (λ z. Some (record (acting_of w (start_of at 1 d) z) { ended = None })) (append_assoc before h.out (take (at + 1) w))

  pub default_stop : (s t u : K) (c d : Conditions) → at < length w → Passed M wrote s t w at (falling M 0 path) [] c d → wrote t (take (at + 1) w) u → Performed M wrote s u w at (matches_of M w at path) c (start_of at 1 d) None
  default_stop s t u c d lt h put = record {
    out = h.out ++ take (at + 1) w;
    sink = join s t u h.out (take (at + 1) w) h.sink put;
    acts = λ before. ap (λ l. outcome M w at l before c) (sym (append-nil (falling M 0 path ++ default_match M.count (drop at w)))) ∙ default_acts s t c d lt h before [];
  }

  pub default_cut : (s t u : K) (c d : Conditions) → at < length w → Passed M wrote s t w at (falling M 0 path) [] c d → ((front : List ℕ) × BeginsWith (take (at + 1) w) front × wrote t front u) → CutAll M wrote s u w at (matches_of M w at path) c
  default_cut s t u c d lt h (front, is_front, put) = record {
    out = h.out ++ front;
    sink = join s t u h.out front h.sink put;
    front = λ before o is.
        let same : Some (record (acting_of w (start_of at 1 d) (before ++ (h.out ++ take (at + 1) w))) { ended = None }) ≡ Some o =
        sym (default_acts s t c d lt h before []) ∙ ap (λ l. outcome M w at l before c) (append-nil (falling M 0 path ++ default_match M.count (drop at w))) ∙ is in
        subst (λ (z : Scan.Acting). BeginsWith z.written (before ++ (h.out ++ front))) (some_same (record (acting_of w (start_of at 1 d) (before ++ (h.out ++ take (at + 1) w))) { ended = None }) o same)
        (is_front.0, ap (λ z. before ++ (h.out ++ z)) is_front.1 ∙ ap (λ z. before ++ z) (sym (append_assoc h.out front is_front.0)) ∙ sym (append_assoc before (h.out ++ front) is_front.0));
  }
    where
      some_same : (a b : Scan.Acting) → Some a ≡ Some b → a ≡ b
      some_same a b e = cc

-- bytes written and then a flush
pub wrote_flushed : {K : Type 0} (wrote : K → List ℕ → K → Type 0) (s t u : K) (xs : List ℕ) → ((s t u : K) (xs ys : List ℕ) → wrote s xs t → wrote t ys u → wrote s (xs ++ ys) u) → wrote s xs t → wrote t [] u → wrote s xs u
wrote_flushed wrote s t u xs join h k = subst (λ z. wrote s z u) (append-nil xs) (join s t u xs [] h k)

pub performed_flushed : {K : Type 0} (M : Machine) (wrote : K → List ℕ → K → Type 0) (s t u : K) (w : List ℕ) (at : ℕ) (all : List Candidate) (c : Conditions) (new : ActionState) (ended : Option Ending) → ((s t u : K) (xs ys : List ℕ) → wrote s xs t → wrote t ys u → wrote s (xs ++ ys) u) →
    Performed M wrote s t w at all c new ended → wrote t [] u → Performed M wrote s u w at all c new ended
performed_flushed M wrote s t u w at all c new ended join h k = record { out = h.out; sink = wrote_flushed wrote s t u h.out join h.sink k; acts = h.acts }

-- the matches were tried, and a flush was refused
pub performed_cut : {K : Type 0} (M : Machine) (wrote : K → List ℕ → K → Type 0) (s t u : K) (w : List ℕ) (at : ℕ) (all : List Candidate) (c : Conditions) (new : ActionState) (ended : Option Ending) → ((s t u : K) (xs ys : List ℕ) → wrote s xs t → wrote t ys u → wrote s (xs ++ ys) u) →
    Performed M wrote s t w at all c new ended → wrote t [] u → CutAll M wrote s u w at all c
performed_cut M wrote s t u w at all c new ended join h k = record {
  out = h.out;
  sink = wrote_flushed wrote s t u h.out join h.sink k;
  front = λ before o is.
      let same : Some (record (acting_of w new (before ++ h.out)) { ended = ended }) ≡ Some o = sym (h.acts before) ∙ is in
      subst (λ (z : Scan.Acting). BeginsWith z.written (before ++ h.out)) (some_one (record (acting_of w new (before ++ h.out)) { ended = ended }) o same) ([], sym (append-nil (before ++ h.out)));
}
  where
    some_one : (a b : Scan.Acting) → Some a ≡ Some b → a ≡ b
    some_one a b e = cc

-- the matches were tried
pub performed_front : {K : Type 0} (M : Machine) (wrote : K → List ℕ → K → Type 0) (s t : K) (w : List ℕ) (at : ℕ) (all : List Candidate) (c : Conditions) (new : ActionState) (ended : Option Ending) →
    (h : Performed M wrote s t w at all c new ended) → (before : List ℕ) (o : Scan.Acting) → outcome M w at all before c ≡ Some o → BeginsWith o.written (before ++ h.out)
performed_front M wrote s t w at all c new ended h before o is =
    let same : Some (record (acting_of w new (before ++ h.out)) { ended = ended }) ≡ Some o = sym (h.acts before) ∙ is in
    subst (λ (z : Scan.Acting). BeginsWith z.written (before ++ h.out)) (some_one (record (acting_of w new (before ++ h.out)) { ended = ended }) o same) ([], sym (append-nil (before ++ h.out)))
  where
    some_one : (a b : Scan.Acting) → Some a ≡ Some b → a ≡ b
    some_one a b e = cc
