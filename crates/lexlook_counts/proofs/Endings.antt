-- In which condition a scan ends, by its tokens.
use Rattle.std.proofs.Common.{◌≡◌, ◌∙◌, ℕ, zero, suc, ◌+◌, ◌-◌, ◌≤◌, inl, inr, Bool, true, false, cond, List, [], ◌∷◌, ◌++◌, length, drop, Option, Some, None, refl, sym, ap, subst, arith, append_assoc, append-nil}
use Rattle.std.specs.Prelude.{nat_lt, take, if◌then◌else◌}
use Rattle.std.proofs.lemmas.Bool.{cases_eq, cases_lt, cond-true, cond-false, lt-ltb, le-ltb}
use Rattle.std.proofs.lemmas.List.{length_push}
use Rattle.std.proofs.lemmas.List.Sums.{fold-append}
use Rattle.lex_semantics.specs.Acting.{Acting, Ending, Status, StackFault}
use Rattle.lex_semantics.specs.ActionResults.{ActionResult, Done, Again, Over, act_result, has_room, popped, settle, perform_results}
use Rattle.lex_semantics.specs.Candidates.{Candidate}
use Rattle.lex_semantics.specs.Rules.{Rules, rules_of, statements_of}
use Rattle.lex_semantics.specs.Run.{MatchTurn, NextFrom, Place, State, Turns}
use Rattle.lex_semantics.specs.Spec.{Spec, rejects, Statement, Echo, Print, Begin, More, Less, Reject, End, Push, Pop}
use Rattle.lex_semantics.specs.Text.{BeginsWith, IsText, part}
use Rattle.lex_semantics.proofs.After.{turns_of}
use Rattle.lex_semantics.proofs.Once.{one_candidates, one_state, some_inj, stays}
use Rattle.lex_semantics.proofs.ResultsAre.{results_are}
use Rattle.lex_semantics.proofs.Both.{same_over}
use Rattle.lex_semantics.proofs.Table.{same_statements, table_alike}
use Rattle.lex_semantics.specs.Demand.{Consistent}
use Rattle.lex_semantics.specs.Machine.{Machine, rules_of_machine}
use Rattle.lex_semantics.specs.MachineLaws.{MachineLaws}
use Rattle.lex_semantics.specs.ScanLaws.{SameOver}
use Rattle.lex_semantics.specs.Sound.{IsSound}
use Rattle.lex_semantics.specs.TableFor.{TableFor}
use Rattle.lexscan_window.specs.declared.state.State.{State as ScanState}
use Rattle.lexscan.specs.Pulls.{TokensTold}
use Rattle.lexscan.specs.TurnInvariants.{state_of}
use Rattle.lexscan.specs.Matches.{CarriesOut}
use Rattle.lexscan.specs.Tokens.{Appends, IsToken, Tokenised, TokensOf}
use Rattle.lexscan.specs.declared.token.Token.{Token}
use Rattle.lexscan_matching.specs.Descends.{IsRule}
use Rattle.lexscan_window.specs.declared.matched.MatchedRule.{MatchedRule}
use Rattle.lexscan_window.specs.declared.matched.MatchedRule.TheVariants.{Numbered, Default}
use Rattle.lexlook_counts.specs.Ends.{ComesTo, ComesToSo, EndsIn, IsEndOf, ended_in, has_exit, exits_by, exits_last, last_rule}

-- ---- what an action leaves

done_open : (ss : List Statement) (a b : Acting) → act_result ss a ≡ Done b → has_exit ss ≡ false
done_open [] a b e = refl
done_open (Echo ∷ ss) a b e = done_open ss _ b e
done_open (Print s ∷ ss) a b e = done_open ss _ b e
done_open (Begin d ∷ ss) a b e = done_open ss _ b e
done_open (More ∷ ss) a b e = done_open ss _ b e
done_open (Less n ∷ ss) a b e = done_open ss _ b e
done_open (Reject ∷ ss) a b e = absurd cc
done_open (End s ∷ ss) a b e = absurd cc
done_open (Push d ∷ ss) a b e = from (λ a. done_open ss a b) (has_room a.stack) e
  where
    from : ((a : Acting) → act_result ss a ≡ Done b → has_exit ss ≡ false) → (room : Bool) → (if room then act_result ss (record a { condition = d; stack = a.condition ∷ a.stack }) else Over a StackFault) ≡ Done b → has_exit ss ≡ false
    from ih true e = ih _ e
    from ih false e = absurd cc
done_open (Pop ∷ ss) a b e = from (λ a. done_open ss a b) a.stack e
  where
    from : ((a : Acting) → act_result ss a ≡ Done b → has_exit ss ≡ false) → (cs : List ℕ) → popped cs a (λ c ds. act_result ss (record a { condition = c; stack = ds })) ≡ Done b → has_exit ss ≡ false
    from ih [] e = absurd cc
    from ih (c ∷ cs) e = ih _ e

over_exits : (ss : List Statement) (a b : Acting) (s : ℕ) → act_result ss a ≡ Over b (Status s) → has_exit ss ≡ true
over_exits [] a b s e = absurd cc
over_exits (Echo ∷ ss) a b s e = over_exits ss _ b s e
over_exits (Print t ∷ ss) a b s e = over_exits ss _ b s e
over_exits (Begin d ∷ ss) a b s e = over_exits ss _ b s e
over_exits (More ∷ ss) a b s e = over_exits ss _ b s e
over_exits (Less n ∷ ss) a b s e = over_exits ss _ b s e
over_exits (Reject ∷ ss) a b s e = absurd cc
over_exits (End t ∷ ss) a b s e = refl
over_exits (Push d ∷ ss) a b s e = from (λ a. over_exits ss a b s) (has_room a.stack) e
  where
    from : ((a : Acting) → act_result ss a ≡ Over b (Status s) → has_exit ss ≡ true) → (room : Bool) → (if room then act_result ss (record a { condition = d; stack = a.condition ∷ a.stack }) else Over a StackFault) ≡ Over b (Status s) → has_exit ss ≡ true
    from ih true e = ih _ e
    from ih false e = absurd cc
over_exits (Pop ∷ ss) a b s e = from (λ a. over_exits ss a b s) a.stack e
  where
    from : ((a : Acting) → act_result ss a ≡ Over b (Status s) → has_exit ss ≡ true) → (cs : List ℕ) → popped cs a (λ c ds. act_result ss (record a { condition = c; stack = ds })) ≡ Over b (Status s) → has_exit ss ≡ true
    from ih [] e = absurd cc
    from ih (c ∷ cs) e = ih _ e

no_next : Acting → Option Acting
no_next a = None

some_none : {A : Type 0} (a : A) → Some a ≡ None → ⊥
some_none a e = cc

ends_so : (ss : List Statement) (a o : Acting) (s : ℕ) → settle (act_result ss a) no_next ≡ Some o → o.ended ≡ Some (Status s) → has_exit ss ≡ true
unfolding no_next
ends_so ss a o s is ended = from (act_result ss a) refl is
  where
    from : (w : ActionResult) → act_result ss a ≡ w → settle w no_next ≡ Some o → has_exit ss ≡ true
    from (Done b) at e = absurd (some_none (Status s) (sym ended ∙ sym (ap (λ (z : Acting). z.ended) (some_inj _ o e))))
    from (Again b) at e = absurd cc
    from (Over b (Status t)) at e = over_exits ss a b t at
    from (Over b StackFault) at e = absurd (let f : Some StackFault ≡ Some (Status s) = ap (λ (z : Acting). z.ended) (some_inj _ o e) ∙ ended in cc)

goes_so : (ss : List Statement) (a o : Acting) → settle (act_result ss a) no_next ≡ Some o → o.ended ≡ None → has_exit ss ≡ false
unfolding no_next
goes_so ss a o is going = from (act_result ss a) refl is
  where
    from : (w : ActionResult) → act_result ss a ≡ w → settle w no_next ≡ Some o → has_exit ss ≡ false
    from (Done b) at e = done_open ss a b at
    from (Again b) at e = absurd cc
    from (Over b d) at e = absurd (some_none d (ap (λ (z : Acting). z.ended) (some_inj _ o e) ∙ going))

-- ---- the match that is carried out

carried_by : (R : Rules) (kept y : List ℕ) (passed : List Candidate) (m : Candidate) (out : List ℕ) (c : ℕ) (cs : List ℕ) (o : Acting) → perform_results R kept y passed out c cs ≡ None → perform_results R kept y (passed ++ m ∷ []) out c cs ≡ Some o
    → (a : Acting) × (settle (act_result (statements_of R m.rule) a) no_next ≡ Some o)
unfolding perform_results no_next
carried_by R kept y [] m out c cs o none some = (_, some)
carried_by R kept y (p ∷ ps) m out c cs o none some =
    from (λ a. carried_by R kept y ps m a.written a.condition a.stack o) (act_result (statements_of R p.rule) (record { text = kept ++ take p.keep y; written = out; condition = c; stack = cs; more = false; ended = None })) none some
  where
    from : ((a : Acting) → perform_results R kept y ps a.written a.condition a.stack ≡ None → perform_results R kept y (ps ++ m ∷ []) a.written a.condition a.stack ≡ Some o → (b : Acting) × (settle (act_result (statements_of R m.rule) b) no_next ≡ Some o))
        → (w : ActionResult) → settle w (λ a. perform_results R kept y ps a.written a.condition a.stack) ≡ None → settle w (λ a. perform_results R kept y (ps ++ m ∷ []) a.written a.condition a.stack) ≡ Some o
        → (a : Acting) × (settle (act_result (statements_of R m.rule) a) no_next ≡ Some o)
    from ih (Done a) n s = absurd (some_none _ n)
    from ih (Again a) n s = ih a n s
    from ih (Over a e) n s = absurd (some_none _ n)

-- What matches do does not change by more of them behind one that is not rejected.
goes_settled : (w : ActionResult) (f g : Acting → Option Acting) (o : Acting) → ((a : Acting) → f a ≡ Some o → g a ≡ Some o) → settle w f ≡ Some o → settle w g ≡ Some o
goes_settled (Done a) f g o h is = is
goes_settled (Again a) f g o h is = h a is
goes_settled (Over a e) f g o h is = is

more_matches : (R : Rules) (kept y : List ℕ) (ms left : List Candidate) (out : List ℕ) (c : ℕ) (cs : List ℕ) (o : Acting) → perform_results R kept y ms out c cs ≡ Some o → perform_results R kept y (ms ++ left) out c cs ≡ Some o
unfolding perform_results
more_matches R kept y [] left out c cs o is = absurd (some_none o (sym is))
more_matches R kept y (m ∷ ms) left out c cs o is =
    let begin : Acting = record { text = kept ++ take m.keep y; written = out; condition = c; stack = cs; more = false; ended = None } in
    goes_settled (act_result (statements_of R m.rule) begin) (λ a. perform_results R kept y ms a.written a.condition a.stack) (λ a. perform_results R kept y (ms ++ left) a.written a.condition a.stack) o
    (λ a. more_matches R kept y ms left a.written a.condition a.stack o) is

-- A turn comes to the outcome of the match that it carries out.
one_outcome : (R : Rules) (x : List ℕ) (p : Place) (s : State) (m : Candidate) (o : Acting) (turn : MatchTurn R x p s) → CarriesOut R x p m o → turn.outcome ≡ o
one_outcome R x p s m o turn k =
    let kept : List ℕ = part x p.start p.at in
    let y : List ℕ = drop p.at x in
    let all : turn.matches ≡ k.passed ++ m ∷ k.left = one_candidates R p.condition (_) y turn.matches (k.passed ++ m ∷ k.left) turn.all k.all in
    let front : perform_results R kept y (k.passed ++ m ∷ []) [] p.condition p.stack ≡ Some o = sym (results_are R kept y (k.passed ++ m ∷ []) [] p.condition p.stack) ∙ k.carried in
    let whole : perform_results R kept y ((k.passed ++ m ∷ []) ++ k.left) [] p.condition p.stack ≡ Some o = more_matches R kept y (k.passed ++ m ∷ []) k.left [] p.condition p.stack o front in
    let same : turn.matches ≡ (k.passed ++ m ∷ []) ++ k.left = all ∙ sym (append_assoc k.passed (m ∷ []) k.left) in
    some_inj turn.outcome o (sym turn.performed ∙ results_are R kept y turn.matches [] p.condition p.stack ∙ ap (λ l. perform_results R kept y l [] p.condition p.stack) same ∙ whole)

pub by_rule : (R : Rules) (rule : MatchedRule) (i : ℕ) → IsRule R.count (Some rule) i → has_exit (statements_of R i) ≡ exits_by R rule
by_rule R (Numbered n) i is = ap has_exit (cond-true (nat_lt i R.count) (R.statements i) (Echo ∷ []) (lt-ltb i R.count is.1)) ∙ ap (λ (j : ℕ). has_exit (R.statements j)) (sym is.0)
by_rule R Default i is = ap has_exit (cond-false (nat_lt i R.count) (R.statements i) (Echo ∷ []) (le-ltb i R.count (omega (arith, is))))

module _ (R : Rules) (x : List ℕ) (E : MatchedRule → Bool) (tells : (rule : MatchedRule) (i : ℕ) → IsRule R.count (Some rule) i → has_exit (statements_of R i) ≡ E rule) where
  -- ---- one turn

  next_of : (n : ℕ) (p s : State) → Turns R x n p → p.ended ≡ None → Turns R x (suc n) s → NextFrom R x p None s
  next_of n p s turns going (q, again, next) =
      let same : q ≡ p = one_state R x n q p again turns in
      let from : NextFrom R x p p.ended s = subst (λ (w : State). NextFrom R x w w.ended s) same next in
      subst (λ (e : Option Ending). NextFrom R x p e s) going from

  -- the action of the token's rule ends the scan just if it has exit or yyterminate
  token_ends : (p s : State) (u : Token) → NextFrom R x p None s → IsToken R x p.place u → (status : ℕ) → s.ended ≡ Some (Status status) → E u.rule ≡ true
  token_ends p s u (t, inr turn, is) token status ended = absurd (let a = turn.at_end in let b = token.carries.before_end in omega (arith, a, b))
  token_ends p s u (t, inl turn, is) token status ended =
      let k = token.carries in
      let by = carried_by R (part x p.place.start p.place.at) (drop p.place.at x) k.passed token.taken [] p.place.condition p.place.stack token.outcome
      (sym (results_are R _ _ k.passed [] p.place.condition p.place.stack) ∙ k.rejected) (sym (results_are R _ _ (k.passed ++ token.taken ∷ []) [] p.place.condition p.place.stack) ∙ k.carried) in
      let end : token.outcome.ended ≡ Some (Status status) =
      ap (λ (a : Acting). a.ended) (sym (one_outcome R x p.place t token.taken token.outcome turn k)) ∙ sym (ap (λ (w : State). w.ended) turn.leaves) ∙ sym (ap (λ (w : State). w.ended) is) ∙ ended in
      sym (tells u.rule token.taken.rule token.rule_is) ∙ ends_so (statements_of R token.taken.rule) by.0 token.outcome status by.1 end

  token_goes : (p s : State) (u : Token) → NextFrom R x p None s → IsToken R x p.place u → s.ended ≡ None → E u.rule ≡ false
  token_goes p s u (t, inr turn, is) token going = absurd (let a = turn.at_end in let b = token.carries.before_end in omega (arith, a, b))
  token_goes p s u (t, inl turn, is) token going =
      let k = token.carries in
      let by = carried_by R (part x p.place.start p.place.at) (drop p.place.at x) k.passed token.taken [] p.place.condition p.place.stack token.outcome
      (sym (results_are R _ _ k.passed [] p.place.condition p.place.stack) ∙ k.rejected) (sym (results_are R _ _ (k.passed ++ token.taken ∷ []) [] p.place.condition p.place.stack) ∙ k.carried) in
      let open_end : token.outcome.ended ≡ None =
      ap (λ (a : Acting). a.ended) (sym (one_outcome R x p.place t token.taken token.outcome turn k)) ∙ sym (ap (λ (w : State). w.ended) turn.leaves) ∙ sym (ap (λ (w : State). w.ended) is) ∙ going in
      sym (tells u.rule token.taken.rule token.rule_is) ∙ goes_so (statements_of R token.taken.rule) by.0 token.outcome by.1 open_end

  -- a turn at the end of the input ends the scan, in the same condition
  at_the_end : (p s : State) → NextFrom R x p None s → p.place.at ≡ length x → (s.place.condition ≡ p.place.condition) × (e : Ending) × (s.ended ≡ Some e)
  at_the_end p s (t, inl turn, is) at = absurd (let b = turn.before_end in omega (arith, at, b))
  at_the_end p s (t, inr turn, is) at = (ap (λ (w : State). w.place.condition) is ∙ ap (λ (w : State). w.place.condition) turn.leaves, _, ap (λ (w : State). w.ended) is ∙ ap (λ (w : State). w.ended) turn.leaves)

  -- a scan that goes on has not ended before
  not_before : (n m : ℕ) (s t : State) (e : Ending) → n ≤ m → Turns R x n s → s.ended ≡ Some e → Turns R x m t → t.ended ≡ None → ⊥
  not_before n m s t e le turns ended more going =
      let sum : m - n + n ≡ m = omega (arith, le) in
      let same : s ≡ t = one_state R x m s t (subst (λ i. Turns R x i s) sum (stays R x n (m - n) s e ended turns)) more in
      some_none e (sym ended ∙ ap (λ (w : State). w.ended) same ∙ going)

  -- the states before
  prefix : (d m k : ℕ) (p : State) → k ≡ d + m → Turns R x k p → (s : State) × Turns R x m s
  prefix zero m k p is turns = (p, subst (λ (i : ℕ). Turns R x i p) (let e : k ≡ m = omega (arith, is) in e) turns)
  prefix (suc d) m zero p is turns = absurd (omega (arith, is))
  prefix (suc d) m (suc k) p is (q, before, next) = prefix d m k q (omega (arith, is)) before

  -- ---- tokens and turns

  last_is : (us ts : List Token) (u : Token) → us ≡ ts ++ u ∷ [] → exits_last E (last_rule us) ≡ E u.rule
  last_is us ts u is = ap (λ l. exits_last E (last_rule l)) is ∙ ap (exits_last E) (fold-append (λ (before : Option MatchedRule) (t : Token). Some t.rule) None ts (u ∷ []))

  longer : (ts us : List Token) (p : Place) → Appends R x p ts us → length ts ≤ length us
  longer ts us p (inl (t, token, is)) = let e = ap length is ∙ length_push ts t in omega (arith, e)
  longer ts us p (inr (at, is)) = let e = ap length is in omega (arith, e)

  as_many : (n : ℕ) (us ts : List Token) → TokensOf R x n us → TokensOf R x n ts → length us ≡ length ts
  as_many zero us ts a b = ap length a ∙ sym (ap length b)
  as_many (suc n) us ts (p, us', turns, going, before, adds) (q, ts', turns', going', before', adds') =
      let same : q ≡ p = one_state R x n q p turns' turns in
      let ih = as_many n us' ts' before before' in
      both adds (subst (λ (w : State). Appends R x w.place ts' ts) same adds') ih
    where
      both : Appends R x p.place us' us → Appends R x p.place ts' ts → length us' ≡ length ts' → length us ≡ length ts
      both (inl (t, token, is)) (inl (t', token', is')) ih = let e = ap length is ∙ length_push us' t in let e' = ap length is' ∙ length_push ts' t' in omega (arith, e, e', ih)
      both (inr (at, is)) (inr (at', is')) ih = let e = ap length is in let e' = ap length is' in omega (arith, e, e', ih)
      both (inl (t, token, is)) (inr (at', is')) ih = absurd (let b = token.carries.before_end in omega (arith, at', b))
      both (inr (at, is)) (inl (t', token', is')) ih = absurd (let b = token'.carries.before_end in omega (arith, at, b))

  no_fewer : (d n m : ℕ) (us ts : List Token) → m ≡ d + n → TokensOf R x n us → TokensOf R x m ts → length us ≤ length ts
  no_fewer zero n m us ts is a b = let e = as_many n us ts a (subst (λ (i : ℕ). TokensOf R x i ts) (let f : m ≡ n = omega (arith, is) in f) b) in omega (arith, e)
  no_fewer (suc d) n zero us ts is a b = absurd (omega (arith, is))
  no_fewer (suc d) n (suc m) us ts is a (p, ts', turns, going, before, adds) =
      let ih = no_fewer d n m us ts' (omega (arith, is)) a before in
      let le = longer ts' ts p.place adds in
      omega (arith, ih, le)

  -- with the same tokens no more turns were made, where the scan goes on
  same_turns : (n m : ℕ) (us : List Token) (t : State) → n ≤ m → TokensOf R x n us → TokensOf R x m us → Turns R x m t → t.ended ≡ None → n ≡ m
  same_turns n zero us t le a b turns going = omega (arith, le)
  same_turns n (suc m) us t le a (p, ts, before, pending, tokens, adds) turns going = elim (cases_eq n (suc m)) [
    | inl same ↦ same
    | inr other ↦ absurd (from (omega (arith, le, other)) adds)
  ]
    where
      from : n ≤ m → Appends R x p.place ts us → ⊥
      from low (inl (u, token, is)) = let e = ap length is ∙ length_push ts u in let f = no_fewer (m - n) n m us ts (omega (arith, low)) a tokens in omega (arith, e, f)
      from low (inr (at, is)) =
          let end = at_the_end p t (next_of m p t before pending turns) at in
          some_none end.1 (sym end.2 ∙ going)

  -- the last token of a scan that goes on does not end it
  goes_on : (n : ℕ) (us : List Token) (t : State) → TokensOf R x n us → Turns R x n t → t.ended ≡ None → exits_last E (last_rule us) ≡ false
  goes_on zero us t none turns going = ap (λ l. exits_last E (last_rule l)) none
  goes_on (suc n) us t (p, ts, before, pending, tokens, inl (u, token, is)) turns going = last_is us ts u is ∙ token_goes p t u (next_of n p t before pending turns) token going
  goes_on (suc n) us t (p, ts, before, pending, tokens, inr (at, is)) turns going =
      let end = at_the_end p t (next_of n p t before pending turns) at in
      absurd (some_none end.1 (sym end.2 ∙ going))

  -- ---- the end of a scan

  -- where the tokens are all, the condition after any of the turns that told them is that of the end
  there : (us : List Token) (k n : ℕ) (p s last : State) → Turns R x k p → p.ended ≡ None → TokensOf R x k us → Turns R x (suc k) last → p.place.at ≡ length x → Turns R x n s → TokensOf R x n us → s.place.condition ≡ p.place.condition
  there us k n p s last turns going tokens after at more told = elim (cases_lt n (suc k)) [
    | inl low ↦
        (let same : n ≡ k = same_turns n k us p (omega (arith, low)) told tokens turns going in
        ap (λ (w : State). w.place.condition) (one_state R x k s p (subst (λ (i : ℕ). Turns R x i s) same more) turns))
    | inr high ↦
        (let end = at_the_end p last (next_of k p last turns going after) at in
        let sum : n - suc k + suc k ≡ n = omega (arith, high) in
        let same : s ≡ last = one_state R x n s last more (subst (λ i. Turns R x i last) sum (stays R x (suc k) (n - suc k) last end.1 end.2 after)) in
        ap (λ (w : State). w.place.condition) same ∙ end.0)
  ]

  pub end_of_scan : (us : List Token) (status : ℕ) (n : ℕ) (s : State) → Tokenised R x us (Status status) → Turns R x n s → TokensOf R x n us → IsEndOf R x (ended_in (exits_last E (last_rule us)) s.place.condition)
  end_of_scan us status n s h more told = from h.turns h.last h.reached h.ends h.tokens
    where
      by_end : (k : ℕ) (p last : State) → Turns R x k p → p.ended ≡ None → TokensOf R x k us → Turns R x (suc k) last → p.place.at ≡ length x → IsEndOf R x (ended_in (exits_last E (last_rule us)) s.place.condition)
      by_end k p last turns going tokens after at =
          subst (λ (b : Bool). IsEndOf R x (ended_in b s.place.condition)) (sym (goes_on k us p tokens turns going)) (k, p, turns, going, at, sym (there us k n p s last turns going tokens after at more told))

      by_exit : (k : ℕ) (p last : State) (u : Token) → Turns R x k p → p.ended ≡ None → IsToken R x p.place u → Turns R x (suc k) last → last.ended ≡ Some (Status status) → (c : ℕ) → EndsIn R x c → ⊥
      by_exit k p last u turns going token after ended c (m, t, reached, pending, at, is) = elim (cases_lt m (suc k)) [
        | inl low ↦ elim (cases_eq m k) [
          | inl same ↦
              (let here : t ≡ p = one_state R x k t p (subst (λ (i : ℕ). Turns R x i t) same reached) turns in
              let b = token.carries.before_end in
              let a = sym (ap (λ (w : State). w.place.at) here) ∙ at in
              omega (arith, a, b))
          | inr other ↦
              (let next = prefix (k - suc m) (suc m) k p (omega (arith, low, other)) turns in
              let end = at_the_end t next.0 (next_of m t next.0 reached pending next.1) at in
              not_before (suc m) k next.0 p end.1 (omega (arith, low, other)) next.1 end.2 turns going)
        ]
        | inr high ↦ not_before (suc k) m last t (Status status) high after ended reached pending
      ]

      from : (m : ℕ) (last : State) → Turns R x m last → last.ended ≡ Some (Status status) → TokensOf R x m us → IsEndOf R x (ended_in (exits_last E (last_rule us)) s.place.condition)
      from zero last turns ended tokens = absurd (some_none (Status status) (sym ended ∙ ap (λ (w : State). w.ended) turns))
      from (suc k) last turns ended (p, ts, before, going, tokens, inr (at, is)) = by_end k p last before going (subst (TokensOf R x k) (sym is) tokens) turns at
      from (suc k) last turns ended (p, ts, before, going, tokens, inl (u, token, is)) =
          subst (λ (b : Bool). IsEndOf R x (ended_in b s.place.condition)) (sym (last_is us ts u is ∙ token_ends p last u (next_of k p last before going turns) token status ended))
          (by_exit k p last u before going token turns ended)

-- ---- the condition that the scan has come to

front_of : (given left fed : List ℕ) (told at_end : Bool) → fed ≡ given ++ left → (at_end ≡ true → (told ≡ true) × (left ≡ [])) → (x : List ℕ) → Consistent fed told x → Consistent given at_end x
front_of given left fed told at_end all ending x (text, goes) = (text, by at_end refl)
  where
    longer : (b : Bool) → cond b (x ≡ fed) (BeginsWith x fed) → BeginsWith x given
    longer true is = (left, is ∙ all)
    longer false (rest, is) = (left ++ rest, is ∙ ap (λ l. l ++ rest) all ∙ append_assoc given left rest)

    by : (b : Bool) → at_end ≡ b → cond at_end (x ≡ given) (BeginsWith x given)
    by true e =
        let ends = ending e in
        let same : x ≡ fed = subst (λ (b : Bool). cond b (x ≡ fed) (BeginsWith x fed)) ends.0 goes in
        subst (λ (b : Bool). cond b (x ≡ given) (BeginsWith x given)) (sym e) (same ∙ all ∙ ap (λ l. given ++ l) ends.1 ∙ append-nil given)
    by false e = subst (λ (b : Bool). cond b (x ≡ given) (BeginsWith x given)) (sym e) (longer told goes)

pub comes_from : (M : Machine) (fed : List ℕ) (told : Bool) (tokens : List Token) (s : ScanState) (waiting : List ℕ) → TokensTold M fed told tokens s waiting → ComesToSo (rules_of_machine M) fed told tokens s.place.condition
comes_from M fed told tokens s waiting h x k =
    let front : Consistent h.given s.reading.at_end x = front_of h.given h.left fed told s.reading.at_end h.all h.ending x k in
    (h.turns, state_of h.out h.invariant.start s, (turns_of _ _ _ _ _ (h.invariant.scanned x front)), h.tokens_are x k, refl)

-- ---- by a table for a specification

end_to : (R Q : Rules) (x : List ℕ) → SameOver R Q x → (o : Option ℕ) → IsEndOf R x o → IsEndOf Q x o
end_to R Q x same (Some c) (n, s, turns, going, at, is) = (n, s, (same.turns n s).0 turns, going, at, is)
end_to R Q x same None none = λ c (n, s, turns, going, at, is). none c (n, s, (same.turns n s).1 turns, going, at, is)

pub table_end : (M : Machine) (laws : MachineLaws M) (S : Spec) → IsSound S → TableFor M S → (x : List ℕ) (us : List Token) (status condition : ℕ) → IsText x → Tokenised (rules_of_machine M) x us (Status status) → ComesTo (rules_of_machine M) x us condition
    → IsEndOf (rules_of S) x (ended_in (exits_last (exits_by (rules_of S)) (last_rule us)) condition)
table_end M laws S sound table x us status condition text all (n, s, turns, tokens, is) =
    let R = rules_of_machine M in
    let Q = rules_of S in
    let alike = table_alike M S sound table in
    let tells : (rule : MatchedRule) (i : ℕ) → IsRule R.count (Some rule) i → has_exit (statements_of R i) ≡ exits_by Q rule = λ rule i at.
    (ap has_exit (same_statements (rejects S) R Q alike i) ∙ by_rule Q rule i (subst (λ (c : ℕ). IsRule c (Some rule) i) table.count at)) in
    end_to R Q x (same_over M laws S sound table x text) _
    (subst (λ (c : ℕ). IsEndOf R x (ended_in (exits_last (exits_by Q) (last_rule us)) c)) is (end_of_scan R x (exits_by Q) tells us status n s all turns tokens))
