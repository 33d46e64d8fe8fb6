-- Where a scan stands between two turns that scans each line for itself.
use Rattle.std.proofs.Common.{◌≡◌, ℕ, zero, suc, ◌+◌, ◌-◌, ◌≤◌, ◌<◌, Bool, true, false, List, [], ◌∷◌, ◌++◌, length, take, drop, ◌⊎◌, inl, inr, None, refl, sym, ◌∙◌, ap, subst, arith}
use Rattle.std.specs.Prelude.{nat_lt, if◌then◌else◌}
use Rattle.std.proofs.lemmas.List.{length-append, length-take-le, length-drop, drop_all, append-nil}
use Rattle.std.proofs.lemmas.Bool.{cond-true, cond-false, lt-ltb, le-ltb, cases_lt, eqb-true, eq-eqb}
use Rattle.lex_semantics.proofs.ResultsAre.{results_are}
use Rattle.lex_semantics.specs.Text.{IsText, Among, part, byte_at, at_line_start}
use Rattle.lex_semantics.specs.Spec.{Cut, Whole, Head, Trail, Statement, Echo, Begin, More, Reject, Pop}
use Rattle.lex_semantics.specs.Rules.{Rules, Full, statements_of}
use Rattle.lex_semantics.specs.Laws.{Laws}
use Rattle.lex_semantics.specs.Legal.{IsAction}
use Rattle.lex_semantics.specs.Candidates.{Candidate, IsCandidate}
use Rattle.lex_semantics.specs.Acting.{Acting}
use Rattle.lex_semantics.specs.Run.{Place, State, MatchTurn, next_place, next_start}
use Rattle.lex_semantics.specs.Machine.{Machine, MachineFits, Keeps, state_after, rules_of_machine}
use Rattle.lex_semantics.specs.MachineLaws.{MachineLaws}
use Rattle.lex_semantics.proofs.MachineLaws.{machine_laws}
use Rattle.lex_semantics.proofs.Actions.{less_from_one, begins_below}
use Rattle.lex_semantics.proofs.Ends as E
use Rattle.lex_semantics.proofs.Texts.{is_text_take, is_text_drop}
use Rattle.lexlook_tables.specs.Lines.{may_keep_last, after_line, TakesLine, DiscardsLine, KeepsLines}
use Rattle.lexlook_tables.proofs.Deeds.{IsSteady, EndsLine, steady_of, ends_of, stays}
use Rattle.lexlook_tables.proofs.Does.{Leaves, Does, does}
use Rattle.lexlook_tables.proofs.Settles.{Settles, settles, begin}
use Rattle.lexlook_tables.proofs.Bytes.{split_at, byte_at_take, byte_at_drop, past, goes_past}

-- The text so far has no newline, and where a line starts the scan is in INITIAL.
pub record Home (M : Machine) (x : List ℕ) (p : Place) : Type 0 where
  pub ordered : p.start ≤ p.at
  pub fits : p.at ≤ length x
  pub condition : p.condition < M.conditions
  pub stack : p.stack ≡ []
  pub inner : (i : ℕ) → p.start ≤ i → i < p.at → byte_at x i ≡ 10 → ⊥
  pub line : at_line_start x p.at ≡ true → p.condition ≡ 0

echo_steady : IsSteady (Echo ∷ [])
echo_steady = record { no_end = λ e at. elim at [ inl is ↦ absurd cc | inr at ↦ at ]; no_push = λ d at. elim at [ inl is ↦ absurd cc | inr at ↦ at ]; no_pop = none; rejects = λ at. absurd (not at) }
  where
    none : Among (Echo ∷ []) Pop → ⊥
    none (inl is) = absurd cc
    none (inr at) = at

    not : Among (Echo ∷ []) Reject → ⊥
    not (inl is) = absurd cc
    not (inr at) = at

-- the whole of a match may have its last byte in its text
may_keep : (c : Cut) (n k : ℕ) → Keeps c n k → k ≡ n → may_keep_last c ≡ true
may_keep Whole n k h e = refl
may_keep (Head m) n k h e = refl
may_keep (Trail t) n k h e = eq-eqb t 0 (omega (arith, h.0, e))

no_more_in_echo : Among (Echo ∷ []) More → ⊥
no_more_in_echo (inl is) = absurd cc
no_more_in_echo (inr at) = at

no_begin_in_echo : (d : ℕ) → Among (Echo ∷ []) (Begin d) → ⊥
no_begin_in_echo d (inl is) = absurd cc
no_begin_in_echo d (inr at) = at

no_true : false ≡ true → ⊥
no_true e = cc

module _ (M : Machine) (laws : MachineLaws M) (keeps : KeepsLines M) where
  abbrev pub R : Rules
  R = rules_of_machine M

  abbrev pub l : Laws R
  l = machine_laws M laws

  own_statements : (i : ℕ) → i < M.count → statements_of R i ≡ M.statements i
  own_statements i lt = cond-true (nat_lt i M.count) (M.statements i) (Echo ∷ []) (lt-ltb i M.count lt)

  default_statements : (i : ℕ) → M.count ≤ i → statements_of R i ≡ Echo ∷ []
  default_statements i le = cond-false (nat_lt i M.count) (M.statements i) (Echo ∷ []) (le-ltb i M.count le)

  pub steady : (i : ℕ) → IsSteady (statements_of R i)
  steady i = elim (cases_lt i M.count) [
    | inl lt ↦ subst IsSteady (sym (own_statements i lt)) (steady_of (M.statements i) (keeps.steady i lt))
    | inr le ↦ subst IsSteady (sym (default_statements i le)) echo_steady
  ]

  module _ (x : List ℕ) (text : IsText x) (p : Place) (h : Home M x p) (s : State) (turn : MatchTurn R x p s) where
    abbrev y : List ℕ
    y = drop p.at x

    abbrev line_start : Bool
    line_start = at_line_start x p.at

    abbrev kept : List ℕ
    kept = part x p.start p.at

    settled : Settles R kept y turn.matches p.condition p.stack turn.outcome
    settled = settles R steady kept y turn.matches turn.all.in_order [] p.condition p.stack turn.outcome (sym (results_are _ _ _ _ _ _ _) ∙ turn.performed)

    abbrev m : Candidate
    m = settled.taken

    abbrev a : Acting
    a = begin (kept ++ take m.keep y) settled.out p.condition p.stack

    abbrev b : Acting
    b = turn.outcome

    abbrev ss : List Statement
    ss = statements_of R m.rule

    fit : IsCandidate R p.condition line_start y m
    fit = (turn.all.members m).0 settled.among

    legal : IsAction M.conditions ss
    legal = E.legal_of R laws.legal m.rule (cases_lt m.rule M.count)

    left : Leaves M.conditions ss a b
    left = subst (Does M.conditions ss a) settled.done (does M.conditions ss a ((steady m.rule).no_end, (steady m.rule).no_push, (steady m.rule).no_pop))

    abbrev w : List ℕ
    w = take m.len y

    w_size : length w ≡ m.len
    w_size = length-take-le m.len y fit.0

    y_size : length y ≡ length x - p.at
    y_size = length-drop p.at x

    keep_some : 1 ≤ m.keep
    keep_some = from fit.1
      where
        from : Full R p.condition line_start w m.rule m.keep → 1 ≤ m.keep
        from (inl f) = l.some_text p.condition line_start w m.rule m.keep f.1
        from (inr f) = omega (arith, f.2)

    keep_fits : m.keep ≤ m.len
    keep_fits = from fit.1
      where
        from : Full R p.condition line_start w m.rule m.keep → m.keep ≤ m.len
        from (inl f) = (let k = l.inside p.condition line_start w m.rule m.keep f.1 in omega (arith, k, w_size))
        from (inr f) = omega (arith, f.1, f.2, w_size)

    kept_size : length kept ≡ p.at - p.start
    kept_size = length-take-le (p.at - p.start) (drop p.start x) (rw length-drop (omega (arith, h.ordered, h.fits)))

    a_size : length (kept ++ take m.keep y) ≡ (p.at - p.start) + m.keep
    a_size = (let e = length-append kept (take m.keep y) in let k = length-take-le m.keep y (omega (arith, keep_fits, fit.0)) in omega (arith, e, k, kept_size))

    some_text : 1 ≤ length b.text
    some_text = subst (E.Leaves (λ z. 1 ≤ length z.text)) settled.done (E.not_empty ss a (less_from_one M.conditions ss legal.ranges) (omega (arith, a_size, keep_some)))

    no_more_text : length b.text ≤ (p.at - p.start) + m.keep
    no_more_text = subst (E.Leaves (λ z. length z.text ≤ (p.at - p.start) + m.keep)) settled.done (E.no_longer ((p.at - p.start) + m.keep) ss a (omega (arith, a_size)))

    -- a newline in the text leaves the scan in INITIAL, and no text behind
    newline : (j : ℕ) → j < m.keep → byte_at y j ≡ 10 → (b.condition ≡ 0) × (b.more ≡ true → ⊥)
    newline j lt is = from fit.1
      where
        here : byte_at w j ≡ 10
        here = byte_at_take y m.len j (omega (arith, lt, keep_fits)) ∙ is

        home_by : EndsLine p.condition ss → (b.condition ≡ 0) × (b.more ≡ true → ⊥)
        home_by ends = (left.home ends.home ends.begins, λ e. elim (left.more e) [ inl was ↦ no_true was | inr at ↦ ends.no_more at ])

        from : Full R p.condition line_start w m.rule m.keep → (b.condition ≡ 0) × (b.more ≡ true → ⊥)
        from (inl f) = home_by (subst (EndsLine p.condition) (sym (own_statements m.rule f.0)) (ended (cases_lt (suc j) (length w))))
          where
            w_text : IsText w
            w_text = is_text_take m.len y (is_text_drop p.at x text)

            accepted : Among (M.accepts (state_after M p.condition line_start w)) m.rule
            accepted = f.1.accepted

            -- the newline is the last byte
            at_end : suc j ≡ length w → EndsLine p.condition (M.statements m.rule)
            at_end end = ends_of p.condition (M.statements m.rule) ((keeps.lines p.condition h.condition).ends line_start (take j w) (is_text_take j w w_text) m.rule
                (subst (λ v. Among (M.accepts (state_after M p.condition line_start v)) m.rule) whole accepted) (may_keep (M.cut m.rule) (length w) m.keep f.1.keeps (omega (arith, end, lt, keep_fits, w_size))))
              where
                whole : w ≡ take j w ++ 10 ∷ []
                whole = split_at w j (omega (arith, end)) ∙ ap (λ r. (take j w ++ byte_at w j ∷ []) ++ r) (drop_all (suc j) w (omega (arith, end))) ∙ append-nil (take j w ++ byte_at w j ∷ []) ∙ ap (λ z. take j w ++ z ∷ []) here

            -- the match goes on after it, and is discarded
            goes_on_to : suc j < length w → (M.goes_on (after_line M p.condition line_start (take j w)) ≡ false) ⊎ DiscardsLine M p.condition (after_line M p.condition line_start (take j w)) → EndsLine p.condition (M.statements m.rule)
            goes_on_to less (inl stops) = absurd (no_true (sym stops ∙ goes_past M p.condition line_start w m.rule j accepted less here laws w_text))
            goes_on_to less (inr d) =
                let empty = (d.discards (drop (suc j) w) m.rule (is_text_drop (suc j) w w_text) (past M p.condition line_start w m.rule j accepted less here)).1 in
                subst (EndsLine p.condition) (sym empty) (record { home = λ e at. absurd at; begins = inl d.initial; no_more = λ at. at })

            ended : (suc j < length w) ⊎ (length w ≤ suc j) → EndsLine p.condition (M.statements m.rule)
            ended (inl less) = goes_on_to less ((keeps.lines p.condition h.condition).stops line_start (take j w) (is_text_take j w w_text))
            ended (inr more) = at_end (omega (arith, more, w_size, lt, keep_fits))
        from (inr f) = (left.same (λ d at. no_begin_in_echo d (subst (λ z. Among z (Begin d)) echoes at)) ∙ initial p.condition refl, λ e. elim (left.more e) [ inl was ↦ no_true was | inr at ↦ no_more_in_echo (subst (λ z. Among z More) echoes at) ])
          where
            echoes : ss ≡ Echo ∷ []
            echoes = default_statements m.rule (omega (arith, f.0))

            first : j ≡ 0
            first = omega (arith, lt, f.2)

            front : take 1 y ≡ 10 ∷ []
            front = one y (omega (arith, fit.0, f.1, w_size)) (ap (byte_at y) (sym first) ∙ is)
              where
                one : (z : List ℕ) → 1 ≤ length z → byte_at z 0 ≡ 10 → take 1 z ≡ 10 ∷ []
                one [] some e = absurd (omega (arith, some))
                one (c ∷ z) some e = ap (λ d. d ∷ []) e

            initial : (c : ℕ) → p.condition ≡ c → p.condition ≡ 0
            initial zero e = e
            initial (suc c) e = absurd (stays (M.statements t.rule) t.stays (subst (λ z. Among z Reject) (own_statements t.rule below) rejected))
              where
                t : TakesLine M p.condition line_start
                t = (keeps.lines p.condition h.condition).takes line_start (omega (arith, e))

                below : t.rule < M.count
                below = laws.in_range (after_line M p.condition line_start []) t.rule t.accepted

                n : Candidate
                n = record { len = 1; rule = t.rule; keep = 1 }

                n_fits : IsCandidate R p.condition line_start y n
                n_fits = (
                  omega (arith, fit.0, f.1, w_size),
                  inl (below, subst (λ v. MachineFits M p.condition line_start v t.rule 1) (sym front) (record { not_empty = omega arith; accepted = t.accepted; keeps = subst (λ z. Keeps z 1 1) (sym t.whole) refl })),
                )

                rejected : Among (statements_of R t.rule) Reject
                rejected = settled.before n ((turn.all.members n).1 n_fits) (inr (omega (arith, f.1, w_size), omega (arith, below, f.0)))

    abbrev end : ℕ
    end = p.start + length b.text

    abbrev place_by : Bool → Place
    place_by more = record { start = if more then p.start else end; at = end; condition = b.condition; stack = b.stack }

    inside_text : (i : ℕ) → p.at ≤ i → i < end → (i - p.at < m.keep) × (byte_at y (i - p.at) ≡ byte_at x i)
    inside_text i le lt = (omega (arith, le, lt, no_more_text, h.ordered), byte_at_drop x p.at (i - p.at) ∙ ap (byte_at x) sum)
      where
        sum : p.at + (i - p.at) ≡ i
        sum = omega (arith, le)

    in_text : (i : ℕ) → p.start ≤ i → i < end → byte_at x i ≡ 10 → (b.condition ≡ 0) × (b.more ≡ true → ⊥)
    in_text i some lt is = elim (cases_lt i p.at) [
      | inl less ↦ absurd (h.inner i some less is)
      | inr more ↦ (let k = inside_text i more lt in newline (i - p.at) k.0 (k.1 ∙ is))
    ]

    home_by : (more : Bool) → b.more ≡ more → Home M x (place_by more)
    home_by more is = record {
      ordered = ordered more;
      fits = omega (arith, no_more_text, h.ordered, h.fits, keep_fits, fit.0, y_size);
      condition = left.below (begins_below M.conditions ss legal.ranges) h.condition;
      stack = left.stack ∙ h.stack;
      inner = inner more is;
      line = line end refl;
    }
      where
        ordered : (z : Bool) → (if z then p.start else end) ≤ end
        ordered true = omega arith
        ordered false = omega arith

        inner : (z : Bool) → b.more ≡ z → (i : ℕ) → (if z then p.start else end) ≤ i → i < end → byte_at x i ≡ 10 → ⊥
        inner true e i some lt ten = (in_text i some lt ten).1 e
        inner false e i some lt ten = omega (arith, some, lt)

        line : (k : ℕ) → end ≡ k → at_line_start x end ≡ true → b.condition ≡ 0
        line zero e at = absurd (omega (arith, e, some_text))
        line (suc k) e at = (in_text k (omega (arith, e, some_text)) (omega (arith, e)) (eqb-true (byte_at x k) 10 (ap (at_line_start x) (sym e) ∙ at))).0

    pub goes_on : s.ended ≡ None
    goes_on = ap (λ (z : State). z.ended) turn.leaves ∙ settled.going

    pub home_after : Home M x s.place
    home_after = subst (Home M x) (sym (ap (λ (z : State). z.place) turn.leaves ∙ place)) (home_by b.more refl)
      where
        place : next_place p turn.outcome ≡ place_by b.more
        place = ap (λ z. record { start = next_start z b.more p.start end; at = end; condition = b.condition; stack = b.stack }) settled.going
