-- What a turn gives up is what it rejects.
use Rattle.std.proofs.Common.{◌≡◌, ◌∙◌, ℕ, suc, ◌-◌, ◌≤◌, ◌<◌, ◌⊎◌, Bool, true, false, cond, List, [], ◌∷◌, ◌++◌, length, map, take, inl, inr, Option, Some, None, refl, sym, ap, subst, arith}
use Rattle.std.specs.Prelude.{◌&&◌, ⊤, not, nat_lt, if◌then◌else◌}
use Rattle.std.specs.List.{list_all}
use Rattle.std.proofs.lemmas.Bool.{cases_lt, cond-true, cond-false, lt-ltb, le-ltb}
use Rattle.lex_semantics.specs.Acting.{Acting, Status, StackFault}
use Rattle.lex_semantics.specs.ActionResults.{ActionResult, Done, Again, Over, act_result, has_room, perform_results, popped, settle}
use Rattle.lex_semantics.specs.Candidates.{Candidate}
use Rattle.lex_semantics.specs.Legal.{IsAction, ends_action, ends_last}
use Rattle.lex_semantics.specs.Rules.{Rules, rules_of, statements_of}
use Rattle.lex_semantics.specs.Sound.{IsSound}
use Rattle.lex_semantics.specs.Spec.{Rule, Spec, statements_at, Statement, Echo, Print, Begin, More, Less, Reject, End, Push, Pop, has_reject}
use Rattle.lex_semantics.proofs.Once.{one_candidates}
use Rattle.lex_semantics.proofs.Table.{get_at}
use Rattle.lex_semantics.proofs.ResultsAre.{results_are}
use Rattle.lex_semantics.specs.Text.{at_line_start, part}
use Rattle.lexscan_matching.proofs.Picking.{never_rejects}
use Rattle.lexlook_counts.specs.GivenUp.{given_up}
use Rattle.lexlook_counts.specs.GivenUpLaws.{GivesUpRejected}

-- ---- an action that ends without a fault has no REJECT

abbrev Quiet : List Statement → ActionResult → Type 0
Quiet ss (Done a) = has_reject ss ≡ false
Quiet ss (Again a) = ⊤
Quiet ss (Over a (Status s)) = has_reject ss ≡ false
Quiet ss (Over a StackFault) = ⊤

unless_full : (ss : List Statement) (b : Bool) (a : Acting) (w : ActionResult) → Quiet ss w → Quiet ss (if b then w else Over a StackFault)
unless_full ss true a w h = h
unless_full ss false a w h = tt

unless_empty : (ss : List Statement) (cs : List ℕ) (a : Acting) (next : ℕ → List ℕ → ActionResult) → ((c : ℕ) (rest : List ℕ) → Quiet ss (next c rest)) → Quiet ss (popped cs a next)
unless_empty ss [] a next h = tt
unless_empty ss (c ∷ cs) a next h = h c cs

parts_true : (a b : Bool) → (a && b) ≡ true → (a ≡ true) × (b ≡ true)
parts_true true b h = (refl, h)
parts_true false b h = absurd (no h)
  where
    no : false ≡ true → ⊥
    no p = cc

-- the statements behind one
one_last : (s : Statement) (ss : List Statement) → ends_last (s ∷ ss) ≡ true → ends_last ss ≡ true
one_last s [] h = refl
one_last s (t ∷ ss) h =
    let long : length (s ∷ t ∷ ss) - 1 ≡ suc (length (t ∷ ss) - 1) = omega arith in
    (parts_true (not (ends_action s)) (ends_last (t ∷ ss)) (sym (ap (λ (k : ℕ). list_all (λ q. not (ends_action q)) (take k (s ∷ t ∷ ss))) long) ∙ h)).1

-- what ends the scan is the last one
end_alone : (n : ℕ) (ss : List Statement) → ends_last (End n ∷ ss) ≡ true → has_reject ss ≡ false
end_alone n [] h = refl
end_alone n (t ∷ ss) h = absurd (no (parts_true false (ends_last (t ∷ ss)) (sym (ap (λ (k : ℕ). list_all (λ q. not (ends_action q)) (take k (End n ∷ t ∷ ss))) long) ∙ h)).0)
  where
    long : length (End n ∷ t ∷ ss) - 1 ≡ suc (length (t ∷ ss) - 1)
    long = omega arith

    no : false ≡ true → ⊥
    no p = cc

quiet : (ss : List Statement) (a : Acting) → ends_last ss ≡ true → Quiet ss (act_result ss a)
quiet [] a h = refl
quiet (Echo ∷ ss) a h = quiet ss (record a { written = a.written ++ a.text }) (one_last Echo ss h)
quiet (Print s ∷ ss) a h = quiet ss (record a { written = a.written ++ s }) (one_last (Print s) ss h)
quiet (Begin d ∷ ss) a h = quiet ss (record a { condition = d }) (one_last (Begin d) ss h)
quiet (More ∷ ss) a h = quiet ss (record a { more = true }) (one_last More ss h)
quiet (Less n ∷ ss) a h = quiet ss (record a { text = take n a.text }) (one_last (Less n) ss h)
quiet (Reject ∷ ss) a h = tt
quiet (End n ∷ ss) a h = end_alone n ss h
quiet (Push d ∷ ss) a h =
    unless_full ss (has_room a.stack) a (act_result ss (record a { condition = d; stack = a.condition ∷ a.stack })) (quiet ss (record a { condition = d; stack = a.condition ∷ a.stack }) (one_last (Push d) ss h))
quiet (Pop ∷ ss) a h =
    unless_empty ss a.stack a (λ c cs. act_result ss (record a { condition = c; stack = cs })) (λ c cs. quiet ss (record a { condition = c; stack = cs }) (one_last Pop ss h))

-- ---- the matches of a turn

-- The rules have actions such as a specification may have.
abbrev HaveActions : Rules → Type 0
HaveActions R = (i : ℕ) → i < R.count → IsAction R.conditions (R.statements i)

module _ (R : Rules) (actions : HaveActions R) where
  ends_well : (i : ℕ) → ends_last (statements_of R i) ≡ true
  ends_well i = from (cases_lt i R.count)
    where
      from : (i < R.count) ⊎ (R.count ≤ i) → ends_last (statements_of R i) ≡ true
      from (inl lt) = ap ends_last (cond-true (nat_lt i R.count) (R.statements i) (Echo ∷ []) (lt-ltb i R.count lt)) ∙ (actions i lt).last
      from (inr le) = ap ends_last (cond-false (nat_lt i R.count) (R.statements i) (Echo ∷ []) (le-ltb i R.count le))

  -- one is carried out: its action has no REJECT
  taken_quiet : (ss : List Statement) (w : ActionResult) (o : Acting) → Quiet ss w → settle w (λ b. None) ≡ Some o → (o.ended ≡ Some StackFault → ⊥) → has_reject ss ≡ false
  taken_quiet ss (Done a) o h e well = h
  taken_quiet ss (Again a) o h e well = absurd (no e)
    where
      no : ◌≡◌ {A = Option Acting} None (Some o) → ⊥
      no p = cc
  taken_quiet ss (Over a (Status s)) o h e well = h
  taken_quiet ss (Over a StackFault) o h e well = absurd (well (ap (λ (b : Acting). b.ended) (sym (same e))))
    where
      same : ◌≡◌ {A = Option Acting} (Some (record a { ended = Some StackFault })) (Some o) → record a { ended = Some StackFault } ≡ o
      same p = cc

  -- one is rejected: its action has REJECT
  rejected_some : (ss : List Statement) (a : Acting) (next : Acting → Option Acting) → settle (act_result ss a) next ≡ None → (b : Acting) × (act_result ss a ≡ Again b) × (next b ≡ None)
  rejected_some ss a next e = from (act_result ss a) refl e
    where
      from : (w : ActionResult) → act_result ss a ≡ w → settle w next ≡ None → (b : Acting) × (act_result ss a ≡ Again b) × (next b ≡ None)
      from (Done b) is none = absurd (no none)
        where
          no : Some (record b { ended = None }) ≡ None → ⊥
          no p = cc
      from (Again b) is none = (b, is, none)
      from (Over b d) is none = absurd (no none)
        where
          no : Some (record b { ended = Some d }) ≡ None → ⊥
          no p = cc

  has_one : (ss : List Statement) (a b : Acting) → act_result ss a ≡ Again b → has_reject ss ≡ true
  has_one ss a b is = from (has_reject ss) refl
    where
      from : (t : Bool) → has_reject ss ≡ t → has_reject ss ≡ true
      from true e = e
      from false e = absurd (never_rejects ss a b e is)

  -- those before the one that is carried out are given up
  pub passed_given_up : (kept y : List ℕ) (passed left : List Candidate) (m : Candidate) (o : Acting) (out : List ℕ) (d : ℕ) (cs : List ℕ) → perform_results R kept y passed out d cs ≡ None → perform_results R kept y (passed ++ m ∷ []) out d cs ≡ Some o
      → (o.ended ≡ Some StackFault → ⊥) → given_up R (passed ++ m ∷ left) ≡ map (λ q. q.rule) passed
  unfolding perform_results
  passed_given_up kept y [] left m o out d cs none some well =
      let a : Acting = record { text = kept ++ take m.keep y; written = out; condition = d; stack = cs; more = false; ended = None } in
      let quiet_one = taken_quiet (statements_of R m.rule) (act_result (statements_of R m.rule) a) o (quiet (statements_of R m.rule) a (ends_well m.rule)) some well in
      ap (λ (b : Bool). cond b (m.rule ∷ given_up R left) []) quiet_one
  passed_given_up kept y (q ∷ passed) left m o out d cs none some well =
      let a : Acting = record { text = kept ++ take q.keep y; written = out; condition = d; stack = cs; more = false; ended = None } in
      let again = rejected_some (statements_of R q.rule) a (λ b. perform_results R kept y passed b.written b.condition b.stack) none in
      let later : perform_results R kept y (passed ++ m ∷ []) again.0.written again.0.condition again.0.stack ≡ Some o =
      sym (ap (λ (w : ActionResult). settle w (λ b. perform_results R kept y (passed ++ m ∷ []) b.written b.condition b.stack)) again.1) ∙ some in
      ap (λ (b : Bool). cond b (q.rule ∷ given_up R (passed ++ m ∷ left)) []) (has_one (statements_of R q.rule) a again.0 again.1)
      ∙ ap (λ (l : List ℕ). q.rule ∷ l) (passed_given_up kept y passed left m o again.0.written again.0.condition again.0.stack again.2 later well)

have_actions : (S : Spec) → IsSound S → HaveActions (rules_of S)
have_actions S sound i lt = let r = get_at S.rules i lt in subst (λ (o : Option Rule). IsAction (length S.conditions) (statements_at o)) (sym r.1) (sound.rules i r.0 r.1).legal.0

pub gives_up_rejected : (S : Spec) → IsSound S → GivesUpRejected (rules_of S)
gives_up_rejected S sound x p m o rules h well k =
    let R : Rules = rules_of S in
    let same : k.matches ≡ h.passed ++ m ∷ h.left = one_candidates R p.condition (at_line_start x p.at) _ k.matches (h.passed ++ m ∷ h.left) k.all h.all in
    k.rules_are ∙ ap (given_up R) same
    ∙ passed_given_up R (have_actions S sound) (part x p.start p.at) _ h.passed h.left m o [] p.condition p.stack (sym (results_are _ _ _ _ _ _ _) ∙ h.rejected) (sym (results_are _ _ _ _ _ _ _) ∙ h.carried) well
