-- What is planned of the matches at a place.
use Rattle.std.proofs.Common.{◌≡◌, ℕ, suc, ◌+◌, ◌-◌, ◌≤◌, ◌<◌, Bool, true, false, List, [], ◌∷◌, ◌++◌, length, take, drop, get_or, inl, inr, Option, Some, None, refl, sym, ◌∙◌, ap, subst, arith}
use Rattle.std.specs.Prelude.{◌==◌, ◌&&◌, filter_map, map, nat_lt, nat_le, IfSome, if◌then◌else◌}
use Rattle.std.proofs.lemmas.List.{append-nil, append_assoc, drop_more, drop_all, length-drop, map-append, take-append-drop}
use Rattle.std.proofs.lemmas.Bool.Decides.{nat_tests}
use Rattle.lex_semantics.specs.Spec as S
use Rattle.lex_semantics.specs.Candidates.{Candidate}
use Rattle.lex_semantics.specs.Machine.{Machine}
use Rattle.lex_semantics.specs.PlainMachine.{kept_by, match_of}
use Rattle.lex_semantics.specs.Trail.{falling}
use Rattle.lex_semantics.specs.ActionResults.{act_result}
use Rattle.lex_semantics.proofs.Once.{some_inj}
use Rattle.lex_machine.specs.declared.action.Statement.{Statement}
use Rattle.lex_machine.specs.declared.glance.Way.{Way}
use Rattle.lex_machine.specs.Glances.{Leads, are_simple}
use Rattle.lex_machine.specs.Views.{statement_of}
use Rattle.lexscan_window.specs.declared.state.TextPlace.{TextPlace}
use Rattle.lexscan_window.specs.declared.act.ActionState.{ActionState}
use Rattle.lexscan_window.specs.Acts.{acting_of}
use Rattle.lexscan_window.proofs.Saying.{left_is}
use Rattle.lexscan_matching.specs.declared.pick.Pick.{Pick}
use Rattle.lexscan_matching.specs.declared.plan.Close.{Close}
use Rattle.lexscan_matching.specs.declared.plan.FirstTwo.{FirstTwo}
use Rattle.lexscan_matching.specs.declared.plan.Plan.{Plan}
use Rattle.lexscan_matching.specs.Glanced.{all_said, all_begun}
use Rattle.lexscan_matching.specs.Picks.{IsFirst, HasStatements, path_of, state_at}
use Rattle.lexscan_matching.specs.Plans.{closing, closing_more, IsClose, IsKnown, AreFirstTwo, AreStates, IsPlan, FollowsAll, PlansAll}
use Rattle.lexscan_matching.proofs.Descending.{one_match, no_match}
use Rattle.lexscan_matching.proofs.Picking.{first_before, first_after, first_same, falling_last}

-- a list that is not empty
pub some_there : (l : List ℕ) → (length l == 0) ≡ false → 0 < length l
some_there [] e = absurd (no e)
  where
    no : true ≡ false → ⊥
    no q = cc
some_there (x ∷ l) e = omega arith

pub none_there : (l : List ℕ) → (length l == 0) ≡ true → l ≡ []
none_there [] e = refl
none_there (x ∷ l) e = let zeros : suc (length l) ≡ 0 = grind (arith, nat_tests) in absurd (omega (arith, zeros))

-- what a cut keeps is some of a match that is not empty
head_some : (a b : Bool) (m k : ℕ) → (a ≡ true → 1 ≤ m) → (if a && b then Some m else None) ≡ Some k → 1 ≤ k
head_some true true m k h e = let f = some_inj m k e in let some = h refl in omega (arith, f, some)
head_some true false m k h e = absurd (no e)
  where
    no : None ≡ Some k → ⊥
    no q = cc
head_some false b m k h e = absurd (no e)
  where
    no : None ≡ Some k → ⊥
    no q = cc

trail_some : (a : Bool) (m k : ℕ) → (a ≡ true → 1 ≤ m) → (if a then Some m else None) ≡ Some k → 1 ≤ k
trail_some true m k h e = let f = some_inj m k e in let some = h refl in omega (arith, f, some)
trail_some false m k h e = absurd (no e)
  where
    no : None ≡ Some k → ⊥
    no q = cc

pub kept_some : (c : S.Cut) (n k : ℕ) → 1 ≤ n → kept_by c n ≡ Some k → 1 ≤ k
kept_some S.Whole n k some e = let f = some_inj n k e in omega (arith, f, some)
kept_some (S.Head m) n k some e = head_some (nat_lt 0 m) (nat_le m n) m k (λ h. grind (arith, nat_tests)) e
kept_some (S.Trail t) n k some e = trail_some (nat_lt t n) (n - t) k (λ h. grind (arith, nat_tests)) e

same_head : (a b : Candidate) (xs ys : List Candidate) → a ∷ xs ≡ b ∷ ys → a ≡ b
same_head a b xs ys e = cc

none_first : {P : Type 0} (m : Candidate) (rest : List Candidate) → [] ≡ m ∷ rest → P
none_first m rest e = cc

-- each match of some bytes keeps some of them
first_some : (M : Machine) (n : ℕ) (l : List ℕ) (m : Candidate) (rest : List Candidate) → 1 ≤ n → filter_map (match_of M n) l ≡ m ∷ rest → 1 ≤ m.keep
first_some M n [] m rest some e = none_first m rest e
first_some M n (i ∷ l) m rest some e = by_kept (λ h. first_some M n l m rest some h) (kept_by (M.cut i) n) refl
  where
    by_kept : (filter_map (match_of M n) l ≡ m ∷ rest → 1 ≤ m.keep) → (o : Option ℕ) → kept_by (M.cut i) n ≡ o → 1 ≤ m.keep
    by_kept others None is = others (sym (no_match M n i l is) ∙ e)
    by_kept others (Some k) is =
        let same : record { len = n; rule = i; keep = k } ≡ m = same_head (record { len = n; rule = i; keep = k }) m (filter_map (match_of M n) l) rest (sym (one_match M n i k l is) ∙ e) in
        subst (λ (c : Candidate). 1 ≤ c.keep) same (kept_some (M.cut i) n k some is)

-- what is known of a match that was found
pub known_by : (M : Machine) (n len : ℕ) (l : List ℕ) (o : Option Pick) → 1 ≤ n → n ≤ len → IsFirst (filter_map (match_of M n) l) o → IfSome o (λ pick. pick.rule < M.count) → IfSome o (HasStatements M) → IfSome o (λ pick. pick.keep ≤ n) → IfSome o (IsKnown M len)
known_by M n len l None some few first known statements short = tt
known_by M n len l (Some pick) some few (k, rest, e) known statements short = (known, statements, first_some M n l (record { len = k; rule = pick.rule; keep = pick.keep }) rest some e, omega (arith, short, few))

pub two_first : (M : Machine) (s len : ℕ) (r : List ℕ) (two : FirstTwo) → r ≡ M.accepts s → 0 < length r → two.first.rule ≡ get_or r 0 0 → kept_by (M.cut (get_or r 0 0)) len ≡ Some two.first.keep → IsKnown M len two.first → 1 ≤ len →
    IsFirst (filter_map (match_of M len) (drop 1 r)) two.second → IfSome two.second (λ pick. pick.rule < M.count) → IfSome two.second (HasStatements M) → IfSome two.second (λ pick. pick.keep ≤ len) → AreFirstTwo M s len two
two_first M s len r two is lt rule keep known some second below statements short = record {
  others = filter_map (match_of M len) (drop 1 r);
  first = ap (filter_map (match_of M len)) (sym is ∙ drop_more r 0 0 lt) ∙ one_match M len (get_or r 0 0) two.first.keep (drop 1 r) keep ∙ ap (λ k. record { len = len; rule = k; keep = two.first.keep } ∷ filter_map (match_of M len) (drop 1 r)) (sym rule);
  second = second;
  known = known;
  second_known = known_by M len len (drop 1 r) two.second some (omega arith) second below statements short;
}

-- the match after the first one is as long
pub follows_second : (M : Machine) (len : ℕ) (before : Option ℕ) (second : Option Pick) (pick : Pick) → second ≡ Some pick → (state : ℕ) → FollowsAll M len state before second pick
follows_second M len before second pick is state p w others a first = first_before others (falling M 0 (path_of M p w (len - 1))) pick (subst (IsFirst others) is first)

-- or one byte shorter
pub follows_below : (M : Machine) (len s : ℕ) (before : Option ℕ) (second o : Option Pick) → second ≡ None → before ≡ Some s → IsFirst (filter_map (match_of M (len - 1)) (M.accepts s)) o → IfSome o (λ pick. (state : ℕ) → FollowsAll M len state before second pick)
follows_below M len s before second None none is h = tt
follows_below M len s before second (Some pick) none is h = λ state p w others a first.
    let b = subst (λ o. IfSome o (λ b. (2 ≤ len) × (b ≡ state_at M p w (len - 1)))) is a.before_is in
    let here = subst (λ k. IsFirst (filter_map (match_of M (len - 1)) (M.accepts k)) (Some pick)) b.1 h in
    first_after others (falling M 0 (path_of M p w (len - 1))) (Some pick) (subst (IsFirst others) none first)
    (first_same (falling M 0 (path_of M p w (len - 1))) (filter_map (match_of M (len - 1)) (M.accepts (state_at M p w (len - 1))) ++ falling M 0 (path_of M p w (len - 1 - 1))) (Some pick)
    (falling_last M p w (len - 1) (let two = b.0 in omega (arith, two)) (let inside = a.inside in omega (arith, inside)))
    (first_before (filter_map (match_of M (len - 1)) (M.accepts (state_at M p w (len - 1)))) (falling M 0 (path_of M p w (len - 1 - 1))) pick here))

-- the statements but for the last, and that
pub part_is : (ss simple : List Statement) (last : Statement) (close : Close) → 0 < length ss → last ≡ get_or ss (length ss - 1) last → IsClose close (statement_of last) → (close ≡ Close.Plain → ⊥) → simple ≡ take (length ss - 1) ss → map statement_of ss ≡ map statement_of simple ++ closing close
part_is ss simple last close some is closes not front =
    let n : ℕ = length ss - 1 in
    let none : drop (n + 1) ss ≡ [] = drop_all (n + 1) ss (omega (arith, some)) in
    ap (map statement_of) (sym (take-append-drop n ss)) ∙ map-append statement_of (take n ss) (drop n ss)
    ∙ ap (λ l. map statement_of (take n ss) ++ l) (left_is ss n last (omega (arith, some)) is ∙ ap (λ l. statement_of last ∷ map statement_of l) none ∙ closed close closes not)
    ∙ ap (λ l. map statement_of l ++ closing close) (sym front)
  where
    closed : (k : Close) → IsClose k (statement_of last) → (k ≡ Close.Plain → ⊥) → statement_of last ∷ [] ≡ closing k
    closed Close.Plain c other = absurd (other refl)
    closed Close.More c other = ap (λ s. s ∷ []) c
    closed Close.Reject c other = ap (λ s. s ∷ []) c

module _ (M : Machine) (p : TextPlace) (w : List ℕ) (len state : ℕ) (before : Option ℕ) (two : FirstTwo) (h : AreFirstTwo M state len two) (a : AreStates M p w len state before) where
  -- the first match, and those after it
  in_front : falling M 0 (path_of M p w len) ≡ record { len = len; rule = two.first.rule; keep = two.first.keep } ∷ (h.others ++ falling M 0 (path_of M p w (len - 1)))
  in_front =
      falling_last M p w len a.some a.inside
      ∙ ap (λ s. filter_map (match_of M len) (M.accepts s) ++ falling M 0 (path_of M p w (len - 1))) (sym a.state_is)
      ∙ ap (λ l. l ++ falling M 0 (path_of M p w (len - 1))) h.first

  -- it is the one that is carried out
  pub plan_first : (plan : Plan) → map statement_of plan.rejected.now ≡ [] → plan.rejected_keep ≡ 0 → plan.keep ≡ two.first.keep → are_simple (map statement_of plan.said.now) ≡ true → map statement_of two.first.statements.now ≡ map statement_of plan.said.now ++ closing_more plan.more → IsPlan M p w len plan
  plan_first plan none nothing keep simple does = record {
    gone = [];
    taken = record { len = len; rule = two.first.rule; keep = two.first.keep };
    others = h.others ++ falling M 0 (path_of M p w (len - 1));
    in_order = in_front;
    rejected = inl (refl, none);
    does = record { known = h.known.0; keep_is = sym keep; simple = simple; does = sym h.known.1 ∙ does };
    some = (let s = h.known.2 in omega (arith, keep, s));
    short = (let s = h.known.3 in omega (arith, keep, s));
    short_rejected = omega (arith, nothing);
  }

  -- it is rejected, and the next one is
  pub plan_next : (plan : Plan) (next : Pick) → IsFirst (h.others ++ falling M 0 (path_of M p w (len - 1))) (Some next) → IsKnown M len next → plan.rejected_keep ≡ two.first.keep → are_simple (map statement_of plan.rejected.now) ≡ true → map statement_of two.first.statements.now ≡ map statement_of plan.rejected.now ++ S.Reject ∷ [] →
      plan.keep ≡ next.keep → are_simple (map statement_of plan.said.now) ≡ true → map statement_of next.statements.now ≡ map statement_of plan.said.now ++ closing_more plan.more → IsPlan M p w len plan
  plan_next plan next (k, rest, e) known rejected_keep rejected_simple rejects keep simple does = record {
    gone = record { len = len; rule = two.first.rule; keep = two.first.keep } ∷ [];
    taken = record { len = k; rule = next.rule; keep = next.keep };
    others = rest;
    in_order = in_front ∙ ap (λ l. record { len = len; rule = two.first.rule; keep = two.first.keep } ∷ l) e;
    rejected = inr (
      record { len = len; rule = two.first.rule; keep = two.first.keep },
      refl,
      record { known = h.known.0; keep_is = sym rejected_keep; simple = rejected_simple; does = sym h.known.1 ∙ rejects },
    );
    does = record { known = known.0; keep_is = sym keep; simple = simple; does = sym known.1 ∙ does };
    some = (let s = known.2 in omega (arith, keep, s));
    short = (let s = known.3 in omega (arith, keep, s));
    short_rejected = (let s = h.known.3 in omega (arith, rejected_keep, s));
  }

-- the plan of all but the last byte, after which no rule is accepted
pub plan_shorter : (M : Machine) (way : Way) (o : Option Plan) → 1 < way.count → M.accepts way.state ≡ [] → IfSome o (PlansAll M (way.count - 1) way.before None) →
    IfSome o (λ plan. (p : TextPlace) (w : List ℕ) → Leads M (M.start p.condition p.line_start) (drop p.at w) way → IsPlan M p w way.count plan)
plan_shorter M way None more none h = tt
plan_shorter M way (Some plan) more none h = λ p w leads.
    let inside : p.at + way.count ≤ length w = omega (arith, leads.inside, length-drop p.at w, leads.some) in
    let q : IsPlan M p w (way.count - 1) plan = h p w (record { some = omega (arith, more); inside = omega (arith, inside); state_is = leads.before_is; before_is = tt }) in
    record {
      gone = q.gone;
      taken = q.taken;
      others = q.others;
      in_order = falling_last M p w way.count (omega (arith, more)) inside ∙ ap (λ l. filter_map (match_of M way.count) l ++ falling M 0 (path_of M p w (way.count - 1))) (ap M.accepts (sym leads.state_is) ∙ none) ∙ q.in_order;
      rejected = q.rejected;
      does = q.does;
      some = q.some;
      short = omega (arith, q.short);
      short_rejected = omega (arith, q.short_rejected);
    }

not_simple : {P : Type 0} → false ≡ true → P
not_simple e = absurd (no_path e)
  where
    no_path : false ≡ true → ⊥
    no_path q = cc

-- simple statements, and then others
pub act_front : (w : List ℕ) (ss end : List S.Statement) (a : ActionState) (before : List ℕ) → are_simple ss ≡ true →
    act_result (ss ++ end) (acting_of w a before) ≡ act_result end (acting_of w (record a { condition = all_begun ss a.condition }) (before ++ all_said ss (take a.end w)))
act_front w [] end a before simple = ap (λ b. act_result end (acting_of w a b)) (sym (append-nil before))
act_front w (S.Echo ∷ ss) end a before simple =
    act_front w ss end a (before ++ take a.end w) simple
    ∙ ap (λ b. act_result end (acting_of w (record a { condition = all_begun ss a.condition }) b)) (append_assoc before (take a.end w) (all_said ss (take a.end w)))
act_front w (S.Print bytes ∷ ss) end a before simple =
    act_front w ss end a (before ++ bytes) simple
    ∙ ap (λ b. act_result end (acting_of w (record a { condition = all_begun ss a.condition }) b)) (append_assoc before bytes (all_said ss (take a.end w)))
act_front w (S.Begin d ∷ ss) end a before simple = act_front w ss end (record a { condition = d }) before simple
act_front w (S.More ∷ ss) end a before simple = not_simple simple
act_front w (S.Less n ∷ ss) end a before simple = not_simple simple
act_front w (S.Reject ∷ ss) end a before simple = not_simple simple
act_front w (S.End s ∷ ss) end a before simple = not_simple simple
act_front w (S.Push d ∷ ss) end a before simple = not_simple simple
act_front w (S.Pop ∷ ss) end a before simple = not_simple simple
