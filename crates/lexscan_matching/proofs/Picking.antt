-- The first match at a place, and what its action does.
use Rattle.std.proofs.Common.{◌≡◌, ℕ, suc, ◌+◌, ◌-◌, ◌≤◌, ◌<◌, false, true, List, [], ◌∷◌, ◌++◌, length, take, drop, get_or, Option, Some, None, refl, sym, ◌∙◌, ap, subst, arith}
use Rattle.std.specs.Prelude.{Bool, filter_map, IfSome, if◌then◌else◌}
use Rattle.std.proofs.lemmas.List.{length-take-le, length-drop, get_or-drop}
use Rattle.lex_semantics.specs.Spec.{Statement, Echo, Print, Begin, More, Less, Reject, End, Push, Pop, has_reject}
use Rattle.lex_semantics.specs.Candidates.{Candidate}
use Rattle.lex_semantics.specs.Acting as Scan
use Rattle.lex_semantics.specs.ActionResults as Results
use Rattle.lex_semantics.specs.Acting.{StackFault}
use Rattle.lex_semantics.specs.ActionResults.{ActionResult, Done, Over, act_result, has_room, popped, settle}
use Rattle.lex_semantics.specs.Machine.{Machine, walk, rules_of_machine}
use Rattle.lex_semantics.specs.Rules.{statements_of}
use Rattle.lex_semantics.specs.PlainMachine.{match_of}
use Rattle.lex_semantics.specs.Plain.{default_match}
use Rattle.lex_semantics.specs.Trail.{trail_from, falling}
use Rattle.lex_semantics.proofs.Falling.{falling-snoc}
use Rattle.lex_semantics.proofs.MachineLaws.{walk-append}
use Rattle.lex_semantics.specs.MachineLaws.{NoReject}
use Rattle.lexscan_window.specs.declared.act.ActionState.{ActionState}
use Rattle.lexscan_window.specs.declared.act.ActionFlow.{ActionFlow}
use Rattle.lexscan_window.specs.declared.state.TextPlace.{TextPlace}
use Rattle.lexscan_matching.specs.declared.pick.Pick.{Pick}
use Rattle.lexscan_window.specs.Acts.{acting_of, Carried, CutShort}
use Rattle.lexscan_matching.specs.Descends.{Conditions, conditions_in, outcome, matches_of, finished_of, Passed, CutAll, Performed, Takes}
use Rattle.lexscan_matching.specs.Picks.{path_of, IsFirst, state_at, rule_in}
use Rattle.lexscan_matching.proofs.Growing.{take_one_more, path_length, path_snoc}
use Rattle.lexscan_matching.proofs.Descending as Down
use Rattle.lexscan_matching.proofs.Descending.{ended_by, start_of, head_outcome, statements_are, settled}

pub first_before : (ms ns : List Candidate) (p : Pick) → IsFirst ms (Some p) → IsFirst (ms ++ ns) (Some p)
first_before ms ns p (len, rest, e) = (len, rest ++ ns, ap (λ l. l ++ ns) e)

pub first_after : (ms ns : List Candidate) (o : Option Pick) → ms ≡ [] → IsFirst ns o → IsFirst (ms ++ ns) o
first_after ms ns o e h = subst (λ l. IsFirst (l ++ ns) o) (sym e) h

pub first_same : (ms ns : List Candidate) (o : Option Pick) → ms ≡ ns → IsFirst ns o → IsFirst ms o
first_same ms ns o e h = subst (λ l. IsFirst l o) (sym e) h

pub keeps_more : (o : Option Pick) (n : ℕ) → IfSome o (λ pick. pick.keep ≤ n) → IfSome o (λ pick. pick.keep ≤ n + 1)
keeps_more None n h = h
keeps_more (Some p) n h = omega (arith, h)

-- the state after one byte more
pub state_more : (M : Machine) (p : TextPlace) (w : List ℕ) (n : ℕ) → p.at + n < length w → M.next (state_at M p w n) (get_or w (p.at + n) 0) ≡ state_at M p w (n + 1)
state_more M p w n lt =
    let y : List ℕ = drop p.at w in
    let less : n < length y = omega (arith, length-drop p.at w, lt) in
    let s0 : ℕ = M.start p.condition p.line_start in
    ap (M.next (walk M s0 (take n y))) (sym (get_or-drop p.at w n 0)) ∙ sym (walk-append M s0 (take n y) (get_or y n 0 ∷ [])) ∙ ap (walk M s0) (sym (take_one_more n y less))

-- the matches that end after one byte more come first
pub falling_more : (M : Machine) (p : TextPlace) (w : List ℕ) (n : ℕ) → p.at + n < length w →
    falling M 0 (path_of M p w (n + 1)) ≡ filter_map (match_of M (n + 1)) (M.accepts (state_at M p w (n + 1))) ++ falling M 0 (path_of M p w n)
falling_more M p w n lt =
    let y : List ℕ = drop p.at w in
    let less : n < length y = omega (arith, length-drop p.at w, lt) in
    let s0 : ℕ = M.start p.condition p.line_start in
    let b : ℕ = get_or y n 0 in
    let s : ℕ = M.next (walk M s0 (take n y)) b in
    let same : s ≡ state_at M p w (n + 1) = sym (walk-append M s0 (take n y) (b ∷ [])) ∙ ap (walk M s0) (sym (take_one_more n y less)) in
    let count : length (path_of M p w n) ≡ n = path_length M s0 (take n y) ∙ length-take-le n y (omega (arith, less)) in
    let e : 0 + suc (length (path_of M p w n)) ≡ n + 1 = omega (arith, count) in
    ap (falling M 0) (ap (trail_from M s0) (take_one_more n y less) ∙ path_snoc M s0 b (take n y))
    ∙ falling-snoc M 0 s (path_of M p w n)
    ∙ ap (λ k. filter_map (match_of M k) (M.accepts s) ++ falling M 0 (path_of M p w n)) e
    ∙ ap (λ z. filter_map (match_of M (n + 1)) (M.accepts z) ++ falling M 0 (path_of M p w n)) same

-- the same, counted from the last
pub falling_last : (M : Machine) (p : TextPlace) (w : List ℕ) (n : ℕ) → 1 ≤ n → p.at + n ≤ length w →
    falling M 0 (path_of M p w n) ≡ filter_map (match_of M n) (M.accepts (state_at M p w n)) ++ falling M 0 (path_of M p w (n - 1))
falling_last M p w n some le =
    let e : n - 1 + 1 ≡ n = omega (arith, some) in
    subst (λ k. falling M 0 (path_of M p w k) ≡ filter_map (match_of M k) (M.accepts (state_at M p w k)) ++ falling M 0 (path_of M p w (n - 1))) e
    (falling_more M p w (n - 1) (omega (arith, some, le)))

-- a fault of the stack does not go to the next match
full_never : (r : Bool) (a : Scan.Acting) (w : ActionResult) (b : Scan.Acting) → (w ≡ Results.Again b → ⊥) → (if r then w else Over a StackFault) ≡ Results.Again b → ⊥
full_never true a w b h e = h e
full_never false a w b h e = cc

empty_never : (cs : List ℕ) (a : Scan.Acting) (next : ℕ → List ℕ → ActionResult) (b : Scan.Acting) → ((c : ℕ) (rest : List ℕ) → next c rest ≡ Results.Again b → ⊥) → popped cs a next ≡ Results.Again b → ⊥
empty_never [] a next b h e = cc
empty_never (c ∷ cs) a next b h e = h c cs e

-- an action without REJECT does not go to the next match
pub never_rejects : (ss : List Statement) (a b : Scan.Acting) → has_reject ss ≡ false → act_result ss a ≡ Results.Again b → ⊥
never_rejects [] a b h e = cc
never_rejects (Echo ∷ ss) a b h e = never_rejects ss (record a { written = a.written ++ a.text }) b h e
never_rejects (Print s ∷ ss) a b h e = never_rejects ss (record a { written = a.written ++ s }) b h e
never_rejects (Begin d ∷ ss) a b h e = never_rejects ss (record a { condition = d }) b h e
never_rejects (More ∷ ss) a b h e = never_rejects ss (record a { more = true }) b h e
never_rejects (Less n ∷ ss) a b h e = never_rejects ss (record a { text = take n a.text }) b h e
never_rejects (Reject ∷ ss) a b h e = absurd (no h)
  where
    no : true ≡ false → ⊥
    no p = cc
never_rejects (End s ∷ ss) a b h e = cc
never_rejects (Push d ∷ ss) a b h e =
    full_never (has_room a.stack) a (act_result ss (record a { condition = d; stack = a.condition ∷ a.stack })) b (λ p. never_rejects ss (record a { condition = d; stack = a.condition ∷ a.stack }) b h p) e
never_rejects (Pop ∷ ss) a b h e =
    empty_never a.stack a (λ c cs. act_result ss (record a { condition = c; stack = cs })) b (λ c cs p. never_rejects ss (record a { condition = c; stack = cs }) b h p) e

module _ {K : Type 0} (M : Machine) (wrote : K → List ℕ → K → Type 0) (none : (s : K) → wrote s [] s) (join : (s t u : K) (xs ys : List ℕ) → wrote s xs t → wrote t ys u → wrote s (xs ++ ys) u) (w : List ℕ) (at : ℕ) where
  pub never_again : (s t : K) (p : Pick) (c : Conditions) (ss : List Statement) (new : ActionState) → NoReject M → p.rule < M.count → ss ≡ M.statements p.rule →
      Carried wrote s t w ss (start_of at p.keep c) new ActionFlow.Again → ⊥
  never_again s t p c ss new no_reject below same k = never_rejects ss _ _ (ap has_reject same ∙ no_reject p.rule below) (k.acts [])

  -- its action was carried out
  pub picked : (s t : K) (path : List ℕ) (p : Pick) (c : Conditions) (ss : List Statement) (new : ActionState) (step : ActionFlow) → (step ≡ ActionFlow.Again → ⊥) → IsFirst (falling M 0 path) (Some p) → p.rule < M.count → ss ≡ M.statements p.rule →
      Carried wrote s t w ss (start_of at p.keep c) new step → Performed M wrote s t w at (matches_of M w at path) c new (finished_of (ended_by step))
  picked s t path p c ss new step never (len, rest, e) below same k = record {
    out = k.out;
    sink = k.sink;
    acts = λ before.
        ap (λ l. outcome M w at (l ++ default_match M.count (drop at w)) before c) e
        ∙ head_outcome M w at (record { len = len; rule = p.rule; keep = p.keep }) (rest ++ default_match M.count (drop at w)) before c
        ∙ ap (λ l. settle (act_result l (acting_of w (start_of at p.keep c) before)) (λ a. outcome M w at (rest ++ default_match M.count (drop at w)) a.written (conditions_in a))) (statements_are M p.rule below ∙ sym same)
        ∙ ap (λ z. settle z (λ a. outcome M w at (rest ++ default_match M.count (drop at w)) a.written (conditions_in a))) (k.acts before)
        ∙ settled step (acting_of w new (before ++ k.out)) (λ a. outcome M w at (rest ++ default_match M.count (drop at w)) a.written (conditions_in a)) never;
  }

  -- or cut short
  pub picked_cut : (s t : K) (path : List ℕ) (p : Pick) (c : Conditions) (ss : List Statement) → IsFirst (falling M 0 path) (Some p) → p.rule < M.count → ss ≡ M.statements p.rule →
      CutShort wrote s t w ss (start_of at p.keep c) → CutAll M wrote s t w at (matches_of M w at path) c
  picked_cut s t path p c ss (len, rest, e) below same k = record {
    out = k.out;
    sink = k.sink;
    front = λ before o is.
        Down.cut_front M wrote none join w at s t (record { len = len; rule = p.rule; keep = p.keep }) (rest ++ default_match M.count (drop at w)) c ss (same ∙ sym (statements_are M p.rule below)) k before o
        (ap (λ l. outcome M w at (l ++ default_match M.count (drop at w)) before c) (sym e) ∙ is);
  }

  -- there is none but the default match
  pub none_picked : (s : K) (path : List ℕ) (c : Conditions) → falling M 0 path ≡ [] → Passed M wrote s s w at (falling M 0 path) [] c c
  none_picked s path c e = subst (λ l. Passed M wrote s s w at (falling M 0 path) l c c) e (Down.passed_first M wrote none join w at s (falling M 0 path) c)

-- what is not rejected has an outcome, whatever follows
settle_some : (r : ActionResult) → ((b : Scan.Acting) → r ≡ Results.Again b → ⊥) → (o : Scan.Acting) × ((f : Scan.Acting → Option Scan.Acting) → settle r f ≡ Some o)
settle_some (Done a) never = (record a { ended = None }, λ f. refl)
settle_some (Results.Again a) never = absurd (never a refl)
settle_some (Over a e) never = (record a { ended = Some e }, λ f. refl)

-- where no rule has REJECT the first match is carried out, or the default match
pub picked_takes : (M : Machine) (w : List ℕ) (at : ℕ) (path : List ℕ) (pick : Option Pick) (c : Conditions) → NoReject M → at < length w → IsFirst (falling M 0 path) pick → IfSome pick (λ p. p.rule < M.count) →
    Takes M w at (matches_of M w at path) c (Some (rule_in pick))
picked_takes M w at path None c no_reject lt e known = subst (λ l. Takes M w at (l ++ default_match M.count (drop at w)) c (Some (rule_in None))) (sym e) (Down.takes_default M w at c lt)
picked_takes M w at path (Some p) c no_reject lt (len, rest, e) known =
    subst (λ l. Takes M w at (l ++ default_match M.count (drop at w)) c (Some (rule_in (Some p)))) (sym e) (record {
      passed = [];
      taken = m;
      left = rest ++ default_match M.count (drop at w);
      in_order = refl;
      rule_is = (refl, known);
      rejected = λ before. Down.no_outcome M w at before c;
      carried = λ before. (
        (went before).0,
        λ more. head_outcome M w at m more before c ∙ (went before).1 (λ a. outcome M w at more a.written (conditions_in a)),
      );
    })
  where
    m : Candidate
    m = record { len = len; rule = p.rule; keep = p.keep }

    went : (before : List ℕ) → (o : Scan.Acting) × ((f : Scan.Acting → Option Scan.Acting) → settle (act_result (statements_of (rules_of_machine M) p.rule) (acting_of w (start_of at p.keep c) before)) f ≡ Some o)
    went before =
        settle_some (act_result (statements_of (rules_of_machine M) p.rule) (acting_of w (start_of at p.keep c) before))
        (λ b. never_rejects (statements_of (rules_of_machine M) p.rule) (acting_of w (start_of at p.keep c) before) b (ap has_reject (statements_are M p.rule known) ∙ no_reject p.rule known))
