-- States with the keys of words are a table for their specification.
use mathlib.Core.Logic.{∥∥₁_elim}
use Rattle.std.proofs.Props.{props}
use Rattle.std.specs.Prelude.{◌≡◌, ◌≢◌, ◌↔◌, ℕ, zero, suc, ◌+◌, ◌*◌, ◌<◌, ◌≤◌, Bool, true, false, cond, List, [], ◌∷◌, ◌++◌, length, nat_lt, Option, Some, None, slice_get, slice_index, slice_index_or, not}
use Rattle.std.proofs.Common.{rules, inl, inr, refl, ap, sym, subst, ◌∙◌, arith}
use Rattle.std.proofs.lemmas.Option.{slice_get-get_or, slice_get_within}
use Rattle.std.proofs.lemmas.Bool.{cases_Bool, cases_lt, cond-true, cond-false, ltb-true}
use Rattle.lex_semantics.specs.Text.{IsText, Among, Ascending}
use Rattle.lex_semantics.specs.Spec.{Spec, Rule, rejects, statements_at}
use Rattle.lex_semantics.specs.Rules.{Live}
use Rattle.lex_semantics.specs.Legal.{IsAction}
use Rattle.lex_semantics.proofs.Actions.{action_of}
use Rattle.lex_semantics.specs.MachineLaws.{MachineLaws, LeadsToAccept}
use Rattle.lex_semantics.proofs.MachineLaws.{walk-append}
use Rattle.lex_semantics.proofs.Texts.{is_text_append}
use Rattle.lex_semantics.specs.Reports.{HasFit}
use Rattle.lex_semantics.specs.Sound.{IsSound}
use Rattle.lex_semantics.specs.Subsets.{all_positions}
use Rattle.lex_semantics.specs.Machine.{Machine, walk, state_after}
use Rattle.lex_semantics.specs.TableFor.{TableFor, Accepted}
use Rattle.lexauto_positions.specs.RuleFlow.{rules_left, chosen}
use Rattle.lexauto.specs.Sets.{marked, lasts_in}
use Rattle.lexauto.specs.Moving.{followers_in}
use Rattle.lexauto.specs.Keys.{Key, At}
use Rattle.lexauto.specs.Explored.{run, Reached, key_at}
use Rattle.lexauto.specs.WordKeys.{start_key, step_in, Surveys}
use Rattle.lex_semantics.specs.Reading.{is_empty}
use Rattle.lexauto_dfa.specs.Machines.{machine_with, cut_at, moving, IsDeadOrReached}
use Rattle.lexauto.specs.Facts.{accepted_by, goes_on_by, AcceptedBy, GoOnBy}
use Rattle.lexauto_positions.proofs.FlowMeaning.{both, back, no_true}
use Rattle.lexauto_positions.proofs.RuleMeaning.{rule_exits_is}
use Rattle.lexauto.proofs.Counting.{dead_run}
use Rattle.lexauto.proofs.WordKeys.{no_marks, dead_step, dead_followers, word_key, start_live, later_live, start_lasts}
use Rattle.lexauto.proofs.Accepting.{rules_fit, rules_left_is, left_ascend, first_is}

same_bool : (a b : Bool) → IsProp (a ≡ b)
same_bool a b = Prim.hlevel props

some_is : (l : List ℕ) → (not (is_empty l) ≡ true) ↔ ((q : ℕ) × Among l q)
some_is [] = (λ h. no_true h, λ (q, a). absurd a)
some_is (x ∷ l) = (λ h. (x, inl refl), λ h. refl)

chosen_ascends : (all : Bool) (l : List ℕ) → Ascending l → Ascending (chosen all l)
chosen_ascends true l h = h
chosen_ascends false [] h = tt
chosen_ascends false (x ∷ l) h = (λ j a. absurd a, tt)

-- nothing fits the empty word
no_fit : (S : Spec) (c : ℕ) (line_start : Bool) (i : ℕ) → HasFit S c line_start [] i → ⊥
no_fit S c line_start i (k, h) = (let n = h.not_empty in let e = h.inside in omega (arith, n, e))

chosen_is : (all : Bool) (S : Spec) (c : ℕ) (line_start : Bool) (w : List ℕ) (l : List ℕ) → rejects S ≡ all → Ascending l → ((i : ℕ) → Among l i ↔ HasFit S c line_start w i) → (i : ℕ) → Among (chosen all l) i ↔ Accepted S c line_start w i
chosen_is true S c line_start w l e up fits i = ((λ a. ((fits i).0 a, λ no. cc)), (λ h. (fits i).1 h.0))
chosen_is false S c line_start w l e up fits i = both (first_is l up i) (
  (λ (a, least). ((fits i).0 a, λ no j lt f. least j lt ((fits j).1 f))),
  (λ (f, least). ((fits i).1 f, λ j lt a. least e j lt ((fits j).0 a))),
)

get_or_past : {A : Type 0} (xs : List A) (i : ℕ) (d : A) → length xs ≤ i → slice_index_or xs i d ≡ d
get_or_past [] i d h = refl
get_or_past (x ∷ xs) zero d h = absurd (omega (arith, h))
get_or_past (x ∷ xs) (suc i) d h = get_or_past xs i d (omega (arith, h))

slice_get_some : {A : Type 0} (xs : List A) (i : ℕ) → i < length xs → slice_get xs i ≡ None → ⊥
slice_get_some [] i h e = omega (arith, h)
slice_get_some (x ∷ xs) zero h e = absurd cc
slice_get_some (x ∷ xs) (suc i) h e = slice_get_some xs i (omega (arith, h)) e

lt_test : (a b : ℕ) → a < b → nat_lt a b ≡ true
lt_test a b h = search rules

moved : (next : List ℕ) (p b : ℕ) → b < 256 → moving next p b ≡ slice_index next (p * 256 + b)
moved next p b h = cond-true (nat_lt b 256) (slice_index next (p * 256 + b)) 0 (lt_test b 256 h)

among_chosen : (all : Bool) (l : List ℕ) (i : ℕ) → Among (chosen all l) i → Among l i
among_chosen true l i a = a
among_chosen false [] i a = absurd a
among_chosen false (x ∷ l) i (inl e) = inl e
among_chosen false (x ∷ l) i (inr a) = absurd a

some_chosen : (all : Bool) (l : List ℕ) (i : ℕ) → Among l i → (j : ℕ) × Among (chosen all l) j
some_chosen true l i a = (i, a)
some_chosen false [] i a = absurd a
some_chosen false (x ∷ l) i a = (x, inl refl)

module _ (S : Spec) (sound : IsSound S) (keys : List Key) (next starts line_starts : List ℕ) (s : Surveys S keys next starts line_starts)
    (accepts : List (List ℕ)) (goes : List Bool) (accepted : AcceptedBy S keys accepts) (on : GoOnBy S keys goes) where
  M : Machine
  M = machine_with S (λ c line_start. cond line_start (slice_index line_starts c) (slice_index starts c)) (moving next) (λ p. slice_index_or accepts p []) (λ p. slice_index_or goes p false)

  start_at : (c : ℕ) (line_start : Bool) → c < length S.conditions → At keys (cond line_start (slice_index line_starts c) (slice_index starts c)) (start_key S c line_start)
  start_at c true h = s.automaton.starts (slice_index line_starts c) (start_key S c true) (s.lines_are c (let e = s.lines_len in omega (arith, e, h)))
  start_at c false h = s.automaton.starts (slice_index starts c) (start_key S c false) (s.starts_are c (let e = s.starts_len in omega (arith, e, h)))

  walk_at : (p : ℕ) (k : Key) (w : List ℕ) → At keys p k → IsText w → At keys (walk M p w) (run (step_in S) k w)
  unfolding M
  walk_at p k [] a h = a
  walk_at p k (b ∷ w) a h = walk_at (moving next p b) (step_in S k b) w (subst (λ (q : ℕ). At keys q (step_in S k b)) (sym (moved next p b h.0)) (s.automaton.moves p b k h.0 a)) h.1

  after_at : (c : ℕ) (line_start : Bool) (w : List ℕ) → c < length S.conditions → IsText w → At keys (state_after M c line_start w) (run (step_in S) (start_key S c line_start) w)
  unfolding M
  after_at c line_start w h text = walk_at (cond line_start (slice_index line_starts c) (slice_index starts c)) (start_key S c line_start) w (start_at c line_start h) text

  accepts_after : (c : ℕ) (line_start : Bool) (w : List ℕ) → c < length S.conditions → IsText w → M.accepts (state_after M c line_start w) ≡ accepted_by S (run (step_in S) (start_key S c line_start) w)
  unfolding M
  accepts_after c line_start w h text = accepted (state_after M c line_start w) (run (step_in S) (start_key S c line_start) w) (after_at c line_start w h text)

  goes_after : (c : ℕ) (line_start : Bool) (w : List ℕ) → c < length S.conditions → IsText w → M.goes_on (state_after M c line_start w) ≡ goes_on_by S (run (step_in S) (start_key S c line_start) w)
  unfolding M
  goes_after c line_start w h text = on (state_after M c line_start w) (run (step_in S) (start_key S c line_start) w) (after_at c line_start w h text)

  no_cons : (b : ℕ) (w : List ℕ) → b ∷ w ≢ []
  no_cons b w e = absurd cc

  left_fit : (c : ℕ) (line_start : Bool) (w : List ℕ) → IsText w → (i : ℕ)
      → Among (rules_left S.rules (marked (all_positions S.rules) (lasts_in (run (step_in S) (start_key S c line_start) w))) 0 0) i ↔ HasFit S c line_start w i
  left_fit c line_start [] text i =
      let last = marked (all_positions S.rules) (lasts_in (start_key S c line_start)) in (
        λ a. (let (r, at, e) = (rules_left_is last S.rules i).0 a in let (p, is, l) = (rule_exits_is last r _).0 e in absurd (start_lasts S c line_start p is)),
        λ f. absurd (no_fit S c line_start i f),
      )
  left_fit c line_start (b ∷ w) text i = rules_fit S sound c line_start (b ∷ w) (no_cons b w) (run (step_in S) (start_key S c line_start) (b ∷ w)) (word_key S c line_start sound b w text.0 text.1) i

  some_live : (c : ℕ) (line_start : Bool) (w : List ℕ) → IsText w → (goes_on_by S (run (step_in S) (start_key S c line_start) w) ≡ true) ↔ Live S c line_start w
  some_live c line_start [] text = both (some_is (followers_in S.rules (all_positions S.rules) (start_key S c line_start))) (back (start_live S c line_start sound))
  some_live c line_start (b ∷ w) text =
      let k = run (step_in S) (start_key S c line_start) (b ∷ w) in
      both (some_is (followers_in S.rules (all_positions S.rules) k)) (back (later_live S c line_start sound (b ∷ w) k (no_cons b w) (word_key S c line_start sound b w text.0 text.1)))

  table : TableFor M S
  unfolding M
  table = record {
    conditions = refl;
    count = refl;
    ascending = λ c line_start w h text. subst Ascending (sym (accepts_after c line_start w h text))
        (chosen_ascends (rejects S) (rules_left S.rules (marked (all_positions S.rules) (lasts_in (run (step_in S) (start_key S c line_start) w))) 0 0) (left_ascend (marked (all_positions S.rules) (lasts_in (run (step_in S) (start_key S c line_start) w))) S.rules 0 0));
    accepts = λ c line_start w i h text.
        let l = rules_left S.rules (marked (all_positions S.rules) (lasts_in (run (step_in S) (start_key S c line_start) w))) 0 0 in
        let e = accepts_after c line_start w h text in
        let is = chosen_is (rejects S) S c line_start w l refl (left_ascend (marked (all_positions S.rules) (lasts_in (run (step_in S) (start_key S c line_start) w))) S.rules 0 0) (left_fit c line_start w text) i in (
          λ a. is.0 (subst (λ (xs : List ℕ). Among xs i) e a),
          λ f. subst (λ (xs : List ℕ). Among xs i) (sym e) (is.1 f),
        );
    goes_on = λ c line_start w h text.
        let e = goes_after c line_start w h text in
        let is = some_live c line_start w text in (
          λ g. is.0 (sym e ∙ g),
          λ l. e ∙ is.1 l,
        );
    cut = λ i r at. ap cut_at at;
    statements = λ i lt. refl;
    ending = λ c lt. refl;
  }

  -- each state but the dead one is reached
  reached_state : (p : ℕ) → p < length keys → IsDeadOrReached M S p
  unfolding M
  reached_state p lt = from (slice_get-get_or keys p [] lt) (s.automaton.only p (key_at keys p) (slice_get-get_or keys p [] lt))
    where
      same_place : (q : ℕ) (k : Key) → At keys p (key_at keys p) → k ≡ key_at keys p → At keys q k → q ≡ p
      same_place q k here e there = s.automaton.apart q p (key_at keys p) (subst (λ (l : Key). At keys q l) e there) here

      from : At keys p (key_at keys p) → Reached (step_in S) s.roots (key_at keys p) → IsDeadOrReached M S p
      from here (i, root, at, (w, text, e)) = elim (s.only i root at) [
        | inl dead ↦ inl (sym (same_place 0 [] here (sym (dead_run S w) ∙ ap (λ (r : Key). run (step_in S) r w) (sym dead) ∙ e) (s.automaton.starts 0 [] s.dead)))
        | inr (c, line_start, lt, is) ↦ inr (c, line_start, w, lt, text, same_place (state_after M c line_start w) (run (step_in S) (start_key S c line_start) w) here (ap (λ (r : Key). run (step_in S) r w) (sym is) ∙ e) (after_at c line_start w lt text))
      ]

  none_of : (l : List ℕ) → ((x : ℕ) → Among l x → ⊥) → l ≡ []
  none_of [] h = refl
  none_of (x ∷ l) h = absurd (h x (inl refl))

  chosen_none : (all : Bool) → chosen all [] ≡ []
  chosen_none true = refl
  chosen_none false = refl

  dead_place : At keys 0 []
  dead_place = s.automaton.starts 0 [] s.dead

  dead_stays : (b : ℕ) → M.next 0 b ≡ 0
  unfolding M
  dead_stays b = elim (cases_Bool (nat_lt b 256)) [
    | inl t ↦ (let lt : b < 256 = ltb-true b 256 t in
        moved next 0 b lt ∙ s.automaton.apart (slice_index next (0 * 256 + b)) 0 [] (subst (λ (k : Key). At keys (slice_index next (0 * 256 + b)) k) (dead_step S b) (s.automaton.moves 0 b [] lt dead_place)) dead_place)
    | inr f ↦ cond-false (nat_lt b 256) (slice_index next (0 * 256 + b)) 0 f
  ]

  dead_accepts : M.accepts 0 ≡ []
  unfolding M
  dead_accepts =
      let last = marked (all_positions S.rules) [] in
      let none : rules_left S.rules last 0 0 ≡ [] = none_of (rules_left S.rules last 0 0) (λ x a.
      (let (r, at, e) = (rules_left_is last S.rules x).0 a in let (p, is, l) = (rule_exits_is last r _).0 e in no_marks (all_positions S.rules) p is)) in
      accepted 0 [] dead_place ∙ ap (chosen (rejects S)) none ∙ chosen_none (rejects S)

  dead_goes_on : M.goes_on 0 ≡ false
  unfolding M
  dead_goes_on = on 0 [] dead_place ∙ ap (λ l. not (is_empty l)) (dead_followers S)

  dead_walk : (u : List ℕ) → walk M 0 u ≡ 0
  dead_walk [] = refl
  dead_walk (b ∷ u) = ap (λ (p : ℕ). walk M p u) (dead_stays b) ∙ dead_walk u

  nothing_at_dead : (u : List ℕ) (i : ℕ) → Among (M.accepts (walk M 0 u)) i → ⊥
  nothing_at_dead u i a = let none : M.accepts (walk M 0 u) ≡ [] = ap M.accepts (dead_walk u) ∙ dead_accepts in subst (λ (l : List ℕ). Among l i) none a

  -- a rule is accepted after a word just where one fits it
  some_accepted : (c : ℕ) (line_start : Bool) (w : List ℕ) → c < length S.conditions → IsText w → (i : ℕ) → HasFit S c line_start w i → (j : ℕ) × Among (M.accepts (state_after M c line_start w)) j
  some_accepted c line_start w h text i f =
      let l = rules_left S.rules (marked (all_positions S.rules) (lasts_in (run (step_in S) (start_key S c line_start) w))) 0 0 in
      let (j, a) = some_chosen (rejects S) l i ((left_fit c line_start w text i).1 f) in
      (j, subst (λ (xs : List ℕ). Among xs j) (sym (accepts_after c line_start w h text)) a)

  accepted_fits : (c : ℕ) (line_start : Bool) (w : List ℕ) → c < length S.conditions → IsText w → (i : ℕ) → Among (M.accepts (state_after M c line_start w)) i → HasFit S c line_start w i
  accepted_fits c line_start w h text i a =
      let l = rules_left S.rules (marked (all_positions S.rules) (lasts_in (run (step_in S) (start_key S c line_start) w))) 0 0 in
      (left_fit c line_start w text i).0 (among_chosen (rejects S) l i (subst (λ (xs : List ℕ). Among xs i) (accepts_after c line_start w h text) a))

  later_state : (c : ℕ) (line_start : Bool) (w u : List ℕ) → state_after M c line_start (w ++ u) ≡ walk M (state_after M c line_start w) u
  later_state c line_start w u = walk-append M (M.start c line_start) w u

  leads : (c : ℕ) (line_start : Bool) (w : List ℕ) → c < length S.conditions → IsText w → Live S c line_start w ↔ LeadsToAccept M (state_after M c line_start w)
  leads c line_start w h text = (
    λ (u, more, some, i, k, f). (let (j, a) = some_accepted c line_start (w ++ u) h (is_text_append w u text more) i (k, f) in
        (u, more, some, j, subst (λ (p : ℕ). Among (M.accepts p) j) (later_state c line_start w u) a)),
    λ (u, more, some, i, a). (let (k, f) = accepted_fits c line_start (w ++ u) h (is_text_append w u text more) i (subst (λ (p : ℕ). Among (M.accepts p) i) (sym (later_state c line_start w u)) a) in
        (u, more, some, i, k, f)),
  )

  leads_from_reached : (p : ℕ) → IsDeadOrReached M S p → (M.goes_on p ≡ true) ↔ LeadsToAccept M p
  leads_from_reached p (inl e) = (
    λ g. no_true (sym (ap M.goes_on e ∙ dead_goes_on) ∙ g),
    λ (u, more, some, i, a). absurd (nothing_at_dead u i (subst (λ (q : ℕ). Among (M.accepts (walk M q u)) i) e a)),
  )
  leads_from_reached p (inr (c, line_start, w, h, text, e)) =
      let P : ℕ → Type 0 = λ q. (M.goes_on q ≡ true) ↔ LeadsToAccept M q in
      subst P e (both (table.goes_on c line_start w h text) (leads c line_start w h text))

  module _ (accepts_len : length accepts ≡ length keys) (goes_len : length goes ≡ length keys) where
    past_accepts : (p : ℕ) → length keys ≤ p → M.accepts p ≡ []
    unfolding M
    past_accepts p h = get_or_past accepts p [] (omega (arith, h, accepts_len))

    past_goes_on : (p : ℕ) → length keys ≤ p → M.goes_on p ≡ false
    unfolding M
    past_goes_on p h = get_or_past goes p false (omega (arith, h, goes_len))

    past_next : (p b : ℕ) → length keys ≤ p → M.next p b ≡ 0
    unfolding M
    past_next p b h = elim (cases_Bool (nat_lt b 256)) [
      | inl t ↦ cond-true (nat_lt b 256) (slice_index next (p * 256 + b)) 0 t ∙ get_or_past next (p * 256 + b) 0 (let len = s.automaton.len in omega (arith, h, len))
      | inr f ↦ cond-false (nat_lt b 256) (slice_index next (p * 256 + b)) 0 f
    ]

    listed_at : (p i : ℕ) → p < length keys → Among (M.accepts p) i → Among (rules_left S.rules (marked (all_positions S.rules) (lasts_in (key_at keys p))) 0 0) i
    unfolding M
    listed_at p i h a = among_chosen (rejects S) (rules_left S.rules (marked (all_positions S.rules) (lasts_in (key_at keys p))) 0 0) i
        (subst (λ (xs : List ℕ). Among xs i) (accepted p (key_at keys p) (slice_get-get_or keys p [] h)) a)

    accepts_in_range : (p i : ℕ) → Among (M.accepts p) i → i < length S.rules
    accepts_in_range p i a = elim (cases_lt p (length keys)) [
      | inl h ↦ (let (r, at, e) = (rules_left_is (marked (all_positions S.rules) (lasts_in (key_at keys p))) S.rules i).0 (listed_at p i h a) in slice_get_within S.rules i r at)
      | inr h ↦ absurd (subst (λ (xs : List ℕ). Among xs i) (past_accepts p h) a)
    ]

    accepts_ascend : (p : ℕ) → Ascending (M.accepts p)
    unfolding M
    accepts_ascend p = elim (cases_lt p (length keys)) [
      | inl h ↦ subst Ascending (sym (accepted p (key_at keys p) (slice_get-get_or keys p [] h)))
          (chosen_ascends (rejects S) (rules_left S.rules (marked (all_positions S.rules) (lasts_in (key_at keys p))) 0 0) (left_ascend (marked (all_positions S.rules) (lasts_in (key_at keys p))) S.rules 0 0))
      | inr h ↦ subst Ascending (sym (past_accepts p h)) tt
    ]

    leads_from : (p : ℕ) → (M.goes_on p ≡ true) ↔ LeadsToAccept M p
    leads_from p = elim (cases_lt p (length keys)) [
      | inl h ↦ leads_from_reached p (reached_state p h)
      | inr h ↦ (λ g. no_true (sym (past_goes_on p h) ∙ g), λ (u, more, some, i, a). absurd (nowhere p h u some i a))
    ]
      where
        nowhere : (p : ℕ) → length keys ≤ p → (u : List ℕ) → 1 ≤ length u → (i : ℕ) → Among (M.accepts (walk M p u)) i → ⊥
        nowhere p h [] some i a = omega (arith, some)
        nowhere p h (b ∷ u) some i a = nothing_at_dead u i (subst (λ (q : ℕ). Among (M.accepts (walk M q u)) i) (past_next p b h) a)

    statements_legal : (i : ℕ) → i < length S.rules → IsAction (length S.conditions) (statements_at (slice_get S.rules i))
    statements_legal i h = found (slice_get S.rules i) refl
      where
        found : (o : Option Rule) → slice_get S.rules i ≡ o → IsAction (length S.conditions) (statements_at o)
        found None e = absurd (slice_get_some S.rules i h e)
        found (Some r) e = action_of (length S.conditions) r.statements (sound.rules i r e).legal

    laws : MachineLaws M
    unfolding M
    laws = record {
      some_condition = sound.some_condition;
      in_range = accepts_in_range;
      ascending = accepts_ascend;
      dead_stays = dead_stays;
      dead_accepts = dead_accepts;
      goes_on = λ q. (λ g. ∣ (leads_from q).0 g ∣₁, λ t. ∥∥₁_elim t (same_bool (M.goes_on q) true) (λ r. (leads_from q).1 r));
      legal = statements_legal;
    }

pub table_of : (S : Spec) → IsSound S → (keys : List Key) (next starts line_starts : List ℕ) → Surveys S keys next starts line_starts →
    (accepts : List (List ℕ)) (goes : List Bool) → AcceptedBy S keys accepts → GoOnBy S keys goes →
    TableFor (machine_with S (λ c line_start. cond line_start (slice_index line_starts c) (slice_index starts c)) (moving next) (λ p. slice_index_or accepts p []) (λ p. slice_index_or goes p false)) S
unfolding M
table_of S sound keys next starts line_starts s accepts goes accepted on = table S sound keys next starts line_starts s accepts goes accepted on

pub reached_of : (S : Spec) → IsSound S → (keys : List Key) (next starts line_starts : List ℕ) → Surveys S keys next starts line_starts →
    (accepts : List (List ℕ)) (goes : List Bool) → AcceptedBy S keys accepts → GoOnBy S keys goes → (p : ℕ) → p < length keys →
    IsDeadOrReached (machine_with S (λ c line_start. cond line_start (slice_index line_starts c) (slice_index starts c)) (moving next) (λ p. slice_index_or accepts p []) (λ p. slice_index_or goes p false)) S p
unfolding M
reached_of S sound keys next starts line_starts s accepts goes accepted on = reached_state S sound keys next starts line_starts s accepts goes accepted on

pub laws_of : (S : Spec) → IsSound S → (keys : List Key) (next starts line_starts : List ℕ) → Surveys S keys next starts line_starts →
    (accepts : List (List ℕ)) (goes : List Bool) → AcceptedBy S keys accepts → GoOnBy S keys goes → length accepts ≡ length keys → length goes ≡ length keys →
    MachineLaws (machine_with S (λ c line_start. cond line_start (slice_index line_starts c) (slice_index starts c)) (moving next) (λ p. slice_index_or accepts p []) (λ p. slice_index_or goes p false))
unfolding M
laws_of S sound keys next starts line_starts s accepts goes accepted on accepts_len goes_len = laws S sound keys next starts line_starts s accepts goes accepted on accepts_len goes_len
