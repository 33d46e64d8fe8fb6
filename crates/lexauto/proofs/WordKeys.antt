-- The keys that words lead to are those of their last positions.
use Rattle.std.specs.Prelude.{◌≡◌, ◌≢◌, ◌↔◌, ℕ, suc, ◌+◌, ◌<◌, Bool, true, false, List, [], ◌∷◌, ◌++◌, length, Option, Some, None, slice_get}
use Rattle.std.specs.List.{filter}
use Rattle.std.proofs.Common.{inl, inr, refl, ap, sym, subst, ◌∙◌, arith}
use Rattle.std.proofs.Math.Path.{fun_ext}
use Rattle.std.proofs.lemmas.List.{append_assoc}
use Rattle.std.proofs.lemmas.Option.{slice_get_within}
use Rattle.lex_semantics.specs.Text.{IsText, Among, Ascending, listed}
use Rattle.lex_semantics.specs.Positions.{MarkedByte}
use Rattle.lex_semantics.specs.Spec.{Spec, Rule}
use Rattle.lex_semantics.specs.Rules.{Live}
use Rattle.lex_semantics.specs.Sound.{IsSound}
use Rattle.lex_semantics.specs.Subsets.{IsLast, ReadsActive, all_positions, positions_of_rule}
use Rattle.lexauto_positions.specs.PositionAutomaton.{Quad}
use Rattle.lexauto_positions.specs.RuleAutomaton.{rule_quad, gated, active_quad, every, is_on, is_active, active_automaton, automaton}
use Rattle.lexauto_positions.specs.RuleFlow.{rules_enter, rules_read}
use Rattle.lexauto.specs.Sets.{marked, tagged, starts_in, lasts_in}
use Rattle.lexauto.specs.Moving.{followers_in, reading_in}
use Rattle.lexauto.specs.Keys.{Key}
use Rattle.lexauto.specs.Explored.{run}
use Rattle.lexauto.specs.WordKeys.{start_key, step_in, LastKey}
use Rattle.lexauto_positions.proofs.FlowMeaning.{no_true}
use Rattle.lexauto_positions.proofs.RuleMeaning.{rules_enter_is}
use Rattle.lexauto_positions.proofs.LetterTests.{rules_read_is}
use Rattle.lexauto_positions.proofs.Numbers.{listed_is, listed_ascends, filter_is, filter_ascends}
use Rattle.lexauto_positions.proofs.ActiveRules.{active_is, shared_letter}
use Rattle.lexauto_positions.proofs.Moves.{first_move, move, live_after, live_first}
use Rattle.lexauto.proofs.KeyLaws.{marked_is, starts_tagged, no_starts_tagged, lasts_tagged, no_lasts_tagged}

-- where no rule is entered, no position is first
none_first : (on : ℕ → Bool) → ((i : ℕ) → on i ≡ true → ⊥) → (i base : ℕ) (rules : List Rule) (q : ℕ) → (active_quad on i base rules).first q → ⊥
none_first on off i base [] q h = h
none_first on off i base (r ∷ rules) q h = elim h [
  | inl f ↦ gate (on i) (rule_quad r base) (off i) f
  | inr f ↦ none_first on off (suc i) (base + positions_of_rule r) rules q f
]
  where
    gate : (b : Bool) (x : Quad) → (b ≡ true → ⊥) → (gated b x).first q → ⊥
    gate true x out f = out refl
    gate false x out f = f

-- a letter of an active rule is one of all rules
letter_every : (on : ℕ → Bool) (i base : ℕ) (rules : List Rule) (e : MarkedByte) → (active_quad on i base rules).letter e → (active_quad every i base rules).letter e
letter_every on i base [] e h = h
letter_every on i base (r ∷ rules) e h = elim h [
  | inl f ↦ inl (gate (on i) (rule_quad r base) f)
  | inr f ↦ inr (letter_every on (suc i) (base + positions_of_rule r) rules e f)
]
  where
    gate : (b : Bool) (x : Quad) → (gated b x).letter e → x.letter e
    gate true x f = f
    gate false x f = absurd f

same_test : (a b : Bool) → (a ≡ true) ↔ (b ≡ true) → a ≡ b
same_test true true h = refl
same_test true false h = sym (h.0 refl)
same_test false true h = h.1 refl
same_test false false h = refl

pub followers_among : (rules : List Rule) (count : ℕ) (k : Key) (q : ℕ) → Among (followers_in rules count k) q
    ↔ ((q < count) × (rules_enter rules (marked (length rules) (starts_in k)) (marked count (lasts_in k)) q 0 0 ≡ true))
unfolding followers_in
followers_among rules count k q = listed_is (λ q. rules_enter rules (marked (length rules) (starts_in k)) (marked count (lasts_in k)) q 0 0) count q

followers_ascend : (rules : List Rule) (count : ℕ) (k : Key) → Ascending (followers_in rules count k)
unfolding followers_in
followers_ascend rules count k = listed_ascends (λ q. rules_enter rules (marked (length rules) (starts_in k)) (marked count (lasts_in k)) q 0 0) 0 count

reads_tagged : (rules : List Rule) (followers : List ℕ) (b : ℕ) → reading_in rules followers b ≡ tagged 1 (filter (λ q. rules_read rules b q 0) followers)
unfolding reading_in
reads_tagged rules followers b = refl

pub no_marks : (n i : ℕ) → marked n [] i ≡ true → ⊥
no_marks n i h = ((marked_is n [] i).0 h).1

module _ (S : Spec) (c : ℕ) (line_start : Bool) where
  active_below : (i : ℕ) → is_active S c line_start i ≡ true → i < length S.rules
  active_below i h = found (slice_get S.rules i) refl h
    where
      found : (o : Option Rule) → slice_get S.rules i ≡ o → is_on S c line_start o ≡ true → i < length S.rules
      found None e g = no_true g
      found (Some r) e g = slice_get_within S.rules i r e

  -- the rules of a start's key are the active ones
  entered_are : (i : ℕ) → marked (length S.rules) (starts_in (start_key S c line_start)) i ≡ is_active S c line_start i
  entered_are i =
      let A = listed (is_active S c line_start) 0 (length S.rules) in
      rw (starts_tagged A)
      (same_test (marked (length S.rules) A i) (is_active S c line_start i) (
        λ h. ((listed_is (is_active S c line_start) (length S.rules) i).0 ((marked_is (length S.rules) A i).0 h).1).1,
        λ h. (marked_is (length S.rules) A i).1 (active_below i h, (listed_is (is_active S c line_start) (length S.rules) i).1 (active_below i h, h)),
      ))

  pub start_lasts : (p : ℕ) → marked (all_positions S.rules) (lasts_in (start_key S c line_start)) p ≡ true → ⊥
  start_lasts p h =
      let none : lasts_in (start_key S c line_start) ≡ [] = no_lasts_tagged (listed (is_active S c line_start) 0 (length S.rules)) in
      no_marks (all_positions S.rules) p (subst (λ (ks : List ℕ). marked (all_positions S.rules) ks p ≡ true) none h)

  -- what follows a start's key are the first positions of the active rules
  pub start_followers : (q : ℕ) → Among (followers_in S.rules (all_positions S.rules) (start_key S c line_start)) q ↔ (active_automaton S c line_start).first q
  start_followers q =
      let on = marked (length S.rules) (starts_in (start_key S c line_start)) in
      let last = marked (all_positions S.rules) (lasts_in (start_key S c line_start)) in
      let same : on ≡ is_active S c line_start = fun_ext entered_are in
      let enters = rules_enter_is last on S.rules q 0 0 in
      let firsts : (active_quad on 0 0 S.rules).first q ↔ (active_automaton S c line_start).first q = (
        λ h. subst (λ (f : ℕ → Bool). (active_quad f 0 0 S.rules).first q) same h,
        λ h. subst (λ (f : ℕ → Bool). (active_quad f 0 0 S.rules).first q) (sym same) h,
      ) in (
        λ h. elim (enters.0 ((followers_among S.rules (all_positions S.rules) (start_key S c line_start) q).0 h).1) [
          | inl f ↦ firsts.0 f
          | inr e ↦ absurd (start_lasts e.0 e.1)
        ],
        λ f. (followers_among S.rules (all_positions S.rules) (start_key S c line_start) q).1
            (let r = (active_is (is_active S c line_start) 0 0 S.rules).within.first q f in (omega (arith, r.1), enters.1 (inl (firsts.1 f)))),
      )

  module _ (sound : IsSound S) where
    first_key : (b : ℕ) → b < 256 → LastKey S c line_start (b ∷ []) (step_in S (start_key S c line_start) b)
    first_key b lt =
        let followers = followers_in S.rules (all_positions S.rules) (start_key S c line_start) in
        let test : ℕ → Bool = λ q. rules_read S.rules b q 0 in
        let reads : (q : ℕ) → (test q ≡ true) ↔ (automaton S).letter (b, q) = λ q. rules_read_is b lt q S.rules 0 0 in (
          filter test followers,
          reads_tagged S.rules followers b,
          (
            filter_ascends test followers (followers_ascend S.rules (all_positions S.rules) (start_key S c line_start)),
            λ q. (
              λ h. (let r = (filter_is test followers q).0 h in
                  let f = (start_followers q).0 r.0 in
                  (first_move S sound c line_start b q).1 (f, shared_letter (is_active S c line_start) 0 0 S.rules (b, q) (inl f) ((reads q).0 r.1))),
              λ h. (let r = (first_move S sound c line_start b q).0 h in
                  (filter_is test followers q).1 ((start_followers q).1 r.0, (reads q).1 (letter_every (is_active S c line_start) 0 0 S.rules (b, q) r.1))),
            ),
          ),
          λ q h. ((followers_among S.rules (all_positions S.rules) (start_key S c line_start) q).0 ((filter_is test followers q).0 h).0).0,
        )

  -- what follows the key of last positions are the positions that follow one of them
  pub last_followers : (w : List ℕ) (k : Key) → LastKey S c line_start w k → (q : ℕ) → Among (followers_in S.rules (all_positions S.rules) k) q
      ↔ ((p : ℕ) × IsLast (ReadsActive S c line_start) w p × (automaton S).follow p q)
  last_followers w k (l, is, lists, low) q =
      let on = marked (length S.rules) (starts_in k) in
      let last = marked (all_positions S.rules) (lasts_in k) in
      let off : (i : ℕ) → on i ≡ true → ⊥ = λ i h. no_marks (length S.rules) i
      (subst (λ (ks : List ℕ). marked (length S.rules) ks i ≡ true) (ap starts_in is ∙ no_starts_tagged l) h) in
      let lasts : lasts_in k ≡ l = ap lasts_in is ∙ lasts_tagged l in
      let marks : (p : ℕ) → (last p ≡ true) ↔ IsLast (ReadsActive S c line_start) w p = λ p. (
        λ h. (lists.1 p).0 (subst (λ (ks : List ℕ). Among ks p) lasts ((marked_is (all_positions S.rules) (lasts_in k) p).0 h).1),
        λ h. (let a = (lists.1 p).1 h in (marked_is (all_positions S.rules) (lasts_in k) p).1 (low p a, subst (λ (ks : List ℕ). Among ks p) (sym lasts) a)),
      ) in
      let enters = rules_enter_is last on S.rules q 0 0 in (
        λ h. elim (enters.0 ((followers_among S.rules (all_positions S.rules) k q).0 h).1) [
          | inl f ↦ absurd (none_first on off 0 0 S.rules q f)
          | inr e ↦ (e.0, (marks e.0).0 e.1, e.2)
        ],
        λ (p, h, f). (followers_among S.rules (all_positions S.rules) k q).1
            (let r = (active_is every 0 0 S.rules).within.follow p q f in (omega (arith, r.3), enters.1 (inr (p, (marks p).1 h, f)))),
      )

  module _ (sound : IsSound S) where
    next_key : (w : List ℕ) (k : Key) → w ≢ [] → LastKey S c line_start w k → (b : ℕ) → b < 256 → LastKey S c line_start (w ++ b ∷ []) (step_in S k b)
    next_key w k some h b lt =
        let followers = followers_in S.rules (all_positions S.rules) k in
        let test : ℕ → Bool = λ q. rules_read S.rules b q 0 in
        let reads : (q : ℕ) → (test q ≡ true) ↔ (automaton S).letter (b, q) = λ q. rules_read_is b lt q S.rules 0 0 in (
          filter test followers,
          reads_tagged S.rules followers b,
          (
            filter_ascends test followers (followers_ascend S.rules (all_positions S.rules) k),
            λ q. (
              λ a. (let r = (filter_is test followers q).0 a in (move S sound c line_start w b q some).1 ((reads q).0 r.1, (last_followers w k h q).0 r.0)),
              λ a. (let r = (move S sound c line_start w b q some).0 a in (filter_is test followers q).1 ((last_followers w k h q).1 r.1, (reads q).1 r.0)),
            ),
          ),
          λ q a. ((followers_among S.rules (all_positions S.rules) k q).0 ((filter_is test followers q).0 a).0).0,
        )

    not_empty : (w : List ℕ) (b : ℕ) → w ++ b ∷ [] ≢ []
    not_empty [] b e = absurd cc
    not_empty (x ∷ w) b e = absurd cc

    pub later_key : (w u : List ℕ) (k : Key) → u ≢ [] → LastKey S c line_start u k → IsText w → LastKey S c line_start (u ++ w) (run (step_in S) k w)
    later_key [] u k some h text = subst (λ (v : List ℕ). LastKey S c line_start v k) (sym (append_none u)) h
      where
        append_none : (v : List ℕ) → v ++ [] ≡ v
        append_none [] = refl
        append_none (x ∷ v) = ap (λ (t : List ℕ). x ∷ t) (append_none v)
    later_key (b ∷ w) u k some h text =
        subst (λ (v : List ℕ). LastKey S c line_start v (run (step_in S) (step_in S k b) w)) (append_assoc u (b ∷ []) w)
        (later_key w (u ++ b ∷ []) (step_in S k b) (not_empty u b) (next_key u k some h b text.0) text.1)

    -- after a word that is not empty
    pub word_key : (b : ℕ) (w : List ℕ) → b < 256 → IsText w → LastKey S c line_start (b ∷ w) (run (step_in S) (start_key S c line_start) (b ∷ w))
    word_key b w lt text = later_key w (b ∷ []) (step_in S (start_key S c line_start) b) (λ e. absurd (no_cons b e)) (first_key sound b lt) text
      where
        no_cons : (x : ℕ) → x ∷ [] ≡ [] → ⊥
        no_cons x e = cc

    -- something follows the key just where a longer word may fit
    pub start_live : Live S c line_start [] ↔ ((q : ℕ) × Among (followers_in S.rules (all_positions S.rules) (start_key S c line_start)) q)
    start_live = (
      λ h. (let r = (live_first S sound c line_start).0 h in (r.0, (start_followers r.0).1 r.1)),
      λ (q, h). (live_first S sound c line_start).1 (q, (start_followers q).0 h),
    )

    pub later_live : (w : List ℕ) (k : Key) → w ≢ [] → LastKey S c line_start w k → Live S c line_start w ↔ ((q : ℕ) × Among (followers_in S.rules (all_positions S.rules) k) q)
    later_live w k some h = (
      λ l. (let r = (live_after S sound c line_start w some).0 l in (r.1, (last_followers w k h r.1).1 (r.0, r.2, r.3))),
      λ (q, a). (let r = (last_followers w k h q).0 a in (live_after S sound c line_start w some).1 (r.0, q, r.1, r.2)),
    )

-- nothing follows the dead state's key
no_members : (l : List ℕ) → ((x : ℕ) → Among l x → ⊥) → l ≡ []
no_members [] h = refl
no_members (x ∷ l) h = absurd (h x (inl refl))

pub dead_followers : (S : Spec) → followers_in S.rules (all_positions S.rules) [] ≡ []
dead_followers S = no_members (followers_in S.rules (all_positions S.rules) []) (λ q a.
    let on = marked (length S.rules) [] in
    let last = marked (all_positions S.rules) [] in
    elim ((rules_enter_is last on S.rules q 0 0).0 ((followers_among S.rules (all_positions S.rules) [] q).0 a).1) [
      | inl f ↦ none_first on (no_marks (length S.rules)) 0 0 S.rules q f
      | inr e ↦ no_marks (all_positions S.rules) e.0 e.1
    ])

pub dead_step : (S : Spec) (b : ℕ) → step_in S [] b ≡ []
dead_step S b = ap (λ (k : Key). reading_in S.rules k b) (dead_followers S) ∙ reads_tagged S.rules [] b
