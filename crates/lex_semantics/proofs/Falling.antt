-- The matches of a machine from the longest down, told by the states after each byte.
use Rattle.std.proofs.Common.{◌≡◌, ℕ, suc, ◌+◌, ◌<◌, Bool, List, [], ◌∷◌, ◌++◌, length, ◌⊎◌, inl, inr, ◌↔◌, Option, Some, None, take, true, false, refl, sym, ◌∙◌, ap, subst, arith}
use Rattle.std.specs.Prelude.{filter_map, if◌then◌else◌}
use Rattle.std.specs.List.{cons_option}
use Rattle.std.proofs.lemmas.List.{append-nil, append_assoc}
use Rattle.lex_semantics.specs.Text.{Among, Ascending, BeginsWith}
use Rattle.lex_semantics.specs.Spec.{Statement, Echo, Print, Begin, More, Less, Reject, End, Push, Pop}
use Rattle.lex_semantics.specs.Rules.{Rules, statements_of}
use Rattle.lex_semantics.specs.Acting.{Acting, StackFault}
use Rattle.lex_semantics.specs.ActionResults.{ActionResult, Done, Again, Over, act_result, has_room, popped, settle, perform_results}
use Rattle.lex_semantics.specs.Candidates.{Candidate, Before, InOrder, Candidates}
use Rattle.lex_semantics.specs.Machine.{Machine, rules_of_machine}
use Rattle.lex_semantics.specs.MachineLaws.{MachineLaws}
use Rattle.lex_semantics.specs.Plain.{default_match}
use Rattle.lex_semantics.specs.PlainMachine.{kept_by, match_of, machine_matches}
use Rattle.lex_semantics.specs.Trail.{trail_from, falling}
use Rattle.lex_semantics.proofs.Fronts.{among_append, among_left, among_right}
use Rattle.lex_semantics.proofs.MachineRun.{match_sound, state_sound, machine_listed}

-- the last state tells the longest ones
pub falling-snoc : (M : Machine) (n s : ℕ) (ss : List ℕ) → falling M n (ss ++ s ∷ []) ≡ filter_map (match_of M (n + suc (length ss))) (M.accepts s) ++ falling M n ss
falling-snoc M n s [] =
    let e : suc n ≡ n + 1 = omega arith in
    ap (λ k. filter_map (match_of M k) (M.accepts s)) e ∙ sym (append-nil (filter_map (match_of M (n + 1)) (M.accepts s)))
falling-snoc M n s (t ∷ ss) =
    let e : suc n + suc (length ss) ≡ n + suc (suc (length ss)) = omega arith in
    ap (λ l. l ++ filter_map (match_of M (suc n)) (M.accepts t)) (falling-snoc M (suc n) s ss ∙ ap (λ k. filter_map (match_of M k) (M.accepts s) ++ falling M (suc n) ss) e)
    ∙ append_assoc (filter_map (match_of M (n + suc (suc (length ss)))) (M.accepts s)) (falling M (suc n) ss) (filter_map (match_of M (suc n)) (M.accepts t))

cons_ordered : (o : Option Candidate) (ms : List Candidate) → InOrder ms → ((m : Candidate) → o ≡ Some m → (q : Candidate) → Among ms q → Before m q) → InOrder (cons_option o ms)
cons_ordered None ms h f = h
cons_ordered (Some m) ms h f = (f m refl, h)

append_ordered : (xs ys : List Candidate) → InOrder xs → InOrder ys → ((m q : Candidate) → Among xs m → Among ys q → Before m q) → InOrder (xs ++ ys)
append_ordered [] ys h k f = k
append_ordered (x ∷ xs) ys h k f = (first, append_ordered xs ys h.1 k (λ m q a b. f m q (inr a) b))
  where
    first : (q : Candidate) → Among (xs ++ ys) q → Before x q
    first q a = elim (among_append xs ys q a) [ inl l ↦ h.0 q l | inr r ↦ f x q (inl refl) r ]

here_ordered : (M : Machine) (n : ℕ) (is : List ℕ) → Ascending is → InOrder (filter_map (match_of M n) is)
here_ordered M n [] a = tt
here_ordered M n (i ∷ is) a = cons_ordered (match_of M n i) (filter_map (match_of M n) is) (here_ordered M n is a.1) first
  where
    first : (m : Candidate) → match_of M n i ≡ Some m → (q : Candidate) → Among (filter_map (match_of M n) is) q → Before m q
    first m e q among =
        let h = match_sound M n i (kept_by (M.cut i) n) m refl e in
        let k = state_sound M n is q among in
        let lt : i < q.rule = a.0 q.rule k.1 in
        inr (h.0 ∙ sym k.0, omega (arith, h.1, lt))

module _ (M : Machine) (laws : MachineLaws M) where
  falling_longer : (n : ℕ) (ss : List ℕ) (m : Candidate) → Among (falling M n ss) m → n < m.len
  falling_longer n [] m h = absurd h
  falling_longer n (s ∷ ss) m h = elim (among_append (falling M (suc n) ss) (filter_map (match_of M (suc n)) (M.accepts s)) m h) [
    | inl k ↦ (let lt : suc n < m.len = falling_longer (suc n) ss m k in omega arith)
    | inr k ↦ (let e : m.len ≡ suc n = (state_sound M (suc n) (M.accepts s) m k).0 in omega arith)
  ]

  falling_below : (n : ℕ) (ss : List ℕ) (m : Candidate) → Among (falling M n ss) m → m.rule < M.count
  falling_below n [] m h = absurd h
  falling_below n (s ∷ ss) m h = elim (among_append (falling M (suc n) ss) (filter_map (match_of M (suc n)) (M.accepts s)) m h) [
    | inl k ↦ falling_below (suc n) ss m k
    | inr k ↦ laws.in_range s m.rule (state_sound M (suc n) (M.accepts s) m k).1
  ]

  falling_ordered : (n : ℕ) (ss : List ℕ) → InOrder (falling M n ss)
  falling_ordered n [] = tt
  falling_ordered n (s ∷ ss) = append_ordered (falling M (suc n) ss) (filter_map (match_of M (suc n)) (M.accepts s)) (falling_ordered (suc n) ss) (here_ordered M (suc n) (M.accepts s) (laws.ascending s)) before
    where
      before : (m q : Candidate) → Among (falling M (suc n) ss) m → Among (filter_map (match_of M (suc n)) (M.accepts s)) q → Before m q
      before m q a b =
          let lt : suc n < m.len = falling_longer (suc n) ss m a in
          let e : q.len ≡ suc n = (state_sound M (suc n) (M.accepts s) q b).0 in
          inl (omega arith)

  either_way : (xs ys zs : List Candidate) (m : Candidate) → Among xs m ↔ Among zs m → Among (xs ++ ys) m ↔ Among (ys ++ zs) m
  either_way xs ys zs m rest = (to, from)
    where
      to : Among (xs ++ ys) m → Among (ys ++ zs) m
      to h = elim (among_append xs ys m h) [ inl k ↦ among_right ys zs m (rest.0 k) | inr k ↦ among_left ys zs m k ]

      from : Among (ys ++ zs) m → Among (xs ++ ys) m
      from h = elim (among_append ys zs m h) [ inl k ↦ among_right xs ys m k | inr k ↦ among_left xs ys m (rest.1 k) ]

  same_members : (s n : ℕ) (y : List ℕ) (m : Candidate) → Among (falling M n (trail_from M s y)) m ↔ Among (machine_matches M s n y) m
  same_members s n [] m = (λ h. h, λ h. h)
  same_members s n (b ∷ y) m =
      either_way (falling M (suc n) (trail_from M (M.next s b) y)) (filter_map (match_of M (suc n)) (M.accepts (M.next s b))) (machine_matches M (M.next s b) (suc n) y) m
      (same_members (M.next s b) (suc n) y m)

  default_ordered : (y : List ℕ) → InOrder (default_match M.count y)
  default_ordered [] = tt
  default_ordered (b ∷ y) = (λ q a. absurd a, tt)

  default_last : (y : List ℕ) (ss : List ℕ) (m q : Candidate) → Among (falling M 0 ss) m → Among (default_match M.count y) q → Before m q
  default_last [] ss m q a b = absurd b
  default_last (c ∷ y) ss m q a (inr b) = absurd b
  default_last (c ∷ y) ss m q a (inl e) =
      let long : 0 < m.len = falling_longer 0 ss m a in
      let below : m.rule < M.count = falling_below 0 ss m a in
      let len : q.len ≡ 1 = ap (λ (z : Candidate). z.len) e in
      let rule : q.rule ≡ M.count = ap (λ (z : Candidate). z.rule) e in
      elim (one_or_more long) [ inl more ↦ inl (omega arith) | inr one ↦ inr (omega arith, omega arith) ]
    where
      one_or_more : 0 < m.len → (1 < m.len) ⊎ (m.len ≡ 1)
      one_or_more h = grind arith

  -- All the matches at the front of y, in order.
  pub falling_candidates : (c : ℕ) (line_start : Bool) (y : List ℕ) → Candidates (rules_of_machine M) c line_start y (falling M 0 (trail_from M (M.start c line_start) y) ++ default_match M.count y)
  falling_candidates c line_start y = record {
    in_order = append_ordered (falling M 0 (trail_from M (M.start c line_start) y)) (default_match M.count y) (falling_ordered 0 (trail_from M (M.start c line_start) y)) (default_ordered y) (default_last y (trail_from M (M.start c line_start) y));
    members = λ m. (λ h. (machine_listed M laws c line_start y m).0 (to m h), λ h. from m ((machine_listed M laws c line_start y m).1 h));
  }
    where
      to : (m : Candidate) → Among (falling M 0 (trail_from M (M.start c line_start) y) ++ default_match M.count y) m → Among (machine_matches M (M.start c line_start) 0 y ++ default_match M.count y) m
      to m h = elim (among_append (falling M 0 (trail_from M (M.start c line_start) y)) (default_match M.count y) m h) [
        | inl k ↦ among_left (machine_matches M (M.start c line_start) 0 y) (default_match M.count y) m ((same_members (M.start c line_start) 0 y m).0 k)
        | inr k ↦ among_right (machine_matches M (M.start c line_start) 0 y) (default_match M.count y) m k
      ]

      from : (m : Candidate) → Among (machine_matches M (M.start c line_start) 0 y ++ default_match M.count y) m → Among (falling M 0 (trail_from M (M.start c line_start) y) ++ default_match M.count y) m
      from m h = elim (among_append (machine_matches M (M.start c line_start) 0 y) (default_match M.count y) m h) [
        | inl k ↦ among_left (falling M 0 (trail_from M (M.start c line_start) y)) (default_match M.count y) m ((same_members (M.start c line_start) 0 y m).1 k)
        | inr k ↦ among_right (falling M 0 (trail_from M (M.start c line_start) y)) (default_match M.count y) m k
      ]

-- What actions write is only added to.

abbrev pub acting_after : ActionResult → Acting
acting_after (Done a) = a
acting_after (Again a) = a
acting_after (Over a e) = a

pub begins_trans : (u v w : List ℕ) → BeginsWith w v → BeginsWith v u → BeginsWith w u
begins_trans u v w h k = (k.0 ++ h.0, h.1 ∙ ap (λ z. z ++ h.0) k.1 ∙ append_assoc u k.0 h.0)

full_adds : (b : Bool) (a : Acting) (w : ActionResult) → BeginsWith (acting_after w).written a.written → BeginsWith (acting_after (if b then w else Over a StackFault)).written a.written
full_adds true a w h = h
full_adds false a w h = ([], sym (append-nil a.written))

empty_adds : (cs : List ℕ) (a : Acting) (next : ℕ → List ℕ → ActionResult) → ((c : ℕ) (rest : List ℕ) → BeginsWith (acting_after (next c rest)).written a.written) → BeginsWith (acting_after (popped cs a next)).written a.written
empty_adds [] a next h = ([], sym (append-nil a.written))
empty_adds (c ∷ cs) a next h = h c cs

pub act_adds : (ss : List Statement) (a : Acting) → BeginsWith (acting_after (act_result ss a)).written a.written
act_adds [] a = ([], sym (append-nil a.written))
act_adds (Echo ∷ ss) a = begins_trans a.written (a.written ++ a.text) (acting_after (act_result (Echo ∷ ss) a)).written (act_adds ss (record a { written = a.written ++ a.text })) (a.text, refl)
act_adds (Print s ∷ ss) a = begins_trans a.written (a.written ++ s) (acting_after (act_result (Print s ∷ ss) a)).written (act_adds ss (record a { written = a.written ++ s })) (s, refl)
act_adds (Begin d ∷ ss) a = act_adds ss (record a { condition = d })
act_adds (More ∷ ss) a = act_adds ss (record a { more = true })
act_adds (Less n ∷ ss) a = act_adds ss (record a { text = take n a.text })
act_adds (Reject ∷ ss) a = ([], sym (append-nil a.written))
act_adds (End s ∷ ss) a = ([], sym (append-nil a.written))
act_adds (Push d ∷ ss) a =
    full_adds (has_room a.stack) a (act_result ss (record a { condition = d; stack = a.condition ∷ a.stack })) (act_adds ss (record a { condition = d; stack = a.condition ∷ a.stack }))
act_adds (Pop ∷ ss) a = empty_adds a.stack a (λ c cs. act_result ss (record a { condition = c; stack = cs })) (λ c cs. act_adds ss (record a { condition = c; stack = cs }))

some_same : {A : Type 0} (a b : A) → Some a ≡ Some b → a ≡ b
some_same a b e = cc

pub settle_adds : (w : ActionResult) (f : Acting → Option Acting) (v : List ℕ) (o : Acting) → BeginsWith (acting_after w).written v → ((a : Acting) → f a ≡ Some o → BeginsWith o.written a.written) → settle w f ≡ Some o → BeginsWith o.written v
settle_adds (Done a) f v o h later e = subst (λ (z : Acting). BeginsWith z.written v) (some_same (record a { ended = None }) o e) h
settle_adds (Again a) f v o h later e = begins_trans v a.written o.written (later a e) h
settle_adds (Over a d) f v o h later e = subst (λ (z : Acting). BeginsWith z.written v) (some_same (record a { ended = Some d }) o e) h

pub perform_adds : (R : Rules) (kept y : List ℕ) (ms : List Candidate) (w : List ℕ) (c : ℕ) (cs : List ℕ) (o : Acting) → perform_results R kept y ms w c cs ≡ Some o → BeginsWith o.written w
unfolding perform_results
perform_adds R kept y [] w c cs o e = absurd (no e)
  where
    no : None ≡ Some o → ⊥
    no p = cc
perform_adds R kept y (m ∷ ms) w c cs o e =
    let a : Acting = record { text = kept ++ take m.keep y; written = w; condition = c; stack = cs; more = false; ended = None } in
    settle_adds (act_result (statements_of R m.rule) a) (λ b. perform_results R kept y ms b.written b.condition b.stack) w o (act_adds (statements_of R m.rule) a) (λ b p. perform_adds R kept y ms b.written b.condition b.stack o p) e
