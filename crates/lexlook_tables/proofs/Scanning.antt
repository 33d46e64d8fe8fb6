-- Two machines that do the same of each match, and at the end of the input, scan alike.
use Rattle.std.proofs.Common.{◌≡◌, ℕ, zero, suc, ◌≤◌, ◌<◌, Bool, true, false, List, [], ◌∷◌, ◌++◌, length, map, take, drop, ◌⊎◌, inl, inr, ◌↔◌, Option, Some, None, refl, sym, ◌∙◌, ap, subst, arith}
use Rattle.std.specs.Prelude.{nat_lt, if◌then◌else◌, option_map, filter_map, ⊤}
use Rattle.std.specs.List.{cons_option}
use Rattle.std.proofs.lemmas.Bool.{cases_lt, ne_eqb, or_parts}
use Rattle.std.proofs.lemmas.List.{length-map, append_assoc}
use Rattle.lex_semantics.proofs.ResultsAre.{results_are}
use Rattle.lex_semantics.specs.Limits.{max_stack}
use Rattle.lex_semantics.specs.Text.{IsText, Among, AllBelow, Ascending, part, at_line_start}
use Rattle.lex_semantics.specs.Spec.{Cut, Whole, Head, Trail, Statement, Echo, Print, Begin, More, Less, Reject, End, Push, Pop, has_reject}
use Rattle.lex_semantics.specs.Rules.{Rules, statements_of}
use Rattle.lex_semantics.specs.Candidates.{Candidate, Before, InOrder, Candidates}
use Rattle.lex_semantics.specs.Acting.{Ending, Status, StackFault, Acting}
use Rattle.lex_semantics.specs.ActionResults.{ActionResult, Done, Again, Over, act_result, has_room, popped, settle, perform_results}
use Rattle.lex_semantics.specs.Run.{Place, State, Turn, MatchTurn, NextFrom, Turns, Run}
use Rattle.lex_semantics.specs.Machine.{Machine, walk, rules_of_machine}
use Rattle.lex_semantics.specs.MachineLaws.{MachineLaws}
use Rattle.lex_semantics.specs.Plain.{default_match}
use Rattle.lex_semantics.specs.PlainMachine.{kept_by, match_of, machine_matches}
use Rattle.lex_semantics.proofs.Actions.{BeginsBelow, begins_below}
use Rattle.lex_semantics.proofs.Ends.{legal_of}
use Rattle.lex_semantics.proofs.Fronts.{among_append, among_left, among_right}
use Rattle.lex_semantics.proofs.MachineRun.{state_sound, machine_listed, machine_run_exists}
use Rattle.lex_semantics.proofs.Once.{one_candidates, one_run}
use Rattle.lex_semantics.proofs.Texts.{is_text_drop}
use Rattle.lexlook_tables.specs.Same.{number_in, renumbered, Deed, deed_of, deed_in, has_trail, may_yield, deeds_at, deeds_in, AlwaysAgree}
use Rattle.lexlook_tables.specs.Comparing.{HaveEnds}
use Rattle.lexlook_tables.specs.Scans.{ScanAlike, BeginTogether}
use Rattle.lexlook_tables.proofs.Asked.{SameOf, own_deed, default_deed, heads, went_on}

-- the matches at a place, the longest first, from a state after n bytes
abbrev longest_first : Machine → ℕ → ℕ → List ℕ → List Candidate
longest_first M s n [] = []
longest_first M s n (b ∷ y) = longest_first M (M.next s b) (suc n) y ++ filter_map (match_of M (suc n)) (M.accepts (M.next s b))

-- the default rule after them
abbrev pub in_turn : Machine → ℕ → Bool → List ℕ → List Candidate
in_turn M c line y = longest_first M (M.start c line) 0 y ++ default_match M.count y

module _ (M : Machine) (laws : MachineLaws M) where
  abbrev here : ℕ → List ℕ → List Candidate
  here n is = filter_map (match_of M n) is

  here_after : (n : ℕ) (is : List ℕ) (j : ℕ) (q : Candidate) → ((i : ℕ) → Among is i → j < i) → Among (here n is) q → (q.len ≡ n) × (j < q.rule)
  here_after n is j q less at = (let h = state_sound M n is q at in (h.0, less q.rule h.1))

  here_in_order : (n : ℕ) (is : List ℕ) → Ascending is → InOrder (here n is)
  here_in_order n [] up = tt
  here_in_order n (i ∷ is) up = first (kept_by (M.cut i) n) (here_in_order n is up.1)
    where
      first : (o : Option ℕ) → InOrder (here n is) → InOrder (cons_option (option_map (λ k. record { len = n; rule = i; keep = k }) o) (here n is))
      first None rest = rest
      first (Some k) rest = (λ q at. (let h = here_after n is i q up.0 at in inr (sym h.0, h.1)), rest)

  -- each of them is longer than what was walked, and of a rule of the machine
  bounds : (s n : ℕ) (y : List ℕ) (m : Candidate) → Among (longest_first M s n y) m → (n < m.len) × (m.rule < M.count)
  bounds s n [] m at = absurd at
  bounds s n (b ∷ y) m at = elim (among_append (longest_first M (M.next s b) (suc n) y) (here (suc n) (M.accepts (M.next s b))) m at) [
    | inl later ↦ (let h = bounds (M.next s b) (suc n) y m later in (omega (arith, h.0), h.1))
    | inr now ↦ (let h = state_sound M (suc n) (M.accepts (M.next s b)) m now in (omega (arith, h.0), laws.in_range (M.next s b) m.rule h.1))
  ]

  joined_in_order : (ms ns : List Candidate) → InOrder ms → InOrder ns → ((m n : Candidate) → Among ms m → Among ns n → Before m n) → InOrder (ms ++ ns)
  joined_in_order [] ns a b h = b
  joined_in_order (m ∷ ms) ns a b h = (λ q at. first q (among_append ms ns q at), joined_in_order ms ns a.1 b (λ p q at. h p q (inr at)))
    where
      first : (q : Candidate) → Among ms q ⊎ Among ns q → Before m q
      first q (inl at) = a.0 q at
      first q (inr at) = h m q (inl refl) at

  all_in_order : (s n : ℕ) (y : List ℕ) → InOrder (longest_first M s n y)
  all_in_order s n [] = tt
  all_in_order s n (b ∷ y) = joined_in_order (longest_first M (M.next s b) (suc n) y) (here (suc n) (M.accepts (M.next s b))) (all_in_order (M.next s b) (suc n) y)
      (here_in_order (suc n) (M.accepts (M.next s b)) (laws.ascending (M.next s b)))
      (λ m q later now. inl (let h = bounds (M.next s b) (suc n) y m later in let g = state_sound M (suc n) (M.accepts (M.next s b)) q now in omega (arith, h.0, g.0)))

  default_last : (s : ℕ) (y : List ℕ) (m q : Candidate) → Among (longest_first M s 0 y) m → Among (default_match M.count y) q → Before m q
  default_last s [] m q at last = absurd last
  default_last s (b ∷ y) m q at (inr last) = absurd last
  default_last s (b ∷ y) m q at (inl is) = from (cases_lt 1 m.len)
    where
      h : (0 < m.len) × (m.rule < M.count)
      h = bounds s 0 (b ∷ y) m at

      size : q.len ≡ 1
      size = ap (λ (z : Candidate). z.len) is

      rule : q.rule ≡ M.count
      rule = ap (λ (z : Candidate). z.rule) is

      from : (1 < m.len) ⊎ (m.len ≤ 1) → Before m q
      from (inl more) = inl (omega (arith, more, size))
      from (inr one) = inr (omega (arith, one, size, h.0), omega (arith, rule, h.1))

  default_in_order : (y : List ℕ) → InOrder (default_match M.count y)
  default_in_order [] = tt
  default_in_order (b ∷ y) = (λ q at. absurd at, tt)

  -- they are those that the machine has from one end of the text to the other
  same_members : (s n : ℕ) (y : List ℕ) (m : Candidate) → Among (longest_first M s n y) m ↔ Among (machine_matches M s n y) m
  same_members s n [] m = (λ at. at, λ at. at)
  same_members s n (b ∷ y) m = (to (same_members (M.next s b) (suc n) y m).0, from (same_members (M.next s b) (suc n) y m).1)
    where
      to : (Among (longest_first M (M.next s b) (suc n) y) m → Among (machine_matches M (M.next s b) (suc n) y) m) → Among (longest_first M (M.next s b) (suc n) y ++ here (suc n) (M.accepts (M.next s b))) m → Among (here (suc n) (M.accepts (M.next s b)) ++ machine_matches M (M.next s b) (suc n) y) m
      to later at = elim (among_append (longest_first M (M.next s b) (suc n) y) (here (suc n) (M.accepts (M.next s b))) m at) [
        | inl a ↦ among_right (here (suc n) (M.accepts (M.next s b))) (machine_matches M (M.next s b) (suc n) y) m (later a)
        | inr a ↦ among_left (here (suc n) (M.accepts (M.next s b))) (machine_matches M (M.next s b) (suc n) y) m a
      ]

      from : (Among (machine_matches M (M.next s b) (suc n) y) m → Among (longest_first M (M.next s b) (suc n) y) m) → Among (here (suc n) (M.accepts (M.next s b)) ++ machine_matches M (M.next s b) (suc n) y) m → Among (longest_first M (M.next s b) (suc n) y ++ here (suc n) (M.accepts (M.next s b))) m
      from later at = elim (among_append (here (suc n) (M.accepts (M.next s b))) (machine_matches M (M.next s b) (suc n) y) m at) [
        | inl a ↦ among_right (longest_first M (M.next s b) (suc n) y) (here (suc n) (M.accepts (M.next s b))) m a
        | inr a ↦ among_left (longest_first M (M.next s b) (suc n) y) (here (suc n) (M.accepts (M.next s b))) m (later a)
      ]

  pub candidates_in_turn : (c : ℕ) (line : Bool) (y : List ℕ) → Candidates (rules_of_machine M) c line y (in_turn M c line y)
  candidates_in_turn c line y = record {
    in_order = joined_in_order (longest_first M (M.start c line) 0 y) (default_match M.count y) (all_in_order (M.start c line) 0 y) (default_in_order y) (λ m q a b. default_last (M.start c line) y m q a b);
    members = λ m. (λ at. (machine_listed M laws c line y m).0 (to m at), λ is. from m ((machine_listed M laws c line y m).1 is));
  }
    where
      to : (m : Candidate) → Among (in_turn M c line y) m → Among (machine_matches M (M.start c line) 0 y ++ default_match M.count y) m
      to m at = elim (among_append (longest_first M (M.start c line) 0 y) (default_match M.count y) m at) [
        | inl a ↦ among_left (machine_matches M (M.start c line) 0 y) (default_match M.count y) m ((same_members (M.start c line) 0 y m).0 a)
        | inr a ↦ among_right (machine_matches M (M.start c line) 0 y) (default_match M.count y) m a
      ]

      from : (m : Candidate) → Among (machine_matches M (M.start c line) 0 y ++ default_match M.count y) m → Among (in_turn M c line y) m
      from m at = elim (among_append (machine_matches M (M.start c line) 0 y) (default_match M.count y) m at) [
        | inl a ↦ among_left (longest_first M (M.start c line) 0 y) (default_match M.count y) m ((same_members (M.start c line) 0 y m).1 a)
        | inr a ↦ among_right (longest_first M (M.start c line) 0 y) (default_match M.count y) m a
      ]

-- What actions do, with the numbers that conditions have in the second machine.
module _ (order : List ℕ) where
  abbrev image : Acting → Acting
  image a = record { text = a.text; written = a.written; condition = number_in order a.condition; stack = map (number_in order) a.stack; more = a.more; ended = a.ended }

  abbrev result_in : ActionResult → ActionResult
  result_in (Done a) = Done (image a)
  result_in (Again a) = Again (image a)
  result_in (Over a e) = Over (image a) e

  abbrev statements_in : List Statement → List Statement
  statements_in ss = map (renumbered order) ss

  full_or : (b : Bool) (a : Acting) (r r' : ActionResult) → r' ≡ result_in r → (if b then r' else Over (image a) StackFault) ≡ result_in (if b then r else Over a StackFault)
  full_or true a r r' e = e
  full_or false a r r' e = refl

  act_in : (ss : List Statement) (a : Acting) → act_result (statements_in ss) (image a) ≡ result_in (act_result ss a)
  act_in [] a = refl
  act_in (Echo ∷ ss) a = act_in ss (record a { written = a.written ++ a.text })
  act_in (Print s ∷ ss) a = act_in ss (record a { written = a.written ++ s })
  act_in (Begin d ∷ ss) a = act_in ss (record a { condition = d })
  act_in (More ∷ ss) a = act_in ss (record a { more = true })
  act_in (Less n ∷ ss) a = act_in ss (record a { text = take n a.text })
  act_in (Reject ∷ ss) a = refl
  act_in (End s ∷ ss) a = refl
  act_in (Push d ∷ ss) a =
      let b : Acting = record a { condition = d; stack = a.condition ∷ a.stack } in
      ap (λ n. if nat_lt n max_stack then act_result (statements_in ss) (image b) else Over (image a) StackFault) (length-map a.stack (number_in order))
      ∙ full_or (has_room a.stack) a (act_result ss b) (act_result (statements_in ss) (image b)) (act_in ss b)
  act_in (Pop ∷ ss) a = from (λ b. act_in ss b) a.stack
    where
      from : ((b : Acting) → act_result (statements_in ss) (image b) ≡ result_in (act_result ss b)) → (cs : List ℕ) → popped (map (number_in order) cs) (image a) (λ c ds. act_result (statements_in ss) (record (image a) { condition = c; stack = ds })) ≡ result_in (popped cs a (λ c ds. act_result ss (record a { condition = c; stack = ds })))
      from rest [] = refl
      from rest (c ∷ cs) = rest (record a { condition = c; stack = cs })

  -- Matches that keep the same of their text, and whose actions are the same: up to one that does not reject it.
  abbrev Alike : Rules → Rules → List Candidate → List Candidate → Type 0
  Alike R T [] [] = ⊤
  Alike R T [] (n ∷ ns) = ⊥
  Alike R T (m ∷ ms) [] = ⊥
  Alike R T (m ∷ ms) (n ∷ ns) = (m.keep ≡ n.keep) × (statements_in (statements_of R m.rule) ≡ statements_of T n.rule) × ((has_reject (statements_of R m.rule) ≡ false) ⊎ Alike R T ms ns)

  settled_in : (r : ActionResult) (f g : Acting → Option Acting) → ((a : Acting) → g (image a) ≡ option_map image (f a)) → settle (result_in r) g ≡ option_map image (settle r f)
  settled_in (Done a) f g e = refl
  settled_in (Again a) f g e = e a
  settled_in (Over a d) f g e = refl

  -- what follows a match that does not reject its text does not matter
  quiet_or : (b : Bool) (a : Acting) (r : ActionResult) (f g : Acting → Option Acting) → settle (result_in r) g ≡ option_map image (settle r f) → settle (result_in (if b then r else Over a StackFault)) g ≡ option_map image (settle (if b then r else Over a StackFault) f)
  quiet_or true a r f g h = h
  quiet_or false a r f g h = refl

  quiet_popped : (cs : List ℕ) (a : Acting) (next : ℕ → List ℕ → ActionResult) (f g : Acting → Option Acting) → ((c : ℕ) (ds : List ℕ) → settle (result_in (next c ds)) g ≡ option_map image (settle (next c ds) f)) →
      settle (result_in (popped cs a next)) g ≡ option_map image (settle (popped cs a next) f)
  quiet_popped [] a next f g h = refl
  quiet_popped (c ∷ cs) a next f g h = h c cs

  quiet_in : (ss : List Statement) (a : Acting) (f g : Acting → Option Acting) → has_reject ss ≡ false → settle (result_in (act_result ss a)) g ≡ option_map image (settle (act_result ss a) f)
  quiet_in [] a f g h = refl
  quiet_in (Echo ∷ ss) a f g h = quiet_in ss (record a { written = a.written ++ a.text }) f g h
  quiet_in (Print s ∷ ss) a f g h = quiet_in ss (record a { written = a.written ++ s }) f g h
  quiet_in (Begin d ∷ ss) a f g h = quiet_in ss (record a { condition = d }) f g h
  quiet_in (More ∷ ss) a f g h = quiet_in ss (record a { more = true }) f g h
  quiet_in (Less n ∷ ss) a f g h = quiet_in ss (record a { text = take n a.text }) f g h
  quiet_in (Reject ∷ ss) a f g h = absurd (no h)
    where
      no : true ≡ false → ⊥
      no p = cc
  quiet_in (End s ∷ ss) a f g h = refl
  quiet_in (Push d ∷ ss) a f g h =
      quiet_or (has_room a.stack) a (act_result ss (record a { condition = d; stack = a.condition ∷ a.stack })) f g (quiet_in ss (record a { condition = d; stack = a.condition ∷ a.stack }) f g h)
  quiet_in (Pop ∷ ss) a f g h =
      quiet_popped a.stack a (λ c cs. act_result ss (record a { condition = c; stack = cs })) f g (λ c cs. quiet_in ss (record a { condition = c; stack = cs }) f g h)

  perform_in : (R T : Rules) (kept y : List ℕ) (ms ns : List Candidate) → Alike R T ms ns → (out : List ℕ) (c : ℕ) (cs : List ℕ) →
      perform_results T kept y ns out (number_in order c) (map (number_in order) cs) ≡ option_map image (perform_results R kept y ms out c cs)
  unfolding perform_results
  perform_in R T kept y [] [] h out c cs = refl
  perform_in R T kept y [] (n ∷ ns) h out c cs = absurd h
  perform_in R T kept y (m ∷ ms) [] h out c cs = absurd h
  perform_in R T kept y (m ∷ ms) (n ∷ ns) h out c cs = ap (λ w. settle w rest) (same ∙ act_in (statements_of R m.rule) a) ∙ from h.2 (λ more b. perform_in R T kept y ms ns more b.written b.condition b.stack)
    where
      a : Acting
      a = record { text = kept ++ take m.keep y; written = out; condition = c; stack = cs; more = false; ended = None }

      next : Acting → Option Acting
      next b = perform_results R kept y ms b.written b.condition b.stack

      rest : Acting → Option Acting
      rest b = perform_results T kept y ns b.written b.condition b.stack

      from : (has_reject (statements_of R m.rule) ≡ false) ⊎ Alike R T ms ns → (Alike R T ms ns → (b : Acting) → rest (image b) ≡ option_map image (next b)) →
          settle (result_in (act_result (statements_of R m.rule) a)) rest ≡ option_map image (settle (act_result (statements_of R m.rule) a) next)
      from (inl quiet) later = quiet_in (statements_of R m.rule) a next rest quiet
      from (inr more) later = settled_in (act_result (statements_of R m.rule) a) next rest (later more)

      same : act_result (statements_of T n.rule) (record { text = kept ++ take n.keep y; written = out; condition = number_in order c; stack = map (number_in order) cs; more = false; ended = None }) ≡ act_result (statements_in (statements_of R m.rule)) (image a)
      same = ap (λ ss. act_result ss (record { text = kept ++ take n.keep y; written = out; condition = number_in order c; stack = map (number_in order) cs; more = false; ended = None })) (sym h.1)
          ∙ ap (λ k. act_result (statements_in (statements_of R m.rule)) (record { text = kept ++ take k y; written = out; condition = number_in order c; stack = map (number_in order) cs; more = false; ended = None })) (sym h.0)

-- conditions that there are
record Known (n : ℕ) (c : ℕ) (cs : List ℕ) : Type 0 where
  condition : c < n
  stack : AllBelow n cs

abbrev KnownAfter : ℕ → ActionResult → Type 0
KnownAfter n (Done a) = Known n a.condition a.stack
KnownAfter n (Again a) = Known n a.condition a.stack
KnownAfter n (Over a e) = Known n a.condition a.stack

known_or : (n : ℕ) (b : Bool) (a : Acting) (r : ActionResult) → Known n a.condition a.stack → KnownAfter n r → KnownAfter n (if b then r else Over a StackFault)
known_or n true a r h k = k
known_or n false a r h k = h

known_after : (n : ℕ) (ss : List Statement) (a : Acting) → BeginsBelow n ss → Known n a.condition a.stack → KnownAfter n (act_result ss a)
known_after n [] a b h = h
known_after n (Echo ∷ ss) a b h = known_after n ss (record a { written = a.written ++ a.text }) b h
known_after n (Print s ∷ ss) a b h = known_after n ss (record a { written = a.written ++ s }) b h
known_after n (Begin d ∷ ss) a b h = known_after n ss (record a { condition = d }) b.1 (record { condition = b.0; stack = h.stack })
known_after n (More ∷ ss) a b h = known_after n ss (record a { more = true }) b h
known_after n (Less k ∷ ss) a b h = known_after n ss (record a { text = take k a.text }) b h
known_after n (Reject ∷ ss) a b h = h
known_after n (End s ∷ ss) a b h = h
known_after n (Push d ∷ ss) a b h =
    let c : Acting = record a { condition = d; stack = a.condition ∷ a.stack } in
    known_or n (has_room a.stack) a (act_result ss c) h (known_after n ss c b.1 (record { condition = b.0; stack = (h.condition, h.stack) }))
known_after n (Pop ∷ ss) a b h = from (λ m k. known_after n ss m b k) a.stack h.stack
  where
    from : ((m : Acting) → Known n m.condition m.stack → KnownAfter n (act_result ss m)) → (cs : List ℕ) → AllBelow n cs → KnownAfter n (popped cs a (λ c ds. act_result ss (record a { condition = c; stack = ds })))
    from rest [] k = h
    from rest (c ∷ cs) k = rest (record a { condition = c; stack = cs }) (record { condition = k.0; stack = k.1 })

some_same : (a b : Acting) → Some a ≡ Some b → a ≡ b
some_same a b e = cc

known_settled : (n : ℕ) (r : ActionResult) (f : Acting → Option Acting) (o : Acting) → KnownAfter n r → ((a : Acting) → Known n a.condition a.stack → f a ≡ Some o → Known n o.condition o.stack) →
    settle r f ≡ Some o → Known n o.condition o.stack
known_settled n (Done a) f o h later e = subst (λ (z : Acting). Known n z.condition z.stack) (some_same (record a { ended = None }) o e) h
known_settled n (Again a) f o h later e = later a h e
known_settled n (Over a d) f o h later e = subst (λ (z : Acting). Known n z.condition z.stack) (some_same (record a { ended = Some d }) o e) h

module _ (M : Machine) (laws : MachineLaws M) where
  abbrev ruled : Rules
  ruled = rules_of_machine M

  known_matched : (kept y : List ℕ) (ms : List Candidate) (out : List ℕ) (c : ℕ) (cs : List ℕ) (o : Acting) → Known M.conditions c cs → perform_results ruled kept y ms out c cs ≡ Some o → Known M.conditions o.condition o.stack
  unfolding perform_results
  known_matched kept y [] out c cs o h e = absurd cc
  known_matched kept y (m ∷ ms) out c cs o h e = known_settled M.conditions (act_result (statements_of ruled m.rule) a) (λ b. perform_results ruled kept y ms b.written b.condition b.stack) o
      (known_after M.conditions (statements_of ruled m.rule) a (begins_below M.conditions (statements_of ruled m.rule) (legal_of ruled laws.legal m.rule (cases_lt m.rule M.count)).ranges) h)
      (λ b k f. known_matched kept y ms b.written b.condition b.stack o k f) e
    where
      a : Acting
      a = record { text = kept ++ take m.keep y; written = out; condition = c; stack = cs; more = false; ended = None }

-- all of a match is the text where there is no trailing context
all_kept : (c : Cut) (n : ℕ) → has_trail c ≡ false → kept_by c n ≡ Some n
all_kept Whole n e = refl
all_kept (Head m) n e = absurd cc
all_kept (Trail m) n e = absurd cc

-- the matches at the end of a text by some rules, the default rule among them
module _ (M : Machine) where
  abbrev found : ℕ → ℕ → Option Candidate
  found n i = option_map (λ k. record { len = n; rule = i; keep = k }) (kept_by (deed_of M i).cut n)

  own_found : (n i : ℕ) → i < M.count → found n i ≡ match_of M n i
  own_found n i lt = ap (λ (d : Deed). option_map (λ k. record { len = n; rule = i; keep = k }) (kept_by d.cut n)) (own_deed M i lt)

  -- without it they are those of the machine
  as_matches : (n : ℕ) (is : List ℕ) → ((i : ℕ) → Among is i → i < M.count) → filter_map (found n) is ≡ filter_map (match_of M n) is
  as_matches n [] small = refl
  as_matches n (i ∷ is) small = ap (λ o. cons_option o (filter_map (found n) is)) (own_found n i (small i (inl refl))) ∙ ap (cons_option (match_of M n i)) (as_matches n is (λ j at. small j (inr at)))

  -- behind the others it matches a single byte
  as_default : (b : ℕ) (y : List ℕ) (is : List ℕ) → ((i : ℕ) → Among is i → i < M.count) → filter_map (found 1) (is ++ M.count ∷ []) ++ [] ≡ filter_map (match_of M 1) is ++ default_match M.count (b ∷ y)
  as_default b y [] small = ap (λ (d : Deed). cons_option (option_map (λ k. record { len = 1; rule = M.count; keep = k }) (kept_by d.cut 1)) [] ++ []) (default_deed M)
  as_default b y (i ∷ is) small =
      ap (λ o. cons_option o (filter_map (found 1) (is ++ M.count ∷ [])) ++ []) (own_found 1 i (small i (inl refl))) ∙ by (match_of M 1 i) (as_default b y is (λ j at. small j (inr at)))
    where
      by : (o : Option Candidate) → filter_map (found 1) (is ++ M.count ∷ []) ++ [] ≡ filter_map (match_of M 1) is ++ default_match M.count (b ∷ y) →
          cons_option o (filter_map (found 1) (is ++ M.count ∷ [])) ++ [] ≡ cons_option o (filter_map (match_of M 1) is) ++ default_match M.count (b ∷ y)
      by None e = e
      by (Some m) e = ap (λ l. m ∷ l) e

module _ (order : List ℕ) (M N : Machine) (laws : MachineLaws M) (other : MachineLaws N) (same : AlwaysAgree order M N) (ends : HaveEnds order M N None) where
  abbrev R : Rules
  R = rules_of_machine M

  abbrev T : Rules
  T = rules_of_machine N

  -- a match by each rule, where it keeps something, and the matches after it
  abbrev Joined : ℕ → ℕ → ℕ → List Candidate → List Candidate → List Candidate → List Candidate → Option ℕ → Option ℕ → Type 0
  Joined n i j ms ns ps qs o p = Alike order R T (cons_option (option_map (λ k. record { len = n; rule = i; keep = k }) o) ms ++ ps) (cons_option (option_map (λ k. record { len = n; rule = j; keep = k }) p) ns ++ qs)

  -- the matches that end at two states by rules that do the same, and those that come after them
  alike_here : (n : ℕ) (is js : List ℕ) (ps qs : List Candidate) → SameOf order M N is js → Alike order R T ps qs → Alike order R T (filter_map (found M n) is ++ ps) (filter_map (found N n) js ++ qs)
  alike_here n [] [] ps qs e rest = rest
  alike_here n [] (j ∷ js) ps qs e rest = absurd cc
  alike_here n (i ∷ is) [] ps qs e rest = absurd cc
  alike_here n (i ∷ is) (j ∷ js) ps qs e rest = by (may_yield (deed_of M i)) refl (λ h. alike_here n is js ps qs h rest)
    where
      same_deed : deed_in order M i ≡ deed_of N j
      same_deed = heads order M N i j is js e

      cut : (deed_of M i).cut ≡ (deed_of N j).cut
      cut = ap (λ (d : Deed). d.cut) same_deed

      statements : statements_in order (statements_of R i) ≡ statements_of T j
      statements = ap (λ (d : Deed). d.statements) same_deed

      from : (o : Option ℕ) → ((has_reject (statements_of R i) ≡ false) × (o ≡ Some n)) ⊎ Alike order R T (filter_map (found M n) is ++ ps) (filter_map (found N n) js ++ qs) → Joined n i j (filter_map (found M n) is) (filter_map (found N n) js) ps qs o o
      from None (inl h) = absurd (no h.1)
        where
          no : None ≡ Some n → ⊥
          no f = cc
      from None (inr h) = h
      from (Some k) (inl h) = (refl, statements, inl h.0)
      from (Some k) (inr h) = (refl, statements, inr h)

      both : ((has_reject (statements_of R i) ≡ false) × (kept_by (deed_of M i).cut n ≡ Some n)) ⊎ Alike order R T (filter_map (found M n) is ++ ps) (filter_map (found N n) js ++ qs) → Alike order R T (filter_map (found M n) (i ∷ is) ++ ps) (filter_map (found N n) (j ∷ js) ++ qs)
      both h = subst (λ c. Joined n i j (filter_map (found M n) is) (filter_map (found N n) js) ps qs (kept_by (deed_of M i).cut n) (kept_by c n)) cut (from (kept_by (deed_of M i).cut n) h)

      by : (b : Bool) → may_yield (deed_of M i) ≡ b → (SameOf order M N is js → Alike order R T (filter_map (found M n) is ++ ps) (filter_map (found N n) js ++ qs)) → Alike order R T (filter_map (found M n) (i ∷ is) ++ ps) (filter_map (found N n) (j ∷ js) ++ qs)
      by true on later = both (inr (later (went_on order M N i j is js on e)))
      by false end later = both (inl ((or_parts (has_reject (statements_of R i)) (has_trail (deed_of M i).cut) end).0, all_kept (deed_of M i).cut n (or_parts (has_reject (statements_of R i)) (has_trail (deed_of M i).cut) end).1))

  -- the matches of longer texts, and those that come after them
  alike_from : (s t n : ℕ) (y : List ℕ) (ps qs : List Candidate) → IsText y → ((w : List ℕ) → IsText w → 1 ≤ length w → deeds_in order false M (walk M s w) ≡ deeds_at false N (walk N t w)) → Alike order R T ps qs →
      Alike order R T (longest_first M s n y ++ ps) (longest_first N t n y ++ qs)
  alike_from s t n [] ps qs text h rest = rest
  alike_from s t n (b ∷ y) ps qs text h rest =
      subst (λ l. Alike order R T l (longest_first N t n (b ∷ y) ++ qs)) (sym (append_assoc (longest_first M (M.next s b) (suc n) y) here ps))
      (subst (λ l. Alike order R T (longest_first M (M.next s b) (suc n) y ++ (here ++ ps)) l) (sym (append_assoc (longest_first N (N.next t b) (suc n) y) there qs))
      (alike_from (M.next s b) (N.next t b) (suc n) y (here ++ ps) (there ++ qs) text.1 (λ w is some. h (b ∷ w) (text.0, is) (omega arith))
      (subst (λ l. Alike order R T (l ++ ps) (there ++ qs)) (as_matches M (suc n) (M.accepts (M.next s b)) (laws.in_range (M.next s b)))
      (subst (λ l. Alike order R T (filter_map (found M (suc n)) (M.accepts (M.next s b)) ++ ps) (l ++ qs)) (as_matches N (suc n) (N.accepts (N.next t b)) (other.in_range (N.next t b)))
      (alike_here (suc n) (M.accepts (M.next s b)) (N.accepts (N.next t b)) ps qs (h (b ∷ []) (text.0, tt) (omega arith)) rest)))))
    where
      here : List Candidate
      here = filter_map (match_of M (suc n)) (M.accepts (M.next s b))

      there : List Candidate
      there = filter_map (match_of N (suc n)) (N.accepts (N.next t b))

  -- of longer texts and of single bytes
  longer : (c : ℕ) (line : Bool) (b : ℕ) (w : List ℕ) → c < M.conditions → IsText (b ∷ w) → 1 ≤ length w → deeds_in order false M (walk M (M.next (M.start c line) b) w) ≡ deeds_at false N (walk N (N.next (N.start (number_in order c) line) b) w)
  longer c line b w lt text some = subst (λ single. deeds_in order single M (walk M (M.next (M.start c line) b) w) ≡ deeds_at single N (walk N (N.next (N.start (number_in order c) line) b) w)) (ne_eqb (length (b ∷ w)) 1 (λ e. omega (arith, e, some)))
      (same c line (b ∷ w) lt text (omega arith))

  single : (c : ℕ) (line : Bool) (b : ℕ) → c < M.conditions → b < 256 → deeds_in order true M (M.next (M.start c line) b) ≡ deeds_at true N (N.next (N.start (number_in order c) line) b)
  single c line b lt small = same c line (b ∷ []) lt (small, tt) (omega arith)

  alike : (c : ℕ) (line : Bool) (y : List ℕ) → c < M.conditions → IsText y → Alike order R T (in_turn M c line y) (in_turn N (number_in order c) line y)
  alike c line [] lt text = tt
  alike c line (b ∷ y) lt text =
      subst (λ l. Alike order R T l (in_turn N (number_in order c) line (b ∷ y))) (sym (append_assoc (longest_first M s 1 y) here (default_match M.count (b ∷ y))))
      (subst (λ l. Alike order R T (longest_first M s 1 y ++ (here ++ default_match M.count (b ∷ y))) l) (sym (append_assoc (longest_first N t 1 y) there (default_match N.count (b ∷ y))))
      (alike_from s t 1 y (here ++ default_match M.count (b ∷ y)) (there ++ default_match N.count (b ∷ y)) text.1 (λ w is some. longer c line b w lt (text.0, is) some)
      (subst (λ l. Alike order R T l (there ++ default_match N.count (b ∷ y))) (as_default M b y (M.accepts s) (laws.in_range s))
      (subst (λ l. Alike order R T (filter_map (found M 1) (M.accepts s ++ M.count ∷ []) ++ []) l) (as_default N b y (N.accepts t) (other.in_range t))
      (alike_here 1 (M.accepts s ++ M.count ∷ []) (N.accepts t ++ N.count ∷ []) [] [] (single c line b lt text.0) tt)))))
    where
      s : ℕ
      s = M.next (M.start c line) b

      t : ℕ
      t = N.next (N.start (number_in order c) line) b

      here : List Candidate
      here = filter_map (match_of M 1) (M.accepts s)

      there : List Candidate
      there = filter_map (match_of N 1) (N.accepts t)

  abbrev place_in : Place → Place
  place_in p = record { start = p.start; at = p.at; condition = number_in order p.condition; stack = map (number_in order) p.stack }

  abbrev state_in : State → State
  state_in s = record { written = s.written; place = place_in s.place; ended = s.ended }

  abbrev Stands : State → Type 0
  Stands s = Known M.conditions s.place.condition s.place.stack

  module _ (x : List ℕ) (x_text : IsText x) where
    match_in : (p : Place) (s : State) → Known M.conditions p.condition p.stack → MatchTurn R x p s → MatchTurn T x (place_in p) (state_in s) × Stands s
    match_in p s k m = (
      record {
        before_end = m.before_end;
        matches = in_turn N (number_in order p.condition) line y;
        all = candidates_in_turn N other (number_in order p.condition) line y;
        outcome = image order m.outcome;
        performed = results_are _ _ _ _ _ _ _ ∙ perform_in order R T (part x p.start p.at) y (in_turn M p.condition line y) (in_turn N (number_in order p.condition) line y) (alike p.condition line y k.condition (is_text_drop p.at x x_text)) [] p.condition p.stack
            ∙ ap (option_map (image order)) performed;
        leaves = ap state_in m.leaves;
      },
      subst Stands (sym m.leaves) (known_matched M laws (part x p.start p.at) y (in_turn M p.condition line y) [] p.condition p.stack m.outcome k performed),
    )
      where
        line : Bool
        line = at_line_start x p.at

        y : List ℕ
        y = drop p.at x

        performed : perform_results R (part x p.start p.at) y (in_turn M p.condition line y) [] p.condition p.stack ≡ Some m.outcome
        performed = ap (λ ms. perform_results R (part x p.start p.at) y ms [] p.condition p.stack) (one_candidates R p.condition line y (in_turn M p.condition line y) m.matches (candidates_in_turn M laws p.condition line y) m.all) ∙ sym (results_are _ _ _ _ _ _ _) ∙ m.performed

    turn_in : (p : Place) (s : State) → Known M.conditions p.condition p.stack → Turn R x p s → Turn T x (place_in p) (state_in s) × Stands s
    turn_in p s k (inl m) = (let h = match_in p s k m in (inl h.0, h.1))
    turn_in p s k (inr e) = (
      inr (record {
        at_end = e.at_end;
        leaves = ap state_in e.leaves ∙ ap (λ z. record { written = z.print; place = place_in (record { start = p.at; at = p.at; condition = p.condition; stack = p.stack }); ended = Some (Status z.status) }) (ends p.condition k.condition);
      }),
      subst Stands (sym e.leaves) k,
    )

    next_in : (s t : State) (e : Option Ending) → Stands s → NextFrom R x s e t → NextFrom T x (state_in s) e (state_in t) × Stands t
    next_in s t (Some d) k is = (ap state_in is, subst Stands (sym is) k)
    next_in s t None k h = (let g = turn_in s.place h.0 k h.1 in ((state_in h.0, g.0, ap state_in h.2), subst Stands (sym h.2) g.1))

    turns_in : BeginTogether order → (n : ℕ) (s : State) → Turns R x n s → Turns T x n (state_in s) × Stands s
    turns_in first zero s e = (ap state_in e ∙ ap (λ c. record { written = []; place = record { start = 0; at = 0; condition = c; stack = [] }; ended = None }) first, subst Stands (sym e) (record { condition = laws.some_condition; stack = tt }))
    turns_in first (suc n) s h = (let b = turns_in first n h.0 h.1 in let a = next_in h.0 s h.0.ended b.1 h.2 in ((state_in h.0, b.0, a.0), a.1))

    run_in : BeginTogether order → (v : List ℕ) (e : Ending) → Run R x v e → Run T x v e
    run_in first v e (n, p, h) = (let last : State = record { written = v; place = p; ended = Some e } in (n, (state_in last).place, (turns_in first n last h).0))

  -- Both runs write the same, and end alike.
  pub scan_alike : BeginTogether order → ScanAlike M N
  scan_alike first x v e text = (run_in x text first v e, back)
    where
      back : Run T x v e → Run R x v e
      back r =
          let m = machine_run_exists M laws x in
          let both = one_run T x v m.0 e m.1 r (run_in x text first m.0 m.1 m.2) in
          subst (λ d. Run R x v d) (sym both.1) (subst (λ w. Run R x w m.1) (sym both.0) m.2)
