-- The longest match at the front of a text, byte after byte.
use Rattle.std.proofs.Common.{◌≡◌, ℕ, ◌+◌, ◌≤◌, ◌<◌, true, false, List, [], ◌∷◌, ◌++◌, length, take, drop, Option, Some, None, refl, sym, ◌∙◌, ap, subst, arith}
use Rattle.std.specs.Prelude.{filter_map}
use Rattle.std.proofs.lemmas.List.{length-take-le, length-drop, take_all, take-append-drop}
use Rattle.lex_semantics.specs.Text.{IsText}
use Rattle.lex_semantics.specs.Candidates as Scan
use Rattle.lex_semantics.specs.Candidates.{Candidates}
use Rattle.lex_semantics.specs.Machine.{Machine, rules_of_machine}
use Rattle.lex_semantics.specs.MachineLaws.{MachineLaws}
use Rattle.lex_semantics.specs.PlainMachine.{kept_by, match_of}
use Rattle.lex_semantics.specs.Plain.{default_match}
use Rattle.lex_semantics.specs.Trail.{falling}
use Rattle.lex_semantics.proofs.Falling.{falling_candidates}
use Rattle.lex_semantics.proofs.Local.{more_input}
use Rattle.lex_semantics.proofs.MachineLaws.{machine_laws}
use Rattle.lex_semantics.proofs.Texts.{is_text_drop}
use Rattle.lexscan_window.specs.declared.matched.Candidate.{Candidate}
use Rattle.lexscan_window.specs.declared.matched.MatchedRule.TheVariants.{Numbered, Default}
use Rattle.lexscan_matching.specs.declared.pick.Pick.{Pick}
use Rattle.lexscan_window.specs.declared.state.TextPlace.{TextPlace}
use Rattle.lexscan_matching.specs.Fronts.{Begins, IsLongest}
use Rattle.lexscan_matching.specs.Picks.{IsFirst, path_of, state_at}
use Rattle.lexscan_matching.proofs.Descending.{one_match, no_match, default_one}
use Rattle.lexscan_matching.proofs.Picking.{falling_more}

abbrev first_length : List Scan.Candidate → ℕ
first_length [] = 0
first_length (m ∷ ms) = m.len

-- each match of a state is as long as the bytes that lead to it
same_length : (M : Machine) (n : ℕ) (rules : List ℕ) (m : Scan.Candidate) (ms : List Scan.Candidate) → filter_map (match_of M n) rules ≡ m ∷ ms → m.len ≡ n
same_length M n [] m ms e = absurd (none e)
  where
    none : ◌≡◌ {A = List Scan.Candidate} [] (m ∷ ms) → ⊥
    none p = cc
same_length M n (i ∷ is) m ms e = by (same_length M n is m ms) (kept_by (M.cut i) n) refl
  where
    by : (filter_map (match_of M n) is ≡ m ∷ ms → m.len ≡ n) → (o : Option ℕ) → kept_by (M.cut i) n ≡ o → m.len ≡ n
    by later None k = later (sym (no_match M n i is k) ∙ e)
    by later (Some keep) k = sym (ap first_length (sym (one_match M n i keep is k) ∙ e))

module _ (M : Machine) (p : TextPlace) (y : List ℕ) (at : p.at ≡ 0) where
  -- all matches of the first bytes, and the default match
  abbrev pub front_matches : ℕ → List Scan.Candidate
  front_matches n = falling M 0 (path_of M p y n) ++ default_match M.count y

  pub front_first : 1 ≤ length y → Begins M.count (front_matches 0) (record { rule = Default; length = 1; text = 1 })
  front_first some = record { rule = M.count; rule_is = refl; others = []; first = default_one M y some }

  front_more : (n : ℕ) → n < length y → front_matches (n + 1) ≡ (filter_map (match_of M (n + 1)) (M.accepts (state_at M p y (n + 1))) ++ falling M 0 (path_of M p y n)) ++ default_match M.count y
  front_more n lt = ap (λ l. l ++ default_match M.count y) (falling_more M p y n (omega (arith, at, lt)))

  -- a rule is accepted after one byte more
  pub front_here : (n : ℕ) (pick : Pick) → n < length y → pick.rule < M.count → IsFirst (filter_map (match_of M (n + 1)) (M.accepts (state_at M p y (n + 1)))) (Some pick) →
      Begins M.count (front_matches (n + 1)) (record { rule = Numbered pick.rule; length = n + 1; text = pick.keep })
  front_here n pick lt known (len, rest, e) = record {
    rule = pick.rule;
    rule_is = (refl, known);
    others = (rest ++ falling M 0 (path_of M p y n)) ++ default_match M.count y;
    first = front_more n lt ∙ ap (λ l. (l ++ falling M 0 (path_of M p y n)) ++ default_match M.count y) e
        ∙ ap (λ k. record { len = k; rule = pick.rule; keep = pick.keep } ∷ ((rest ++ falling M 0 (path_of M p y n)) ++ default_match M.count y)) (same_length M (n + 1) (M.accepts (state_at M p y (n + 1))) _ rest e);
  }

  -- none is
  pub front_none : (n : ℕ) (m : Candidate) → n < length y → IsFirst (filter_map (match_of M (n + 1)) (M.accepts (state_at M p y (n + 1)))) None → Begins M.count (front_matches n) m → Begins M.count (front_matches (n + 1)) m
  front_none n m lt none h = subst (λ l. Begins M.count l m) (sym (front_more n lt ∙ ap (λ l. (l ++ falling M 0 (path_of M p y n)) ++ default_match M.count y) none)) h

  module _ (laws : MachineLaws M) where
    here : (n : ℕ) → 1 ≤ n → n ≤ length y → Candidates (rules_of_machine M) p.condition p.line_start (take n (drop p.at y)) (front_matches n)
    here n some le =
        let size : length (take n (drop p.at y)) ≡ n = length-take-le n (drop p.at y) (omega (arith, length-drop p.at y, at, le)) in
        subst (λ l. Candidates (rules_of_machine M) p.condition p.line_start (take n (drop p.at y)) (falling M 0 (path_of M p y n) ++ l))
        (default_one M (take n (drop p.at y)) (omega (arith, size, some)) ∙ sym (default_one M y (omega (arith, some, le))))
        (falling_candidates M laws p.condition p.line_start (take n (drop p.at y)))

    from_start : drop p.at y ≡ y
    from_start = ap (λ n. drop n y) at

    -- all bytes were gone over
    pub front_all : (n : ℕ) (m : Candidate) → 1 ≤ n → n ≤ length y → length y ≤ n → Begins M.count (front_matches n) m → IsLongest (rules_of_machine M) p.condition p.line_start y (Some m)
    front_all n m some le all h = (
      front_matches n,
      subst (λ z. Candidates (rules_of_machine M) p.condition p.line_start z (front_matches n)) (ap (take n) from_start ∙ take_all n y all) (here n some le),
      h,
    )

    -- no longer match can follow
    pub front_dead : (n : ℕ) (m : Candidate) → IsText y → 1 ≤ n → n ≤ length y → M.goes_on (state_at M p y n) ≡ false → Begins M.count (front_matches n) m → IsLongest (rules_of_machine M) p.condition p.line_start y (Some m)
    front_dead n m text some le dead h = (
      front_matches n,
      subst (λ z. Candidates (rules_of_machine M) p.condition p.line_start z (front_matches n)) (take-append-drop n (drop p.at y) ∙ from_start)
          (more_input (rules_of_machine M) (machine_laws M laws) p.condition p.line_start (take n (drop p.at y)) (drop n (drop p.at y)) (is_text_drop n (drop p.at y) (is_text_drop p.at y text))
          (omega (arith, length-take-le n (drop p.at y) (omega (arith, length-drop p.at y, at, le)), some)) (λ live. no (sym dead ∙ live)) (front_matches n) (here n some le)),
      h,
    )
      where
        no : false ≡ true → ⊥
        no e = cc
