-- Which matches are given up, one after another.
use Rattle.std.proofs.Common.{◌≡◌, ◌∙◌, ℕ, zero, suc, ◌+◌, ◌<◌, Bool, true, false, cond, List, [], ◌∷◌, ◌++◌, length, take, drop, get_or, Option, Some, None, inl, inr, refl, sym, ap, arith, append-nil, append_assoc}
use Rattle.std.specs.Prelude.{filter_map, option_map}
use Rattle.std.specs.List.{cons_option}
use Rattle.std.proofs.lemmas.List.{drop_more, length-take-le, take_more}
use Rattle.lex_semantics.specs.Candidates.{Candidate}
use Rattle.lex_semantics.specs.Machine.{Machine}
use Rattle.lex_semantics.specs.PlainMachine.{kept_by, match_of}
use Rattle.lex_semantics.specs.Rules.{Rules, statements_of}
use Rattle.lex_semantics.specs.Spec.{has_reject}
use Rattle.lex_semantics.specs.Text.{Among}
use Rattle.lex_semantics.specs.Trail.{falling}
use Rattle.lex_semantics.proofs.Falling.{falling-snoc}
use Rattle.lexlook_counts.specs.Descending.{GivenUpAmong, GoesOnWith, matches_at}
use Rattle.lexlook_counts.specs.GivenUp.{given_up}

module _ (R : Rules) (all left ms : List Candidate) (done : List ℕ) (h : GoesOnWith R all left done) where
  -- whether a match is given up, if there is one
  gives : Option Candidate → Option Bool
  gives o = option_map (λ (m : Candidate). has_reject (statements_of R m.rule)) o

  -- there is no such match
  pub past_none : (o : Option Candidate) → left ≡ cons_option o ms → option_map (λ (m : Candidate). has_reject (statements_of R m.rule)) o ≡ None → GoesOnWith R all ms done
  past_none None is none rest = h rest ∙ ap (λ l. done ++ given_up R (l ++ rest)) is
  past_none (Some m) is none rest = absurd (no none)
    where
      no : Some (has_reject (statements_of R m.rule)) ≡ None → ⊥
      no e = cc

  some_same : (a b : Bool) → Some a ≡ Some b → a ≡ b
  some_same a b e = cc

  -- it is given up
  pub past_given : (o : Option Candidate) (i : ℕ) → left ≡ cons_option o ms → ((m : Candidate) → o ≡ Some m → m.rule ≡ i) → option_map (λ (m : Candidate). has_reject (statements_of R m.rule)) o ≡ Some true → GoesOnWith R all ms (done ++ i ∷ [])
  past_given None i is rule e rest = absurd (no e)
    where
      no : ◌≡◌ {A = Option Bool} None (Some true) → ⊥
      no p = cc
  past_given (Some m) i is rule e rest =
      h rest ∙ ap (λ l. done ++ given_up R (l ++ rest)) is
      ∙ ap (λ (b : Bool). done ++ cond b (m.rule ∷ given_up R (ms ++ rest)) []) (some_same (has_reject (statements_of R m.rule)) true e)
      ∙ ap (λ (k : ℕ). done ++ k ∷ given_up R (ms ++ rest)) (rule m refl)
      ∙ sym (append_assoc done (i ∷ []) (given_up R (ms ++ rest)))

  -- it is taken
  pub at_taken : (o : Option Candidate) → left ≡ cons_option o ms → option_map (λ (m : Candidate). has_reject (statements_of R m.rule)) o ≡ Some false → (rest : List Candidate) → given_up R (all ++ rest) ≡ done
  at_taken None is e rest = absurd (no e)
    where
      no : ◌≡◌ {A = Option Bool} None (Some false) → ⊥
      no p = cc
  at_taken (Some m) is e rest =
      h rest ∙ ap (λ l. done ++ given_up R (l ++ rest)) is
      ∙ ap (λ (b : Bool). done ++ cond b (m.rule ∷ given_up R (ms ++ rest)) []) (some_same (has_reject (statements_of R m.rule)) false e)
      ∙ append-nil done

-- all matches were tried, or one of them was taken
pub all_passed : (R : Rules) (all : List Candidate) (done : List ℕ) → GoesOnWith R all [] done → given_up R all ≡ done
all_passed R all done h = ap (given_up R) (sym (append-nil all)) ∙ h [] ∙ append-nil done

pub one_taken : (R : Rules) (all : List Candidate) (done : List ℕ) → ((rest : List Candidate) → given_up R (all ++ rest) ≡ done) → given_up R all ≡ done
one_taken R all done h = ap (given_up R) (sym (append-nil all)) ∙ h []

-- the matches of one length more
pub past_length : (R : Rules) (all left ms next : List Candidate) (done : List ℕ) (counts counts' : List ℕ) → GoesOnWith R all left done → left ≡ ms ++ next → GivenUpAmong R ms counts counts' true → GoesOnWith R all next (done ++ given_up R ms)
past_length R all left ms next done counts counts' h is g rest =
    h rest ∙ ap (λ l. done ++ given_up R (l ++ rest)) is ∙ ap (λ l. done ++ given_up R l) (append_assoc ms next rest) ∙ ap (λ l. done ++ l) (g.follows (next ++ rest)) ∙ sym (append_assoc done (given_up R ms) (given_up R (next ++ rest)))

pub at_length : (R : Rules) (all left ms next : List Candidate) (done : List ℕ) (counts counts' : List ℕ) → GoesOnWith R all left done → left ≡ ms ++ next → GivenUpAmong R ms counts counts' false → given_up R all ≡ done ++ given_up R ms
at_length R all left ms next done counts counts' h is g =
    ap (given_up R) (sym (append-nil all)) ∙ h [] ∙ ap (λ l. done ++ given_up R l) (append-nil left ∙ is) ∙ ap (λ l. done ++ l) (g.follows next ∙ append-nil (given_up R ms))

-- ---- matches of a machine

module _ (M : Machine) where
  -- the matches of the rules from one on
  pub next_rule : (n k i : ℕ) (rules : List ℕ) → k < length rules → get_or rules k 0 ≡ i → matches_at M n (drop k rules) ≡ cons_option (match_of M n i) (matches_at M n (drop (k + 1) rules))
  next_rule n k i rules low is = ap (matches_at M n) (drop_more rules k 0 low) ∙ ap (λ j. cons_option (match_of M n j) (matches_at M n (drop (k + 1) rules))) is

  rule_of_match : (n i : ℕ) (o : Option ℕ) (m : Candidate) → option_map (λ k. record { len = n; rule = i; keep = k }) o ≡ Some m → m.rule ≡ i
  rule_of_match n i None m e = absurd (no e)
    where
      no : ◌≡◌ {A = Option Candidate} None (Some m) → ⊥
      no p = cc
  rule_of_match n i (Some k) m e = sym (ap (λ (q : Candidate). q.rule) (same e))
    where
      same : ◌≡◌ {A = Option Candidate} (Some (record { len = n; rule = i; keep = k })) (Some m) → record { len = n; rule = i; keep = k } ≡ m
      same p = cc

  -- a match of a rule is of this rule
  pub its_rule : (n i : ℕ) (m : Candidate) → match_of M n i ≡ Some m → m.rule ≡ i
  its_rule n i m e = rule_of_match n i (kept_by (M.cut i) n) m e

  -- the matches up to one length are those of this length, and those up to the one before
  pub one_length : (n : ℕ) (path : List ℕ) (s : ℕ) → n < length path → get_or path n 0 ≡ s → falling M 0 (take (n + 1) path) ≡ matches_at M (n + 1) (M.accepts s) ++ falling M 0 (take n path)
  one_length n path s low is =
      let size : length (take n path) ≡ n = length-take-le n path (omega (arith, low)) in
      let long : 0 + suc (length (take n path)) ≡ n + 1 = omega (arith, size) in
      ap (falling M 0) (take_more path n 0 low ∙ ap (λ t. take n path ++ t ∷ []) is) ∙ falling-snoc M 0 s (take n path) ∙ ap (λ k. filter_map (match_of M k) (M.accepts s) ++ falling M 0 (take n path)) long

pub among_at : (l : List ℕ) (i : ℕ) → i < length l → Among l (get_or l i 0)
among_at [] i lt = absurd (omega (arith, lt))
among_at (x ∷ l) zero lt = inl refl
among_at (x ∷ l) (suc i) lt = inr (among_at l i (omega (arith, lt)))
