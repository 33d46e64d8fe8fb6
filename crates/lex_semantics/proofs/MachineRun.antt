-- The plain program over a machine, and that each input has a run of it.
use Rattle.std.proofs.Common.{◌≡◌, ℕ, zero, suc, ◌+◌, ◌-◌, ◌≤◌, ◌<◌, Bool, true, false, List, [], ◌∷◌, ◌++◌, length, take, ◌⊎◌, inl, inr, ◌↔◌, Option, Some, None, refl, sym, ◌∙◌, ap, subst, arith}
use Rattle.std.specs.Prelude.{nat_lt, nat_le, ◌&&◌, if◌then◌else◌, option_map, filter_map}
use Rattle.std.specs.List.{cons_option}
use Rattle.std.proofs.lemmas.List.{length-take-le}
use Rattle.std.proofs.lemmas.Bool.{ltb-true, lt-ltb, leb-true, le-leb, and_parts, and_from, cond-true}
use Rattle.lex_semantics.specs.Text.{Among}
use Rattle.lex_semantics.specs.Rules.{Full}
use Rattle.lex_semantics.specs.Spec.{Cut, Whole, Head, Trail}
use Rattle.lex_semantics.specs.Candidates.{Candidate, Candidates, IsCandidate}
use Rattle.lex_semantics.specs.Machine.{Machine, Keeps, walk, state_after, rules_of_machine}
use Rattle.lex_semantics.specs.MachineLaws.{MachineLaws}
use Rattle.lex_semantics.specs.Acting.{Ending}
use Rattle.lex_semantics.specs.Run.{Run}
use Rattle.lex_semantics.specs.Plain.{default_match}
use Rattle.lex_semantics.specs.PlainMachine.{kept_by, match_of, machine_matches, machine_candidates, machine_run}
use Rattle.lex_semantics.proofs.Fronts.{among_append, among_left, among_right}
use Rattle.lex_semantics.proofs.Ordered.{ordered_is, candidate_same}
use Rattle.lex_semantics.proofs.Exists.{ordered_exists, Agree}
use Rattle.lex_semantics.proofs.PlainRun.{run_from_is}
use Rattle.lex_semantics.proofs.Cuts.{keeps_one}
use Rattle.lex_semantics.proofs.MachineLaws.{machine_laws}
use Rattle.lex_semantics.proofs.Ends.{run_exists}

-- a cut keeps what it should

if_some : (b : Bool) (n k : ℕ) → (if b then Some n else None) ≡ Some k → (b ≡ true) × (n ≡ k)
if_some true n k e = (refl, cc)
if_some false n k e = absurd (no e)
  where
    no : None ≡ Some k → ⊥
    no p = cc

kept_sound : (cut : Cut) (n k : ℕ) → kept_by cut n ≡ Some k → Keeps cut n k
kept_sound Whole n k e = cc
kept_sound (Head m) n k e =
    let h = if_some (nat_lt 0 m && nat_le m n) m k e in
    let p = and_parts (nat_lt 0 m) (nat_le m n) h.0 in
    (sym h.1, ltb-true 0 m p.0, leb-true m n p.1)
kept_sound (Trail t) n k e =
    let h = if_some (nat_lt t n) (n - t) k e in
    let lt : t < n = ltb-true t n h.0 in
    (omega (arith, h.1), omega (arith, h.1))

kept_complete : (cut : Cut) (n k : ℕ) → Keeps cut n k → kept_by cut n ≡ Some k
kept_complete Whole n k h = ap Some (sym h)
kept_complete (Head m) n k h =
    cond-true (nat_lt 0 m && nat_le m n) (Some m) None (and_from (nat_lt 0 m) (nat_le m n) (lt-ltb 0 m (omega (arith, h.1))) (le-leb m n h.2)) ∙ ap Some (sym h.0)
kept_complete (Trail t) n k h =
    let e : n - t ≡ k = omega (arith, h.0) in
    cond-true (nat_lt t n) (Some (n - t)) None (lt-ltb t n (omega (arith, h.0, h.1))) ∙ ap Some e

-- the matches that end at one state

abbrev pub EndsHere : Machine → ℕ → List ℕ → Candidate → Type 0
EndsHere M n rules m = (m.len ≡ n) × Among rules m.rule × Keeps (M.cut m.rule) n m.keep

pub match_sound : (M : Machine) (n i : ℕ) (o : Option ℕ) (m : Candidate) → kept_by (M.cut i) n ≡ o → option_map (λ k. record { len = n; rule = i; keep = k }) o ≡ Some m → (m.len ≡ n) × (m.rule ≡ i) × Keeps (M.cut i) n m.keep
match_sound M n i None m p e = absurd (no e)
  where
    no : None ≡ Some m → ⊥
    no q = cc
match_sound M n i (Some k) m p e = from e
  where
    from : Some (record { len = n; rule = i; keep = k }) ≡ Some m → (m.len ≡ n) × (m.rule ≡ i) × Keeps (M.cut i) n m.keep
    from q =
        let same : record { len = n; rule = i; keep = k } ≡ m = cc in
        (ap (λ (z : Candidate). z.len) (sym same), ap (λ (z : Candidate). z.rule) (sym same), subst (Keeps (M.cut i) n) (ap (λ (z : Candidate). z.keep) same) (kept_sound (M.cut i) n k p))

state_from : (M : Machine) (n i : ℕ) (is : List ℕ) (o : Option Candidate) (m : Candidate) → match_of M n i ≡ o → Among (cons_option o (filter_map (match_of M n) is)) m →
    (Among (filter_map (match_of M n) is) m → EndsHere M n is m) → EndsHere M n (i ∷ is) m
state_from M n i is None m e h later = let r = later h in (r.0, inr r.1, r.2)
state_from M n i is (Some q) m e (inr h) later = let r = later h in (r.0, inr r.1, r.2)
state_from M n i is (Some q) m e (inl h) later =
    let r = match_sound M n i (kept_by (M.cut i) n) m refl (e ∙ ap Some (sym h)) in
    (r.0, inl r.1, subst (λ j. Keeps (M.cut j) n m.keep) (sym r.1) r.2)

pub state_sound : (M : Machine) (n : ℕ) (is : List ℕ) (m : Candidate) → Among (filter_map (match_of M n) is) m → EndsHere M n is m
state_sound M n [] m h = absurd h
state_sound M n (i ∷ is) m h = state_from M n i is (match_of M n i) m refl h (λ k. state_sound M n is m k)

among_cons : (o : Option Candidate) (ms : List Candidate) (m : Candidate) → Among ms m → Among (cons_option o ms) m
among_cons None ms m h = h
among_cons (Some q) ms m h = inr h

state_complete : (M : Machine) (n : ℕ) (is : List ℕ) (m : Candidate) → EndsHere M n is m → Among (filter_map (match_of M n) is) m
state_complete M n [] m (len, among, keeps) = absurd among
state_complete M n (i ∷ is) m (len, inr among, keeps) = among_cons (match_of M n i) (filter_map (match_of M n) is) m (state_complete M n is m (len, among, keeps))
state_complete M n (i ∷ is) m (len, inl same, keeps) =
    let kept : kept_by (M.cut i) n ≡ Some m.keep = kept_complete (M.cut i) n m.keep (subst (λ j. Keeps (M.cut j) n m.keep) same keeps) in
    let is_match : match_of M n i ≡ Some (record { len = n; rule = i; keep = m.keep }) = ap (option_map (λ k. record { len = n; rule = i; keep = k })) kept in
    let is_m : m ≡ record { len = n; rule = i; keep = m.keep } = candidate_same m (record { len = n; rule = i; keep = m.keep }) len same refl in
    subst (λ o. Among (cons_option o (filter_map (match_of M n) is)) m) (sym is_match) (inl is_m)

-- all the matches

abbrev pub EndsWithin : Machine → ℕ → ℕ → List ℕ → Candidate → Type 0
EndsWithin M s n y m = (j : ℕ) × (1 ≤ j) × (j ≤ length y) × EndsHere M (n + j) (M.accepts (walk M s (take j y))) m

matches_from : (M : Machine) (s n b : ℕ) (y : List ℕ) (m : Candidate) → Among (filter_map (match_of M (suc n)) (M.accepts (M.next s b))) m ⊎ Among (machine_matches M (M.next s b) (suc n) y) m →
    (Among (machine_matches M (M.next s b) (suc n) y) m → EndsWithin M (M.next s b) (suc n) y m) → EndsWithin M s n (b ∷ y) m
matches_from M s n b y m (inl h) later =
    let r = state_sound M (suc n) (M.accepts (M.next s b)) m h in
    let e : suc n ≡ n + 1 = omega arith in
    (1, omega arith, omega arith, subst (λ i. EndsHere M i (M.accepts (M.next s b)) m) e r)
matches_from M s n b y m (inr h) later =
    let r = later h in
    let e : suc n + r.0 ≡ n + suc r.0 = omega arith in
    (suc r.0, omega arith, omega (arith, r.2), subst (λ i. EndsHere M i (M.accepts (walk M (M.next s b) (take r.0 y))) m) e r.3)

matches_sound : (M : Machine) (s n : ℕ) (y : List ℕ) (m : Candidate) → Among (machine_matches M s n y) m → EndsWithin M s n y m
matches_sound M s n [] m h = absurd h
matches_sound M s n (b ∷ y) m h =
    matches_from M s n b y m (among_append (filter_map (match_of M (suc n)) (M.accepts (M.next s b))) (machine_matches M (M.next s b) (suc n) y) m h)
    (λ k. matches_sound M (M.next s b) (suc n) y m k)

matches_complete : (M : Machine) (s n j : ℕ) (y : List ℕ) (m : Candidate) → 1 ≤ j → j ≤ length y → EndsHere M (n + j) (M.accepts (walk M s (take j y))) m → Among (machine_matches M s n y) m
matches_complete M s n zero y m some le h = absurd (omega (arith, some))
matches_complete M s n (suc j) [] m some le h = absurd (omega (arith, le))
matches_complete M s n (suc zero) (b ∷ y) m some le h =
    let e : n + 1 ≡ suc n = omega arith in
    among_left (filter_map (match_of M (suc n)) (M.accepts (M.next s b))) (machine_matches M (M.next s b) (suc n) y) m
    (state_complete M (suc n) (M.accepts (M.next s b)) m (subst (λ i. EndsHere M i (M.accepts (M.next s b)) m) e h))
matches_complete M s n (suc (suc j)) (b ∷ y) m some le h =
    let e : n + suc (suc j) ≡ suc n + suc j = omega arith in
    among_right (filter_map (match_of M (suc n)) (M.accepts (M.next s b))) (machine_matches M (M.next s b) (suc n) y) m
    (matches_complete M (M.next s b) (suc n) (suc j) y m (omega arith) (omega (arith, le)) (subst (λ i. EndsHere M i (M.accepts (walk M (M.next s b) (take (suc j) y))) m) e h))

module _ (M : Machine) (laws : MachineLaws M) (c : ℕ) (line_start : Bool) (y : List ℕ) where
  within_is : (m : Candidate) → EndsWithin M (M.start c line_start) 0 y m → IsCandidate (rules_of_machine M) c line_start y m
  within_is m (j, some, le, (len, among, keeps)) =
      let same : m.len ≡ j = omega arith in
      let size : length (take m.len y) ≡ m.len = length-take-le m.len y (omega arith) in
      let accepted : Among (M.accepts (state_after M c line_start (take m.len y))) m.rule = subst (λ i. Among (M.accepts (state_after M c line_start (take i y))) m.rule) (sym same) among in
      let n : 0 + j ≡ length (take m.len y) = omega arith in (
        omega arith,
        inl (
          laws.in_range (state_after M c line_start (take m.len y)) m.rule accepted,
          record { not_empty = omega arith; accepted = accepted; keeps = subst (λ i. Keeps (M.cut m.rule) i m.keep) n keeps },
        ),
      )

  default_here : (z : List ℕ) (m : Candidate) → Among (default_match M.count z) m → IsCandidate (rules_of_machine M) c line_start z m
  default_here [] m h = absurd h
  default_here (b ∷ z) m (inr h) = absurd h
  default_here (b ∷ z) m (inl e) = subst (IsCandidate (rules_of_machine M) c line_start (b ∷ z)) (sym e) (omega arith, inr (refl, refl, refl))

  here_default : (z : List ℕ) (m : Candidate) → m.len ≤ length z → m.rule ≡ M.count → length (take m.len z) ≡ 1 → m.keep ≡ 1 → Among (default_match M.count z) m
  here_default [] m le p q r = let nil : List ℕ = [] in let n : length (take m.len nil) ≡ m.len = length-take-le m.len nil le in let z : m.len ≤ 0 = le in let one : length (take m.len nil) ≡ 1 = q in absurd (omega arith)
  here_default (b ∷ z) m le p q r =
      let n : length (take m.len (b ∷ z)) ≡ m.len = length-take-le m.len (b ∷ z) le in
      inl (candidate_same m (record { len = 1; rule = M.count; keep = 1 }) (omega arith) p r)

  pub machine_listed : (m : Candidate) → Among (machine_matches M (M.start c line_start) 0 y ++ default_match M.count y) m ↔ IsCandidate (rules_of_machine M) c line_start y m
  machine_listed m = (λ h. to (among_append (machine_matches M (M.start c line_start) 0 y) (default_match M.count y) m h), λ h. from h.0 h.1)
    where
      to : Among (machine_matches M (M.start c line_start) 0 y) m ⊎ Among (default_match M.count y) m → IsCandidate (rules_of_machine M) c line_start y m
      to (inl h) = within_is m (matches_sound M (M.start c line_start) 0 y m h)
      to (inr h) = default_here y m h

      from : m.len ≤ length y → Full (rules_of_machine M) c line_start (take m.len y) m.rule m.keep → Among (machine_matches M (M.start c line_start) 0 y ++ default_match M.count y) m
      from le (inl f) =
          let size : length (take m.len y) ≡ m.len = length-take-le m.len y le in
          let n : m.len ≡ 0 + m.len = omega arith in
          let size' : length (take m.len y) ≡ 0 + m.len = size ∙ n in
          among_left (machine_matches M (M.start c line_start) 0 y) (default_match M.count y) m
          (matches_complete M (M.start c line_start) 0 m.len y m (omega (arith, f.1.not_empty, size)) le (n, f.1.accepted, subst (λ i. Keeps (M.cut m.rule) i m.keep) size' f.1.keeps))
      from le (inr f) = among_right (machine_matches M (M.start c line_start) 0 y) (default_match M.count y) m (here_default y m le f.0 f.1 f.2)

  pub machine_candidates_are : (ms : List Candidate) → machine_candidates M c line_start y ≡ Some ms → Candidates (rules_of_machine M) c line_start y ms
  machine_candidates_are ms e =
      let o = ordered_is (machine_matches M (M.start c line_start) 0 y ++ default_match M.count y) ms e in
      record { in_order = o.in_order; members = λ m. (λ h. (machine_listed m).0 ((o.members m).0 h), λ h. (o.members m).1 ((machine_listed m).1 h)) }

  one_keep : (w : List ℕ) (i k l : ℕ) → Full (rules_of_machine M) c line_start w i k → Full (rules_of_machine M) c line_start w i l → k ≡ l
  one_keep w i k l (inl h) (inl g) = keeps_one (M.cut i) (length w) k l h.1.keeps g.1.keeps
  one_keep w i k l (inl h) (inr g) = absurd (omega (arith, h.0, g.0))
  one_keep w i k l (inr h) (inl g) = absurd (omega (arith, h.0, g.0))
  one_keep w i k l (inr h) (inr g) = h.2 ∙ sym g.2

  pub machine_candidates_exist : (ms : List Candidate) × Candidates (rules_of_machine M) c line_start y ms
  machine_candidates_exist =
      let given = ordered_exists (machine_matches M (M.start c line_start) 0 y ++ default_match M.count y) agree in
      (given.0, machine_candidates_are given.0 given.1)
    where
      agree : (m n : Candidate) → Among (machine_matches M (M.start c line_start) 0 y ++ default_match M.count y) m → Among (machine_matches M (M.start c line_start) 0 y ++ default_match M.count y) n → Agree m n
      agree m n a b len rule =
          let p : IsCandidate (rules_of_machine M) c line_start y m = (machine_listed m).0 a in
          let q : IsCandidate (rules_of_machine M) c line_start y n = (machine_listed n).0 b in
          one_keep (take m.len y) m.rule m.keep n.keep p.1
          (subst (λ i. Full (rules_of_machine M) c line_start (take m.len y) i n.keep) (sym rule) (subst (λ j. Full (rules_of_machine M) c line_start (take j y) n.rule n.keep) (sym len) q.1))

-- Each input has a run of each machine that keeps the laws.
pub machine_run_exists : (M : Machine) → MachineLaws M → (x : List ℕ) → (w : List ℕ) × (e : Ending) × Run (rules_of_machine M) x w e
machine_run_exists M laws x = run_exists (rules_of_machine M) (machine_laws M laws) laws.legal (λ c line_start y. machine_candidates_exist M laws c line_start y) x

-- A run that the plain program finds is the machine's.
pub machine_run_is : (M : Machine) → MachineLaws M → (x : List ℕ) (n : ℕ) (w : List ℕ) (d : Ending) → machine_run M x n ≡ Some (w, d) → Run (rules_of_machine M) x w d
machine_run_is M laws x n w d e = run_from_is (rules_of_machine M) (machine_candidates M) (λ c line_start y ms p. machine_candidates_are M laws c line_start y ms p) x n w d e
