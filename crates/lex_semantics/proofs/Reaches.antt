-- What a turn asks for: without a gap, in one way, and of a machine as far as the plain program computes.
use Rattle.std.proofs.Common.{◌≡◌, ℕ, zero, suc, ◌+◌, ◌-◌, ◌≤◌, ◌<◌, min, Bool, true, false, List, [], ◌∷◌, length, take, drop, ◌⊎◌, inl, inr, refl, sym, ◌∙◌, ap, subst, arith}
use Rattle.std.specs.Prelude.{if◌then◌else◌}
use Rattle.std.proofs.lemmas.List.{length-drop}
use Rattle.lex_semantics.specs.Text.{IsText, at_line_start}
use Rattle.lex_semantics.specs.Rules.{Rules}
use Rattle.lex_semantics.specs.Laws.{Laws}
use Rattle.lex_semantics.specs.Run.{Place}
use Rattle.lex_semantics.specs.Demand.{AsksAt, Asks}
use Rattle.lex_semantics.specs.Machine.{Machine, walk, state_after, rules_of_machine}
use Rattle.lex_semantics.specs.MachineLaws.{MachineLaws}
use Rattle.lex_semantics.specs.PlainMachine.{reach_from, reach_of}
use Rattle.lex_semantics.proofs.Texts.{is_text_drop, take_longer}
use Rattle.lex_semantics.proofs.Prefix.{asks_here, asks_all}
use Rattle.lex_semantics.proofs.MachineLaws.{machine_laws}

-- What is asked for at a place is asked for at each place before.
pub no_gap : (R : Rules) (l : Laws R) (x : List ℕ) (p : Place) (i j : ℕ) → IsText x → p.at + j ≤ length x → i ≤ j → AsksAt R x p j → AsksAt R x p i
no_gap R l x p i j text fits le (inl e) = inl (omega arith)
no_gap R l x p i j text fits le (inr live) =
    let n : length (drop p.at x) ≡ length x - p.at = length-drop p.at x in
    let longer = take_longer i j (drop p.at x) le (omega arith) in
    inr (l.live_shorter p.condition (at_line_start x p.at) (take i (drop p.at x)) longer.0 (longer.3 (is_text_drop p.at x text))
    (subst (λ w. R.live p.condition (at_line_start x p.at) w) longer.1 live))

asks_not_less : (R : Rules) (x : List ℕ) (p : Place) (q r : ℕ) → Asks R x p q → Asks R x p r → q < r → ⊥
asks_not_less R x p q r h k lt =
    let bad : q < q = (h q).1 ((k q).0 lt) in
    omega arith

-- a turn asks for so much in one way
pub one_reach : (R : Rules) (x : List ℕ) (p : Place) (q r : ℕ) → Asks R x p q → Asks R x p r → q ≡ r
one_reach R x p q r h k = from (grind arith)
  where
    from : (q < r) ⊎ ((q ≡ r) ⊎ (r < q)) → q ≡ r
    from (inl lt) = absurd (asks_not_less R x p q r h k lt)
    from (inr (inl e)) = e
    from (inr (inr lt)) = absurd (asks_not_less R x p r q k h lt)

-- how far the plain program asks from a state on

below_step : (M : Machine) (s b : ℕ) (y : List ℕ) (i : ℕ) (t : Bool) → M.goes_on s ≡ t → i < (if t then suc (reach_from M (M.next s b) y) else 0) →
    ((j : ℕ) → j < reach_from M (M.next s b) y → M.goes_on (walk M (M.next s b) (take j y)) ≡ true) → M.goes_on (walk M s (take i (b ∷ y))) ≡ true
below_step M s b y i false e k later = absurd (omega (arith, k))
below_step M s b y zero true e k later = e
below_step M s b y (suc i) true e k later = later i (omega (arith, k))

reach_below : (M : Machine) (s : ℕ) (y : List ℕ) (i : ℕ) → i < reach_from M s y → M.goes_on (walk M s (take i y)) ≡ true
reach_below M s [] i h = absurd (omega (arith, h))
reach_below M s (b ∷ y) i h = below_step M s b y i (M.goes_on s) refl h (λ j k. reach_below M (M.next s b) y j k)

le_step : (M : Machine) (s b : ℕ) (y : List ℕ) (t : Bool) → reach_from M (M.next s b) y ≤ length y → (if t then suc (reach_from M (M.next s b) y) else 0) ≤ suc (length y)
le_step M s b y true h = omega (arith, h)
le_step M s b y false h = omega arith

reach_le : (M : Machine) (s : ℕ) (y : List ℕ) → reach_from M s y ≤ length y
reach_le M s [] = omega arith
reach_le M s (b ∷ y) = le_step M s b y (M.goes_on s) (reach_le M (M.next s b) y)

stop_step : (M : Machine) (s b : ℕ) (y : List ℕ) (t : Bool) → M.goes_on s ≡ t → (if t then suc (reach_from M (M.next s b) y) else 0) < suc (length y) →
    (reach_from M (M.next s b) y < length y → M.goes_on (walk M (M.next s b) (take (reach_from M (M.next s b) y) y)) ≡ false) →
    M.goes_on (walk M s (take (if t then suc (reach_from M (M.next s b) y) else 0) (b ∷ y))) ≡ false
stop_step M s b y false e k later = e
stop_step M s b y true e k later = later (omega (arith, k))

reach_stops : (M : Machine) (s : ℕ) (y : List ℕ) → reach_from M s y < length y → M.goes_on (walk M s (take (reach_from M s y) y)) ≡ false
reach_stops M s [] h = absurd (omega (arith, h))
reach_stops M s (b ∷ y) h = stop_step M s b y (M.goes_on s) refl h (λ k. reach_stops M (M.next s b) y k)

true_or_false : {A : Type 0} (b : Bool) → b ≡ true → b ≡ false → A
true_or_false b h k = absurd (no (sym h ∙ k))
  where
    no : true ≡ false → ⊥
    no e = cc

-- What a turn of a machine asks for: so many bytes as the plain program says.
abbrev pub MachineAsks : Machine → List ℕ → Place → Type 0
MachineAsks M x p = (r : ℕ) × Asks (rules_of_machine M) x p r × (min (p.at + r) (length x) ≡ p.at + reach_of M p.condition (at_line_start x p.at) (drop p.at x))

pub machine_asks : (M : Machine) → MachineLaws M → (x : List ℕ) (p : Place) → IsText x → p.at ≤ length x → MachineAsks M x p
machine_asks M laws x p text le = from (drop p.at x) refl
  where
    from : (y : List ℕ) → drop p.at x ≡ y → (r : ℕ) × Asks (rules_of_machine M) x p r × (min (p.at + r) (length x) ≡ p.at + reach_of M p.condition (at_line_start x p.at) y)
    from [] e =
        let z : length x - p.at ≡ 0 = sym (length-drop p.at x) ∙ ap length e in
        (1, asks_all (rules_of_machine M) x p 1 (omega (arith, z, le)) (λ i less. inl (omega (arith, less))), omega (arith, z, le))
    from (b ∷ y) e = by_end (grind arith)
      where
        line_start : Bool
        line_start = at_line_start x p.at

        s : ℕ
        s = M.next (M.start p.condition line_start) b

        q : ℕ
        q = reach_from M s y

        size : length x - p.at ≡ suc (length y)
        size = sym (length-drop p.at x) ∙ ap length e

        small : q ≤ length y
        small = reach_le M s y

        asked : (i : ℕ) → i < suc q → AsksAt (rules_of_machine M) x p i
        asked zero less = inl refl
        asked (suc i) less = inr (subst (λ z. M.goes_on (state_after M p.condition line_start (take (suc i) z)) ≡ true) (sym e) (reach_below M s y i (omega (arith, less))))

        dead : M.goes_on (walk M s (take q y)) ≡ false → AsksAt (rules_of_machine M) x p (suc q) → ⊥
        dead stops (inl z) = omega (arith, z)
        dead stops (inr live) =
            true_or_false (M.goes_on (walk M s (take q y)))
            (subst (λ z. M.goes_on (state_after M p.condition line_start (take (suc q) z)) ≡ true) e live) stops

        one_more : M.goes_on (walk M s (take q y)) ≡ true → (i : ℕ) → i < suc (suc q) → AsksAt (rules_of_machine M) x p i
        one_more goes i less = by_last (grind arith)
          where
            by_last : (i < suc q) ⊎ (i ≡ suc q) → AsksAt (rules_of_machine M) x p i
            by_last (inl lower) = asked i lower
            by_last (inr last) = subst (AsksAt (rules_of_machine M) x p) (sym last) (inr (subst (λ z. M.goes_on (state_after M p.condition line_start (take (suc q) z)) ≡ true) (sym e) goes))

        stopped : M.goes_on (walk M s (take q y)) ≡ false → (r : ℕ) × Asks (rules_of_machine M) x p r × (min (p.at + r) (length x) ≡ p.at + suc q)
        stopped stops = (suc q, asks_here (rules_of_machine M) (machine_laws M laws) x p (suc q) text (omega (arith, size, small, le)) (omega arith) asked (dead stops), omega (arith, size, small, le))

        by_goes : length y ≤ q → (t : Bool) → M.goes_on (walk M s (take q y)) ≡ t → (r : ℕ) × Asks (rules_of_machine M) x p r × (min (p.at + r) (length x) ≡ p.at + suc q)
        by_goes all false stops = stopped stops
        by_goes all true goes = (suc (suc q), asks_all (rules_of_machine M) x p (suc (suc q)) (omega (arith, size, small, all, le)) (one_more goes), omega (arith, size, small, all, le))

        by_end : (q < length y) ⊎ (length y ≤ q) → (r : ℕ) × Asks (rules_of_machine M) x p r × (min (p.at + r) (length x) ≡ p.at + suc q)
        by_end (inl less) = stopped (reach_stops M s y less)
        by_end (inr all) = by_goes all (M.goes_on (walk M s (take q y))) refl
