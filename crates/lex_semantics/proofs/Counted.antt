-- A specification never has no count of subsets: rules and positions are finitely many, and so are their sets.
use Rattle.std.proofs.Common.{IfSome, ◌≡◌, ℕ, zero, suc, ◌+◌, ◌-◌, ◌*◌, ◌≤◌, ◌<◌, min, Bool, List, [], ◌∷◌, ◌++◌, map, length, ◌⊎◌, inl, inr, ◌↔◌, Option, Some, None, refl, sym, ap, subst, arith}
use Rattle.std.specs.Prelude.{slice_get, take}
use Rattle.std.proofs.Math.Nat.{mul-le-mul_right}
use Rattle.lex_semantics.specs.Text.{IsText, Among, Ascending}
use Rattle.lex_semantics.specs.Tree.{Tree, Trees, Empty, Set, Cat, Alt, Star, Repeat, no_trees, tree, Iterates}
use Rattle.lex_semantics.specs.Positions.{copies, positions, positions_of, MarkedByte, Readings, Reads, ReadsEach, ReadsSome}
use Rattle.lex_semantics.specs.Spec.{Spec, Rule}
use Rattle.lex_semantics.specs.Subsets.{positions_of_trail, positions_of_rule, all_positions, base_of, ReadsTrail, ReadsRule, ReadsActive, IsLast, IsActive, ListsSet, Distinct, AreStarts, AreLasts, HasSubsets}
use Rattle.lex_semantics.proofs.Fronts.{among_left, among_right}

-- each position is below a number
Below : ℕ → List MarkedByte → Type 0
Below hi [] = Unit {0}
Below hi (c ∷ rs) = (c.1 < hi) × Below hi rs

below_append : (hi : ℕ) (us vs : List MarkedByte) → Below hi us → Below hi vs → Below hi (us ++ vs)
unfolding Below
below_append hi [] vs h k = k
below_append hi (c ∷ us) vs h k = (h.0, below_append hi us vs h.1 k)

below_more : (low hi : ℕ) (rs : List MarkedByte) → low ≤ hi → Below low rs → Below hi rs
unfolding Below
below_more low hi [] le h = tt
below_more low hi (c ∷ rs) le h = (omega (arith, le, h.0), below_more low hi rs le h.1)

below_none : (hi : ℕ) (rs : List MarkedByte) → rs ≡ [] → Below hi rs
unfolding Below
below_none hi rs e = subst (Below hi) (sym e) tt

passes_below : (R : ℕ → Readings) (hi : ℕ) → ((j : ℕ) (us : List MarkedByte) → R j us → Below hi us) → (k j : ℕ) (rs : List MarkedByte) → Iterates R j k rs → Below hi rs
passes_below R hi each zero j rs e = below_none hi rs e
passes_below R hi each (suc k) j rs (us, vs, e, here, rest) = subst (Below hi) (sym e) (below_append hi us vs (each j us here) (passes_below R hi each k (suc j) vs rest))

copy_fits : (base j c p : ℕ) → 1 ≤ c → base + min j (c - 1) * p + p ≤ base + c * p
copy_fits base j c p some =
    let small : min j (c - 1) + 1 ≤ c = omega (arith, some) in
    let more : (min j (c - 1) + 1) * p ≤ c * p = mul-le-mul_right p small in
    omega (arith, more)

no_passes : (R : ℕ → Readings) (hi k : ℕ) (rs : List MarkedByte) → k ≡ 0 → Iterates R 0 k rs → Below hi rs
no_passes R hi zero rs e h = below_none hi rs h
no_passes R hi (suc k) rs e h = absurd (omega (arith, e))

repeat_below : (t : Tree) (m : ℕ) (n : Option ℕ) (base k c : ℕ) → copies m n ≡ c → (rs : List MarkedByte) → IfSome n (λ n. k ≤ n)
    → ((j : ℕ) (us : List MarkedByte) → Reads t (base + min j (copies m n - 1) * positions t) us → Below (base + min j (copies m n - 1) * positions t + positions t) us)
    → Iterates (λ j. Reads t (base + min j (copies m n - 1) * positions t)) 0 k rs → Below (base + copies m n * positions t) rs
repeat_below t m None base k c e rs high each passes =
    passes_below (λ j. Reads t (base + min j (copies m None - 1) * positions t)) (base + copies m None * positions t)
    (λ j us h. below_more (base + min j (copies m None - 1) * positions t + positions t) (base + copies m None * positions t) us (copy_fits base j (copies m None) (positions t) (omega arith)) (each j us h)) k 0 rs passes
repeat_below t m (Some n) base k zero e rs high each passes =
    no_passes (λ j. Reads t (base + min j (n - 1) * positions t)) (base + n * positions t) k rs (omega (arith, high, e)) passes
repeat_below t m (Some n) base k (suc c) e rs high each passes =
    passes_below (λ j. Reads t (base + min j (n - 1) * positions t)) (base + n * positions t)
    (λ j us h. below_more (base + min j (n - 1) * positions t + positions t) (base + n * positions t) us (copy_fits base j n (positions t) (omega (arith, e))) (each j us h)) k 0 rs passes

mutual
  unfolding Below

  tree_below : (t : Tree) (base : ℕ) (rs : List MarkedByte) → Reads t base rs → Below (base + positions t) rs
  tree_below Empty base rs e = below_none (base + 0) rs e
  tree_below (Set s) base rs (b, e, is) = subst (Below (base + 1)) (sym e) (omega arith, tt)
  tree_below (Cat ts) base rs h = each_below ts base rs h
  tree_below (Alt ts) base rs h = some_below ts base rs h
  tree_below (Star t) base rs (k, passes) = passes_below (λ j. Reads t base) (base + positions t) (λ j us h. tree_below t base us h) k 0 rs passes
  tree_below (Repeat t m n) base rs (k, low, high, passes) =
      repeat_below t m n base k (copies m n) refl rs high (λ j us h. tree_below t (base + min j (copies m n - 1) * positions t) us h) passes

  each_below : (ts : Trees) (base : ℕ) (rs : List MarkedByte) → ReadsEach ts base rs → Below (base + positions_of ts) rs
  each_below no_trees base rs e = below_none (base + 0) rs e
  each_below (tree t ts) base rs (us, vs, e, here, rest) =
      subst (Below (base + (positions t + positions_of ts))) (sym e)
      (below_append (base + (positions t + positions_of ts)) us vs (below_more (base + positions t) (base + (positions t + positions_of ts)) us (omega arith) (tree_below t base us here))
      (below_more (base + positions t + positions_of ts) (base + (positions t + positions_of ts)) vs (omega arith) (each_below ts (base + positions t) vs rest)))

  some_below : (ts : Trees) (base : ℕ) (rs : List MarkedByte) → ReadsSome ts base rs → Below (base + positions_of ts) rs
  some_below no_trees base rs h = absurd h
  some_below (tree t ts) base rs (inl h) = below_more (base + positions t) (base + (positions t + positions_of ts)) rs (omega arith) (tree_below t base rs h)
  some_below (tree t ts) base rs (inr h) = below_more (base + positions t + positions_of ts) (base + (positions t + positions_of ts)) rs (omega arith) (some_below ts (base + positions t) rs h)

trail_below : (t : Option Tree) (base : ℕ) (rs : List MarkedByte) → ReadsTrail t base rs → Below (base + positions_of_trail t) rs
trail_below None base rs e = below_none (base + 0) rs e
trail_below (Some t) base rs h = tree_below t base rs h

rule_below : (r : Rule) (base : ℕ) (rs : List MarkedByte) → ReadsRule r base rs → Below (base + positions_of_rule r) rs
rule_below r base rs (us, vs, e, here, rest) =
    subst (Below (base + positions_of_rule r)) (sym e)
    (below_append (base + positions_of_rule r) us vs (below_more (base + positions r.head) (base + positions_of_rule r) us (omega arith) (tree_below r.head base us here.0))
    (below_more (base + positions r.head + positions_of_trail r.trail) (base + positions_of_rule r) vs (omega arith) (trail_below r.trail (base + positions r.head) vs rest)))

none_there : (i : ℕ) (r : Rule) → slice_get {X = Rule} [] i ≡ Some r → ⊥
none_there zero r e = cc
none_there (suc i) r e = cc

base_fits : (rules : List Rule) (base i : ℕ) (r : Rule) → slice_get rules i ≡ Some r → base_of rules base i + positions_of_rule r ≤ base + all_positions rules
base_fits [] base i r e = absurd (none_there i r e)
base_fits (q ∷ rules) base zero r e = let same : q ≡ r = cc in subst (λ (z : Rule). base + positions_of_rule z ≤ base + (positions_of_rule q + all_positions rules)) same (omega arith)
base_fits (q ∷ rules) base (suc i) r e =
    let later : base_of rules (base + positions_of_rule q) i + positions_of_rule r ≤ base + positions_of_rule q + all_positions rules = base_fits rules (base + positions_of_rule q) i r e in
    omega (arith, later)

base_from : (rules : List Rule) (base i : ℕ) → base_of rules base i ≡ base + all_positions (take i rules)
base_from [] base zero = omega arith
base_from [] base (suc i) = omega arith
base_from (r ∷ rules) base zero = omega arith
base_from (r ∷ rules) base (suc i) = let later = base_from rules (base + positions_of_rule r) i in omega (arith, later)

-- The positions of rule i begin after those of the rules before it.
pub base_is : (rules : List Rule) (i : ℕ) → base_of rules 0 i ≡ all_positions (take i rules)
base_is rules i = let from = base_from rules 0 i in omega (arith, from)

active_below : (S : Spec) (c : ℕ) (line_start : Bool) (rs : List MarkedByte) → ReadsActive S c line_start rs → Below (all_positions S.rules) rs
active_below S c line_start rs (i, r, at, on, reads) =
    let fits : base_of S.rules 0 i + positions_of_rule r ≤ 0 + all_positions S.rules = base_fits S.rules 0 i r at in
    let base = all_positions (take i S.rules) in
    let begins : base_of S.rules 0 i ≡ base = base_is S.rules i in
    below_more (base + positions_of_rule r) (all_positions S.rules) rs (omega (arith, fits, begins)) (rule_below r base rs reads)

ends_below : (hi p b : ℕ) (rs zs : List MarkedByte) → Below hi (rs ++ (b, p) ∷ zs) → p < hi
unfolding Below
ends_below hi p b [] zs k = k.0
ends_below hi p b (c ∷ rs) zs k = ends_below hi p b rs zs k.1

last_below : (S : Spec) (c : ℕ) (line_start : Bool) (w : List ℕ) (p : ℕ) → IsLast (ReadsActive S c line_start) w p → p < all_positions S.rules
last_below S c line_start w p (rs, zs, b, e, reads) = ends_below (all_positions S.rules) p b rs zs (active_below S c line_start (rs ++ (b, p) ∷ zs) reads)

rule_there : (rules : List Rule) (i : ℕ) (r : Rule) → slice_get rules i ≡ Some r → i < length rules
rule_there [] i r e = absurd (none_there i r e)
rule_there (q ∷ rules) zero r e = omega arith
rule_there (q ∷ rules) (suc i) r e = let less : i < length rules = rule_there rules i r e in omega arith

-- all ascending lists of the n numbers from i on

lists_from : ℕ → ℕ → List (List ℕ)
lists_from i zero = [] ∷ []
lists_from i (suc n) = lists_from (suc i) n ++ map (λ l. i ∷ l) (lists_from (suc i) n)

among_map : (i : ℕ) (ls : List (List ℕ)) (l : List ℕ) → Among ls l → Among (map (λ k. i ∷ k) ls) (i ∷ l)
among_map i [] l h = absurd h
among_map i (k ∷ ls) l (inl e) = inl (ap (λ z. i ∷ z) e)
among_map i (k ∷ ls) l (inr h) = inr (among_map i ls l h)

abbrev Within : ℕ → ℕ → List ℕ → Type 0
Within i n l = (j : ℕ) → Among l j → (i ≤ j) × (j < i + n)

all_listed : (n i : ℕ) (l : List ℕ) → Ascending l → Within i n l → Among (lists_from i n) l
unfolding lists_from
all_listed zero i [] up h = inl refl
all_listed zero i (j ∷ l) up h = let k = h j (inl refl) in absurd (omega (arith, k.0, k.1))
all_listed (suc n) i [] up h = among_left (lists_from (suc i) n) (map (λ k. i ∷ k) (lists_from (suc i) n)) [] (all_listed n (suc i) [] tt (λ j a. absurd a))
all_listed (suc n) i (j ∷ l) up h =
    from (grind (arith, h j (inl refl))) (λ less. all_listed n (suc i) (j ∷ l) up (tail less)) (λ e. all_listed n (suc i) l up.1 (rest e))
  where
    from : (i < j) ⊎ (i ≡ j) → (i < j → Among (lists_from (suc i) n) (j ∷ l)) → (i ≡ j → Among (lists_from (suc i) n) l)
        → Among (lists_from (suc i) n ++ map (λ k. i ∷ k) (lists_from (suc i) n)) (j ∷ l)
    from (inl less) here there = among_left (lists_from (suc i) n) (map (λ k. i ∷ k) (lists_from (suc i) n)) (j ∷ l) (here less)
    from (inr e) here there =
        among_right (lists_from (suc i) n) (map (λ k. i ∷ k) (lists_from (suc i) n)) (j ∷ l)
        (subst (λ z. Among (map (λ k. i ∷ k) (lists_from (suc i) n)) (z ∷ l)) e (among_map i (lists_from (suc i) n) l (there e)))

    tail : i < j → (k : ℕ) → Among (j ∷ l) k → (suc i ≤ k) × (k < suc i + n)
    tail less k (inl e) = let b = h j (inl refl) in (omega (arith, e, less), omega (arith, e, b.1))
    tail less k (inr a) = let b = h k (inr a) in (let after : j < k = up.0 k a in omega (arith, less), omega (arith, b.1))

    rest : i ≡ j → (k : ℕ) → Among l k → (suc i ≤ k) × (k < suc i + n)
    rest e k a = let b = h k (inr a) in (let after : j < k = up.0 k a in omega (arith, e), omega (arith, b.1))

-- those lists of which Q holds, each once

undecided : (A : Type 0) → (A ⊎ (A → ⊥) → ⊥) → ⊥
undecided A none = none (inr (λ a. none (inl a)))

never_unchosen : (Q : List ℕ → Type 0) (cs : List (List ℕ)) → ((ls : List (List ℕ)) → Distinct ls → ((l : List ℕ) → Among ls l ↔ (Among cs l × Q l)) → ⊥) → ⊥
never_unchosen Q [] none = none [] tt (λ l. (λ h. absurd h, λ h. absurd h.0))
never_unchosen Q (c ∷ cs) none =
    never_unchosen Q cs (λ ls distinct is. undecided (Q c) (λ q. undecided (Among ls c) (λ have. from ls distinct is q have)))
  where
    from : (ls : List (List ℕ)) → Distinct ls → ((l : List ℕ) → Among ls l ↔ (Among cs l × Q l)) → Q c ⊎ (Q c → ⊥) → Among ls c ⊎ (Among ls c → ⊥) → ⊥
    from ls distinct is (inr not) have = none ls distinct (λ l. (λ h. (let k = (is l).0 h in (inr k.0, k.1)), λ h. back l h.0 h.1))
      where
        back : (l : List ℕ) → Among (c ∷ cs) l → Q l → Among ls l
        back l (inl e) q = absurd (not (subst Q e q))
        back l (inr a) q = (is l).1 (a, q)
    from ls distinct is (inl here) (inl have) = none ls distinct (λ l. (λ h. (let k = (is l).0 h in (inr k.0, k.1)), λ h. back l h.0 h.1))
      where
        back : (l : List ℕ) → Among (c ∷ cs) l → Q l → Among ls l
        back l (inl e) q = subst (Among ls) (sym e) have
        back l (inr a) q = (is l).1 (a, q)
    from ls distinct is (inl here) (inr out) = none (c ∷ ls) (λ l a e. out (subst (Among ls) (sym e) a), distinct) (λ l. (λ h. on l h, λ h. back l h.0 h.1))
      where
        on : (l : List ℕ) → Among (c ∷ ls) l → Among (c ∷ cs) l × Q l
        on l (inl e) = (inl e, subst Q (sym e) here)
        on l (inr a) = let k = (is l).0 a in (inr k.0, k.1)

        back : (l : List ℕ) → Among (c ∷ cs) l → Q l → Among (c ∷ ls) l
        back l (inl e) q = inl e
        back l (inr a) q = inr ((is l).1 (a, q))

-- both lists

never_no_starts : (S : Spec) → ((ls : List (List ℕ)) → AreStarts S ls → ⊥) → ⊥
never_no_starts S none =
    never_unchosen (λ l. (1 ≤ length l) × ((c : ℕ) × (line_start : Bool) × (c < length S.conditions) × ListsSet l (IsActive S c line_start))) (lists_from 0 (length S.rules))
    (λ ls distinct is. none ls (record {
      distinct = distinct;
      listed = λ l. (
        λ a. ((is l).0 a).1,
        λ (some, (c, line_start, lt, set)). (is l).1 (all_listed (length S.rules) 0 l set.0 (λ i a. (let on = (set.1 i).0 a in let below : i < length S.rules = rule_there S.rules i on.0 on.1 in (omega arith, omega (arith, below)))), (some, (c, line_start, lt, set))),
      );
    }))

never_no_lasts : (S : Spec) → ((ls : List (List ℕ)) → AreLasts S ls → ⊥) → ⊥
never_no_lasts S none =
    never_unchosen
    (λ l. (1 ≤ length l) × ((c : ℕ) × (line_start : Bool) × (w : List ℕ) × (c < length S.conditions) × IsText w × (1 ≤ length w) × ListsSet l (IsLast (ReadsActive S c line_start) w)))
    (lists_from 0 (all_positions S.rules))
    (λ ls distinct is. none ls (record {
      distinct = distinct;
      listed = λ l. (
        λ a. ((is l).0 a).1,
        λ (more, (c, line_start, w, lt, text, some, set)).
            (is l).1 (all_listed (all_positions S.rules) 0 l set.0 (λ p a. (let below : p < all_positions S.rules = last_below S c line_start w p ((set.1 p).0 a) in (omega arith, omega (arith, below)))), (more, (c, line_start, w, lt, text, some, set))),
      );
    }))

-- A specification never has no count of subsets.
pub never_no_count : (S : Spec) → ((n : ℕ) → HasSubsets S n → ⊥) → ⊥
never_no_count S none =
    never_no_starts S (λ starts are. never_no_lasts S (λ lasts have.
    none (1 + length starts + length lasts) (record { starts = starts; lasts = lasts; are_starts = are; are_lasts = have; total = refl })))
