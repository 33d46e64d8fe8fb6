-- The tests say what soundness means.
use Rattle.std.proofs.Common.{◌≡◌, ℕ, zero, suc, ◌≤◌, ◌<◌, Bool, true, false, List, [], ◌∷◌, length, ◌⊎◌, inl, inr, Option, Some, None, IfSome, refl, sym, ◌∙◌, ap, subst, arith}
use Rattle.std.specs.Prelude.{◌&&◌, ◌||◌, nat_le, nat_lt, slice_get}
use Rattle.std.proofs.lemmas.Bool.{and_parts, and_from, leb-true, le-leb, ltb-true}
use Rattle.lex_semantics.proofs.Legals.{normal_of_joined}
use Rattle.lex_semantics.specs.Text.{Among, Ascending}
use Rattle.lex_semantics.specs.ByteSets.{has}
use Rattle.lex_semantics.specs.Tree.{Tree, Trees, Empty, Set, Cat, Alt, Star, Repeat, no_trees, tree}
use Rattle.lex_semantics.specs.Shapes.{IsSoundTree, AreSoundTrees, HasPart}
use Rattle.lex_semantics.specs.Spec.{Spec, Rule, Condition, Statement}
use Rattle.lex_semantics.specs.Legal.{all_in_range, ends_last, are_joined, are_compatible, IsLegal}
use Rattle.lex_semantics.specs.Sound.{IsSoundRule, IsSound}
use Rattle.lexspec_actions.specs.Actions.{are_few}
use Rattle.lexspec.specs.Tests.{any_below, are_bounds, has_part, sound_tree, sound_trees, sound_trail, cut_fits, ascend_from, sound_list, legal_action, sound_rule, sound_rules, sound_end, sound_conditions, is_sound}
use Rattle.lexspec.proofs.CutLaws.{cut_is_fit}
use Rattle.lex_semantics.specs.Limits.{max_conditions, max_literal_bytes, max_status, max_rules}

no_true : {A : Type 0} → false ≡ true → A
no_true e = absurd (no e)
  where
    no : false ≡ true → ⊥
    no p = cc

-- sets

either : (a b : Bool) → (a || b) ≡ true → (a ≡ true) ⊎ (b ≡ true)
either true b h = inl refl
either false b h = inr h

right_true : (a b : Bool) → b ≡ true → (a || b) ≡ true
right_true true b h = refl
right_true false b h = h

left_true : (a b : Bool) → a ≡ true → (a || b) ≡ true
left_true true b h = refl
left_true false b h = no_true h

some_below : (n : ℕ) (test : ℕ → Bool) → any_below n test ≡ true → (b : ℕ) × (b < n) × (test b ≡ true)
unfolding any_below
some_below zero test h = no_true h
some_below (suc n) test h = from (either (test n) (any_below n test) h) (λ k. some_below n test k)
  where
    from : (test n ≡ true) ⊎ (any_below n test ≡ true) → (any_below n test ≡ true → (b : ℕ) × (b < n) × (test b ≡ true)) → (b : ℕ) × (b < suc n) × (test b ≡ true)
    from (inl k) later = (n, omega arith, k)
    from (inr k) later = let r = later k in (r.0, omega (arith, r.1), r.2)

below_some : (n : ℕ) (test : ℕ → Bool) (b : ℕ) → b < n → test b ≡ true → any_below n test ≡ true
unfolding any_below
below_some zero test b lt h = absurd (omega (arith, lt))
below_some (suc n) test b lt h = from (grind arith) (λ less. below_some n test b less h)
  where
    from : (b ≡ n) ⊎ (b < n) → (b < n → any_below n test ≡ true) → (test n || any_below n test) ≡ true
    from (inl e) later = left_true (test n) (any_below n test) (ap test (sym e) ∙ h)
    from (inr less) later = right_true (test n) (any_below n test) (later less)

-- trees

bounds_in_order : (m : ℕ) (n : Option ℕ) → are_bounds m n ≡ true → IfSome n (λ n. (m ≤ n) × (1 ≤ n))
bounds_in_order m None h = tt
bounds_in_order m (Some n) h = let both = and_parts (nat_le m n) (nat_le 1 n) h in (leb-true m n both.0, leb-true 1 n both.1)

order_of_bounds : (m : ℕ) (n : Option ℕ) → IfSome n (λ n. (m ≤ n) × (1 ≤ n)) → are_bounds m n ≡ true
order_of_bounds m None h = refl
order_of_bounds m (Some n) h = and_from (nat_le m n) (nat_le 1 n) (le-leb m n h.0) (le-leb 1 n h.1)

some_part : (ts : Trees) → has_part ts ≡ true → HasPart ts
some_part no_trees h = no_true h
some_part (tree t ts) h = λ e. cc

part_some : (ts : Trees) → HasPart ts → has_part ts ≡ true
part_some no_trees h = absurd (h refl)
part_some (tree t ts) h = refl

mutual
  pub tree_is_sound : (t : Tree) → sound_tree t ≡ true → IsSoundTree t
  tree_is_sound Empty h = tt
  tree_is_sound (Set s) h = let r = some_below 256 (has s) h in (r.0, (r.1, r.2))
  tree_is_sound (Cat ts) h = let both = and_parts (sound_trees ts) (has_part ts) h in (trees_are_sound ts both.0, some_part ts both.1)
  tree_is_sound (Alt ts) h = let both = and_parts (sound_trees ts) (has_part ts) h in (trees_are_sound ts both.0, some_part ts both.1)
  tree_is_sound (Star t) h = tree_is_sound t h
  tree_is_sound (Repeat t m n) h = let both = and_parts (sound_tree t) (are_bounds m n) h in (tree_is_sound t both.0, bounds_in_order m n both.1)

  trees_are_sound : (ts : Trees) → sound_trees ts ≡ true → AreSoundTrees ts
  trees_are_sound no_trees h = tt
  trees_are_sound (tree t ts) h = let both = and_parts (sound_tree t) (sound_trees ts) h in (tree_is_sound t both.0, trees_are_sound ts both.1)

mutual
  pub sound_is_tested : (t : Tree) → IsSoundTree t → sound_tree t ≡ true
  sound_is_tested Empty h = refl
  sound_is_tested (Set s) h = below_some 256 (has s) h.0 h.1.0 h.1.1
  sound_is_tested (Cat ts) h = and_from (sound_trees ts) (has_part ts) (sound_are_tested ts h.0) (part_some ts h.1)
  sound_is_tested (Alt ts) h = and_from (sound_trees ts) (has_part ts) (sound_are_tested ts h.0) (part_some ts h.1)
  sound_is_tested (Star t) h = sound_is_tested t h
  sound_is_tested (Repeat t m n) h = and_from (sound_tree t) (are_bounds m n) (sound_is_tested t h.0) (order_of_bounds m n h.1)

  sound_are_tested : (ts : Trees) → AreSoundTrees ts → sound_trees ts ≡ true
  sound_are_tested no_trees h = refl
  sound_are_tested (tree t ts) h = and_from (sound_tree t) (sound_trees ts) (sound_is_tested t h.0) (sound_are_tested ts h.1)

-- lists of conditions

ascending_above : (low n : ℕ) (cs : List ℕ) → ascend_from low n cs ≡ true → (c : ℕ) → Among cs c → (low ≤ c) × (c < n)
ascending_above low n [] h c k = absurd k
ascending_above low n (d ∷ cs) h c (inl e) =
    let one = and_parts (nat_le low d && nat_lt d n) (ascend_from (suc d) n cs) h in
    let two = and_parts (nat_le low d) (nat_lt d n) one.0 in
    (omega (arith, leb-true low d two.0, e), omega (arith, ltb-true d n two.1, e))
ascending_above low n (d ∷ cs) h c (inr k) =
    let one = and_parts (nat_le low d && nat_lt d n) (ascend_from (suc d) n cs) h in
    let two = and_parts (nat_le low d) (nat_lt d n) one.0 in
    let later = ascending_above (suc d) n cs one.1 c k in
    (omega (arith, leb-true low d two.0, later.0), later.1)

ascending_list : (low n : ℕ) (cs : List ℕ) → ascend_from low n cs ≡ true → Ascending cs
ascending_list low n [] h = tt
ascending_list low n (d ∷ cs) h =
    let one = and_parts (nat_le low d && nat_lt d n) (ascend_from (suc d) n cs) h in
    (λ c k. (let later = ascending_above (suc d) n cs one.1 c k in omega (arith, later.0)), ascending_list (suc d) n cs one.1)

list_is_sound : (n : ℕ) (cs : Option (List ℕ)) → sound_list n cs ≡ true → IfSome cs (λ l. Ascending l × ((c : ℕ) → Among l c → c < n))
list_is_sound n None h = tt
list_is_sound n (Some cs) h = (ascending_list 0 n cs h, λ c k. (ascending_above 0 n cs h c k).1)

trail_is_sound : (t : Option Tree) → sound_trail t ≡ true → IfSome t IsSoundTree
trail_is_sound None h = tt
trail_is_sound (Some t) h = tree_is_sound t h

pub legal_is : (n : ℕ) (ss : List Statement) → legal_action n ss ≡ true → IsLegal n ss
legal_is n ss h =
    let three = and_parts (all_in_range n ss && ends_last ss && are_joined ss) (are_compatible ss) h in
    let two = and_parts (all_in_range n ss && ends_last ss) (are_joined ss) three.0 in
    let one = and_parts (all_in_range n ss) (ends_last ss) two.0 in
    (record { ranges = one.0; last = one.1; compatible = three.1 }, normal_of_joined n ss one.0 two.1)

pub rule_is_sound : (n : ℕ) (r : Rule) → sound_rule n r ≡ true → IsSoundRule n r
rule_is_sound n r h =
    let five = and_parts (sound_list n r.conditions && sound_tree r.head && sound_trail r.trail && cut_fits r.cut r.head r.trail && legal_action n r.statements) (are_few r.statements) h in
    let four = and_parts (sound_list n r.conditions && sound_tree r.head && sound_trail r.trail && cut_fits r.cut r.head r.trail) (legal_action n r.statements) five.0 in
    let three = and_parts (sound_list n r.conditions && sound_tree r.head && sound_trail r.trail) (cut_fits r.cut r.head r.trail) four.0 in
    let two = and_parts (sound_list n r.conditions && sound_tree r.head) (sound_trail r.trail) three.0 in
    let one = and_parts (sound_list n r.conditions) (sound_tree r.head) two.0 in
    let head : IsSoundTree r.head = tree_is_sound r.head one.1 in
    let trail : IfSome r.trail IsSoundTree = trail_is_sound r.trail two.1 in
    record {
      listed = list_is_sound n r.conditions one.0;
      head = head;
      trail = trail;
      cut = cut_is_fit r.cut r.head r.trail head trail three.1;
      legal = legal_is n r.statements four.1;
    }

rule_of_sound : (n : ℕ) (rs : List Rule) (i : ℕ) (r : Rule) → sound_rules n rs ≡ true → slice_get rs i ≡ Some r → IsSoundRule n r
rule_of_sound n [] i r h e = absurd (no e)
  where
    no : None ≡ Some r → ⊥
    no p = cc
rule_of_sound n (q ∷ rs) zero r h e =
    let same : q ≡ r = cc in
    subst (IsSoundRule n) same (rule_is_sound n q (and_parts (sound_rule n q) (sound_rules n rs) h).0)
rule_of_sound n (q ∷ rs) (suc i) r h e = rule_of_sound n rs i r (and_parts (sound_rule n q) (sound_rules n rs) h).1 e

end_of_sound : (cs : List Condition) (c : ℕ) (k : Condition) → sound_conditions cs ≡ true → slice_get cs c ≡ Some k → (k.end.status ≤ max_status) × (length k.end.print ≤ max_literal_bytes)
end_of_sound [] c k h e = absurd (no e)
  where
    no : None ≡ Some k → ⊥
    no p = cc
end_of_sound (d ∷ cs) zero k h e =
    let same : d ≡ k = cc in
    let both = and_parts (nat_le d.end.status max_status) (nat_le (length d.end.print) max_literal_bytes) (and_parts (sound_end d.end) (sound_conditions cs) h).0 in
    subst (λ (z : Condition). (z.end.status ≤ max_status) × (length z.end.print ≤ max_literal_bytes)) same (leb-true d.end.status max_status both.0, leb-true (length d.end.print) max_literal_bytes both.1)
end_of_sound (d ∷ cs) (suc c) k h e = end_of_sound cs c k (and_parts (sound_end d.end) (sound_conditions cs) h).1 e

-- A specification that passes the test is sound.
pub spec_is_sound : (S : Spec) → is_sound S ≡ true → IsSound S
spec_is_sound S h =
    let four = and_parts (nat_le 1 (length S.conditions) && nat_le (length S.conditions) max_conditions && nat_le (length S.rules) max_rules && sound_conditions S.conditions) (sound_rules (length S.conditions) S.rules) h in
    let three = and_parts (nat_le 1 (length S.conditions) && nat_le (length S.conditions) max_conditions && nat_le (length S.rules) max_rules) (sound_conditions S.conditions) four.0 in
    let two = and_parts (nat_le 1 (length S.conditions) && nat_le (length S.conditions) max_conditions) (nat_le (length S.rules) max_rules) three.0 in
    let one = and_parts (nat_le 1 (length S.conditions)) (nat_le (length S.conditions) max_conditions) two.0 in
    record {
      some_condition = leb-true 1 (length S.conditions) one.0;
      ends = λ c k e. (end_of_sound S.conditions c k three.1 e).0;
      prints = λ c k e. (end_of_sound S.conditions c k three.1 e).1;
      rules = λ i r e. rule_of_sound (length S.conditions) S.rules i r four.1 e;
    }
