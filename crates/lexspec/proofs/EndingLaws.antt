-- `<<EOF>>` rules of which no two name a condition in common.
use Rattle.std.proofs.Common.{◌≡◌, ℕ, zero, suc, ◌+◌, ◌≤◌, ◌<◌, ◌==◌, ◌||◌, ◌&&◌, Bool, true, false, cond, List, [], ◌∷◌, ◌++◌, map, length, get_or, drop, count_by, Option, Some, None, ◌⊎◌, inl, inr, refl, sym, ap, ◌∙◌, arith}
use Rattle.std.specs.Prelude.{find, option_map, unwrap_or, filter_map, is_some, nat_le, nat_lt, if◌then◌else◌}
use Rattle.std.specs.List.{filter, list_any, list_all, range_with_len}
use Rattle.lex_semantics.proofs.Listed.{listed_is, range_is}
use Rattle.lex_semantics.specs.Active.{contains}
use Rattle.std.proofs.lemmas.Bool.{and_parts, and_from, or_parts, eqb-true, eq-eqb, leb-true, ltb-true, le-leb, lt-ltb}
use Rattle.std.proofs.lemmas.List.{drop_more, drop_all}
use Rattle.std.proofs.lemmas.List.Sums.{sum_by-cons, sum_by-append}
use Rattle.lexspec.specs.Files.{AreSingle, end_in}
use Rattle.lex_semantics.specs.Spec.{EndAction}
use Rattle.std.specs.Option.{option_or}
use Rattle.lexspec.specs.Items.{Conditions, unlisted, every, only}
use Rattle.lexspec.specs.RuleItems.{EndRule, numbers_of}
use Rattle.lex_semantics.specs.Text.{listed}
use Rattle.lexspec.specs.EndRules.{end_rule_of}
use Rattle.lexspec.specs.declared.endings.EndRule.{EndRule as EndRuleKept}
use Rattle.lexspec.specs.Tests.{ascend_from, sound_list}
use Rattle.lexspec.specs.Endings.{numbers_kept, clashes, any_clashes, is_unlisted, unlisted_end, listed_end, lists_number}
use Rattle.lexspec_lines.proofs.OneSection.{no_true}

-- counts

one_more : {A : Type 0} (p : A → Bool) (x : A) (xs : List A) → count_by p (x ∷ xs) ≡ cond (p x) 1 0 + count_by p xs
one_more p x xs = sum_by-cons (λ y. cond (p y) 1 0) x xs

counted : {A : Type 0} (p : A → Bool) (x : A) (xs : List A) (b : Bool) → p x ≡ b → count_by p (x ∷ xs) ≡ cond b 1 0 + count_by p xs
counted p x xs b e = one_more p x xs ∙ ap (λ z. cond z 1 0 + count_by p xs) e

not_counted : {A : Type 0} (p : A → Bool) (x : A) (xs : List A) → p x ≡ false → count_by p (x ∷ xs) ≡ count_by p xs
not_counted p x xs e = let is : count_by p (x ∷ xs) ≡ 0 + count_by p xs = counted p x xs false e in omega arith

in_both : {A : Type 0} (p : A → Bool) (xs ys : List A) → count_by p (xs ++ ys) ≡ count_by p xs + count_by p ys
in_both p xs ys = sum_by-append (λ y. cond (p y) 1 0) xs ys

-- a member of a list in which nothing passes

not_passed : (test : ℕ → Bool) (ds : List ℕ) (c : ℕ) → list_any test ds ≡ false → list_any (λ d. d == c) ds ≡ true → test c ≡ false
not_passed test [] c h k = no_true k
not_passed test (d ∷ ds) c h k = from (d == c) refl (not_passed test ds c parts.1) k
  where
    parts : (test d ≡ false) × (list_any test ds ≡ false)
    parts = or_parts (test d) (list_any test ds) h

    from : (b : Bool) → (d == c) ≡ b → (list_any (λ d. d == c) ds ≡ true → test c ≡ false) → (b || list_any (λ d. d == c) ds) ≡ true → test c ≡ false
    from true e later m = ap test (sym (eqb-true d c e)) ∙ parts.0
    from false e later m = later m

some_passed : (test : ℕ → Bool) (ds : List ℕ) → list_any test ds ≡ true → (c : ℕ) × (test c ≡ true) × (list_any (λ d. d == c) ds ≡ true)
some_passed test [] h = no_true h
some_passed test (d ∷ ds) h = from (test d) refl (some_passed test ds) h
  where
    or_right : (b : Bool) → (b || true) ≡ true
    or_right true = refl
    or_right false = refl

    from : (b : Bool) → test d ≡ b → (list_any test ds ≡ true → (c : ℕ) × (test c ≡ true) × (list_any (λ d. d == c) ds ≡ true)) → (b || list_any test ds) ≡ true
        → (c : ℕ) × (test c ≡ true) × (list_any (λ k. k == c) (d ∷ ds) ≡ true)
    from true e later m = (d, e, ap (λ b. b || list_any (λ k. k == d) ds) (eq-eqb d d refl))
    from false e later m = let r = later m in (r.0, r.1, ap (λ b. (d == r.0) || b) r.2 ∙ or_right (d == r.0))

-- a rule that clashes with none

not_listed : (cs ns : Option (List ℕ)) (c : ℕ) → clashes cs ns ≡ false → lists_number ns c ≡ true → lists_number cs c ≡ false
not_listed None ns c h k = refl
not_listed (Some cs) None c h k = no_true k
not_listed (Some cs) (Some ds) c h k = not_passed (λ d. lists_number (Some cs) d) ds c h k

none_lists : (ends : List EndRule) (ns : Option (List ℕ)) (c : ℕ) → any_clashes ends ns ≡ false → lists_number ns c ≡ true → count_by (λ (e : EndRule). lists_number e.0 c) ends ≡ 0
none_lists [] ns c h k = refl
none_lists (e ∷ ends) ns c h k =
    let parts = or_parts (clashes e.0 ns) (any_clashes ends ns) h in
    not_counted (λ (e : EndRule). lists_number e.0 c) e ends (not_listed e.0 ns c parts.0 k) ∙ none_lists ends ns c parts.1 k

none_unlisted : (ends : List EndRule) → any_clashes ends None ≡ false → count_by is_unlisted ends ≡ 0
none_unlisted [] h = refl
none_unlisted ((None, e) ∷ ends) h = no_true (sym h)
none_unlisted ((Some cs, e) ∷ ends) h = not_counted is_unlisted (Some cs, e) ends refl ∙ none_unlisted ends h

one_at_most : {A : Type 0} (p : A → Bool) (xs : List A) (x : A) → (p x ≡ true → count_by p xs ≡ 0) → count_by p xs ≤ 1 → count_by p (xs ++ x ∷ []) ≤ 1
one_at_most p xs x none few = from (p x) refl
  where
    from : (b : Bool) → p x ≡ b → count_by p (xs ++ x ∷ []) ≤ 1
    from true e =
        let zero_then : count_by p xs ≡ 0 = none e in
        let last : count_by p (x ∷ []) ≡ 1 + count_by p [] = counted p x [] true e in
        let nothing : count_by p [] ≡ 0 = refl in
        omega (arith, in_both p xs (x ∷ []), zero_then, last, nothing)
    from false e =
        let last : count_by p (x ∷ []) ≡ 0 + count_by p [] = counted p x [] false e in
        let nothing : count_by p [] ≡ 0 = refl in
        omega (arith, in_both p xs (x ∷ []), last, nothing)

pub single_joined : (ends : List EndRule) (e : EndRule) (count : ℕ) → any_clashes ends e.0 ≡ false → AreSingle count ends → AreSingle count (ends ++ e ∷ [])
single_joined ends e count h single = (
  λ c below. one_at_most (λ (r : EndRule). lists_number r.0 c) ends e (none_lists ends e.0 c h) (single.0 c below),
  unlisted e h,
)
  where
    unlisted : (e : EndRule) → any_clashes ends e.0 ≡ false → count_by is_unlisted (ends ++ e ∷ []) ≤ 1
    unlisted (None, a) h = one_at_most is_unlisted ends (None, a) (λ k. none_unlisted ends h) single.1
    unlisted (Some cs, a) h = one_at_most is_unlisted ends (Some cs, a) (λ k. no_true k) single.1

pub single_none : (count : ℕ) → AreSingle count []
single_none count = (λ c below. omega arith, omega arith)

-- a rule that clashes with one

some_counted : {A : Type 0} (p : A → Bool) (x : A) (xs : List A) → p x ≡ true → 1 ≤ count_by p (x ∷ xs)
some_counted p x xs e = let is : count_by p (x ∷ xs) ≡ 1 + count_by p xs = counted p x xs true e in omega arith

more_counted : {A : Type 0} (p : A → Bool) (x : A) (xs : List A) → 1 ≤ count_by p xs → 1 ≤ count_by p (x ∷ xs)
more_counted p x xs h = let is : count_by p (x ∷ xs) ≡ cond (p x) 1 0 + count_by p xs = one_more p x xs in omega arith

abbrev Clash : List EndRule → Option (List ℕ) → Type 0
Clash ends ns =
    ((ns ≡ None) × (1 ≤ count_by is_unlisted ends)) ⊎ ((c : ℕ) × (lists_number ns c ≡ true) × (1 ≤ count_by (λ (e : EndRule). lists_number e.0 c) ends))

clash_here : (e : EndRule) (ends : List EndRule) (ns : Option (List ℕ)) → clashes e.0 ns ≡ true → Clash (e ∷ ends) ns
clash_here (None, e) ends None h = inl (refl, some_counted is_unlisted (None, e) ends refl)
clash_here (None, e) ends (Some ds) h = no_true h
clash_here (Some cs, e) ends None h = no_true h
clash_here (Some cs, e) ends (Some ds) h =
    let found = some_passed (λ d. lists_number (Some cs) d) ds h in
    inr (found.0, found.2, some_counted (λ (e : EndRule). lists_number e.0 found.0) (Some cs, e) ends found.1)

clash_later : (e : EndRule) (ends : List EndRule) (ns : Option (List ℕ)) → Clash ends ns → Clash (e ∷ ends) ns
clash_later e ends ns (inl h) = inl (h.0, more_counted is_unlisted e ends h.1)
clash_later e ends ns (inr h) = inr (h.0, h.1, more_counted (λ (e : EndRule). lists_number e.0 h.0) e ends h.2)

some_clash : (ends : List EndRule) (ns : Option (List ℕ)) → any_clashes ends ns ≡ true → Clash ends ns
some_clash [] ns h = no_true h
some_clash (e ∷ ends) ns h = from (clashes e.0 ns) refl (some_clash ends ns) h
  where
    from : (b : Bool) → clashes e.0 ns ≡ b → (any_clashes ends ns ≡ true → Clash ends ns) → (b || any_clashes ends ns) ≡ true → Clash (e ∷ ends) ns
    from true k later m = clash_here e ends ns k
    from false k later m = clash_later e ends ns (later m)

-- the numbers of a list are below the count
number_below : (low n : ℕ) (cs : List ℕ) (c : ℕ) → ascend_from low n cs ≡ true → list_any (λ d. d == c) cs ≡ true → c < n
number_below low n [] c h k = no_true k
number_below low n (d ∷ cs) c h k = from (d == c) refl (number_below (suc d) n cs c one.1) k
  where
    one : ((nat_le low d && nat_lt d n) ≡ true) × (ascend_from (suc d) n cs ≡ true)
    one = and_parts (nat_le low d && nat_lt d n) (ascend_from (suc d) n cs) h

    from : (b : Bool) → (d == c) ≡ b → (list_any (λ d. d == c) cs ≡ true → c < n) → (b || list_any (λ d. d == c) cs) ≡ true → c < n
    from true e later m =
        let same : d ≡ c = eqb-true d c e in
        let less : d < n = ltb-true d n (and_parts (nat_le low d) (nat_lt d n) one.0).1 in
        omega arith
    from false e later m = later m

listed_below : (n : ℕ) (ns : Option (List ℕ)) (c : ℕ) → sound_list n ns ≡ true → lists_number ns c ≡ true → c < n
listed_below n None c h k = no_true k
listed_below n (Some cs) c h k = number_below 0 n cs c h k

two_counted : {A : Type 0} (p : A → Bool) (xs more : List A) (x : A) → p x ≡ true → 1 ≤ count_by p xs → count_by p (xs ++ x ∷ more) ≤ 1 → ⊥
two_counted p xs more x e some few =
    let both : count_by p (xs ++ x ∷ more) ≡ count_by p xs + count_by p (x ∷ more) = in_both p xs (x ∷ more) in
    let next : 1 ≤ count_by p (x ∷ more) = some_counted p x more e in
    omega arith

pub twice_ended : (ends : List EndRule) (e : EndRule) (count : ℕ) (more : List EndRule) → any_clashes ends e.0 ≡ true → sound_list count e.0 ≡ true → AreSingle count (ends ++ e ∷ more) → ⊥
twice_ended ends e count more h ordered single = from (some_clash ends e.0 h)
  where
    none_is : (r : EndRule) → r.0 ≡ None → is_unlisted r ≡ true
    none_is (None, a) k = refl
    none_is (Some cs, a) k = absurd (differ k)
      where
        differ : Some cs ≡ None → ⊥
        differ q = cc

    from : Clash ends e.0 → ⊥
    from (inl k) = two_counted is_unlisted ends more e (none_is e k.0) k.1 single.1
    from (inr k) = two_counted (λ (r : EndRule). lists_number r.0 k.0) ends more e k.1 k.2 (single.0 k.0 (listed_below count e.0 k.0 ordered k.1))

-- the rules that the code keeps, one after another

pub clash_found : (xs : List EndRuleKept) (i : ℕ) (x : EndRuleKept) (ns : Option (List ℕ)) → i < length xs → x ≡ get_or xs i x → clashes (numbers_kept x) ns ≡ true → any_clashes (map end_rule_of (drop i xs)) ns ≡ true
clash_found xs i x ns lt is h =
    let later = any_clashes (map end_rule_of (drop (i + 1) xs)) ns in
    ap (λ z. any_clashes (map end_rule_of z) ns) (drop_more xs i x lt) ∙ ap (λ y. clashes (numbers_kept y) ns || later) (sym is) ∙ ap (λ b. b || later) h

pub clash_past : (xs : List EndRuleKept) (i : ℕ) (ns : Option (List ℕ)) → length xs ≤ i → any_clashes (map end_rule_of (drop i xs)) ns ≡ false
clash_past xs i ns le = ap (λ z. any_clashes (map end_rule_of z) ns) (drop_all i xs le)

-- a list of numbers that was read is in order
numbers_ascend : (k n : ℕ) (test : ℕ → Bool) → ascend_from k (k + n) (listed test k n) ≡ true
numbers_ascend k zero test = refl
numbers_ascend k (suc n) test = from (test k) (ap (λ z. ascend_from (suc k) z (listed test (suc k) n)) ends ∙ numbers_ascend (suc k) n test)
  where
    ends : k + suc n ≡ suc k + n
    ends = omega arith

    from : (b : Bool) → ascend_from (suc k) (k + suc n) (listed test (suc k) n) ≡ true
        → ascend_from k (k + suc n) (cond b (k ∷ listed test (suc k) n) (listed test (suc k) n)) ≡ true
    from true h =
        and_from (nat_le k k && nat_lt k (k + suc n)) (ascend_from (suc k) (k + suc n) (listed test (suc k) n))
        (and_from (nat_le k k) (nat_lt k (k + suc n)) (le-leb k k (omega arith)) (lt-ltb k (k + suc n) (omega arith))) h
    from false h = lower (k + suc n) (listed test (suc k) n) h
      where
        lower : (n : ℕ) (cs : List ℕ) → ascend_from (suc k) n cs ≡ true → ascend_from k n cs ≡ true
        lower n [] h = refl
        lower n (c ∷ cs) h =
            let one = and_parts (nat_le (suc k) c && nat_lt c n) (ascend_from (suc c) n cs) h in
            let two = and_parts (nat_le (suc k) c) (nat_lt c n) one.0 in
            let more : suc k ≤ c = leb-true (suc k) c two.0 in
            and_from (nat_le k c && nat_lt c n) (ascend_from (suc c) n cs) (and_from (nat_le k c) (nat_lt c n) (le-leb k c (omega arith)) two.1) one.1

inner : {a b : Option (List ℕ)} → Some a ≡ Some b → a ≡ b
inner e = cc

from_zero : (n : ℕ) (test : ℕ → Bool) → sound_list n (Some (listed test 0 n)) ≡ true
from_zero n test = let same : 0 + n ≡ n = omega arith in ap (λ z. ascend_from 0 z (listed test 0 n)) (sym same) ∙ numbers_ascend 0 n test

pub numbers_ordered : (number : List ℕ → Option ℕ) (n : ℕ) (asked : Conditions) (numbers : Option (List ℕ)) → numbers_of number n asked ≡ Some numbers → sound_list n numbers ≡ true
numbers_ordered number n unlisted numbers h = ap (sound_list n) (sym (inner h))
numbers_ordered number n every numbers h = ap (sound_list n) (sym (inner h)) ∙ ap (λ l. sound_list n (Some l)) (range_is 0 n) ∙ from_zero n (λ c. true)
numbers_ordered number n (only names) numbers h = from (list_all (λ name. is_some (number name)) names) h
  where
    from : (b : Bool) → (if b then Some (Some (filter (contains (filter_map number names)) (range_with_len 0 n))) else None) ≡ Some numbers → sound_list n numbers ≡ true
    from true e = ap (sound_list n) (sym (inner e)) ∙ ap (λ l. sound_list n (Some l)) (listed_is (contains (filter_map number names)) 0 n) ∙ from_zero n (contains (filter_map number names))
    from false e = absurd (no e)
      where
        no : ◌≡◌ {A = Option (Option (List ℕ))} None (Some numbers) → ⊥
        no p = cc

-- the end of a condition

abbrev action_or : Option EndRule → EndAction
action_or found = unwrap_or (option_map (λ (e : EndRule). e.1) found) (record { print = []; status = 0 })

first_unlisted : (ends : List EndRule) → unlisted_end ends ≡ action_or (find is_unlisted ends)
first_unlisted [] = refl
first_unlisted ((None, e) ∷ ends) = refl
first_unlisted ((Some cs, e) ∷ ends) = first_unlisted ends

listed_of : (all ends : List EndRule) (c : ℕ) → listed_end all ends c ≡ action_or (option_or (find (λ (e : EndRule). lists_number e.0 c) ends) (find is_unlisted all))
listed_of all [] c = first_unlisted all
listed_of all (e ∷ ends) c = from (lists_number e.0 c) (listed_of all ends c)
  where
    from : (b : Bool) → listed_end all ends c ≡ action_or (option_or (find (λ (e : EndRule). lists_number e.0 c) ends) (find is_unlisted all))
        → (if b then e.1 else listed_end all ends c) ≡ action_or (option_or (cond b (Some e) (find (λ (e : EndRule). lists_number e.0 c) ends)) (find is_unlisted all))
    from true later = refl
    from false later = later

pub first_listed : (ends : List EndRule) (c : ℕ) → listed_end ends ends c ≡ end_in ends c
first_listed ends c = listed_of ends ends c
