-- What lines declare: names that are distinct, and limits.
use Rattle.std.proofs.Common.{◌≡◌, ℕ, suc, inl, inr, ◌+◌, ◌||◌, Bool, true, false, not, List, [], ◌∷◌, ◌++◌, map, length, Some, is_some, refl, sym, ap, ◌∙◌, arith}
use Rattle.std.specs.Prelude.{◌≢◌, ◌⊎◌, nat_eq, if◌then◌else◌}
use Rattle.lex_semantics.specs.Text.{Among, Pairwise}
use Rattle.std.proofs.lemmas.Bool.{and_parts, and_from, or_parts, eq-eqb, eqb-true}
use Rattle.std.proofs.lemmas.List.{map-append, length-map, append_assoc}
use Rattle.std.proofs.lemmas.List.Folds.{list_any-append}
use Rattle.lex_semantics.specs.ByteSets.{same_bytes}
use Rattle.lexspec_actions.specs.Names.{number_from}
use Rattle.lexspec_actions.specs.Names as A
use Rattle.lexspec_actions.specs.declared.condition.Condition.{Condition}
use Rattle.lexspec_lines.specs.DefinitionLines.{has_name}
use Rattle.lexspec_lines.specs.Declaring.{Declared, names_of, are_distinct}
use Rattle.lexspec_lines.specs.Declaring.{declared_of, with_kind, AreGood}
use Rattle.lexspec_lines.proofs.OneSection.{no_true}
use Rattle.lex_semantics.specs.Limits.{max_conditions}

pub word_same : (w : List ℕ) → same_bytes w w ≡ true
word_same [] = refl
word_same (b ∷ w) = and_from (nat_eq b b) (same_bytes w w) (eq-eqb b b refl) (word_same w)

pub word_is : (v w : List ℕ) → same_bytes v w ≡ true → v ≡ w
word_is [] [] h = refl
word_is [] (c ∷ w) h = no_true h
word_is (b ∷ v) [] h = no_true h
word_is (b ∷ v) (c ∷ w) h =
    let p = and_parts (nat_eq b c) (same_bytes v w) h in
    ap (λ z. z ∷ v) (eqb-true b c p.0) ∙ ap (λ z. c ∷ z) (word_is v w p.1)

-- two words that differ, either way round
pub word_other : (v w : List ℕ) → same_bytes v w ≡ false → same_bytes w v ≡ false
word_other v w h = from (same_bytes w v) refl
  where
    from : (b : Bool) → same_bytes w v ≡ b → same_bytes w v ≡ false
    from false e = e
    from true e = no_true (sym h ∙ ap (same_bytes v) (word_is w v e) ∙ word_same v)

pub has_append : (ms ns : List (List ℕ)) (n : List ℕ) → has_name (ms ++ ns) n ≡ (has_name ms n || has_name ns n)
has_append ms ns n = list_any-append (λ m. same_bytes m n) ms ns

or_false : (x y : Bool) → x ≡ false → y ≡ false → (x || y) ≡ false
or_false x y e f = ap (λ z. z || y) e ∙ f

or_right : (x : Bool) → (x || true) ≡ true
or_right true = refl
or_right false = refl

pub distinct_push : (ns : List (List ℕ)) (n : List ℕ) → are_distinct ns ≡ true → has_name ns n ≡ false → are_distinct (ns ++ n ∷ []) ≡ true
distinct_push [] n h k = refl
distinct_push (m ∷ ns) n h k =
    let parts = and_parts (not (has_name ns m)) (are_distinct ns) h in
    let others = or_parts (same_bytes m n) (has_name ns n) k in
    let once : has_name (ns ++ n ∷ []) m ≡ false =
    has_append ns (n ∷ []) m ∙ or_false (has_name ns m) (same_bytes n m || false) (turned (has_name ns m) parts.0) (or_false (same_bytes n m) false (word_other m n others.0) refl) in
    and_from (not (has_name (ns ++ n ∷ []) m)) (are_distinct (ns ++ n ∷ [])) (ap not once) (distinct_push ns n parts.1 others.1)
  where
    turned : (b : Bool) → not b ≡ true → b ≡ false
    turned false e = refl
    turned true e = no_true e

pub distinct_taken : (ns more : List (List ℕ)) (n : List ℕ) → has_name ns n ≡ true → are_distinct (ns ++ n ∷ more) ≡ true → ⊥
distinct_taken [] more n h k = no_true h
distinct_taken (m ∷ ns) more n h k = from (same_bytes m n) refl (distinct_taken ns more n)
  where
    turned : (b : Bool) → b ≡ true → not b ≡ true → ⊥
    turned b e f = no_true (sym (ap not e) ∙ f)

    from : (b : Bool) → same_bytes m n ≡ b → (has_name ns n ≡ true → are_distinct (ns ++ n ∷ more) ≡ true → ⊥) → ⊥
    from true e later =
        let here : has_name (ns ++ n ∷ more) m ≡ true =
        has_append ns (n ∷ more) m ∙ ap (λ z. has_name ns m || (z || has_name more m)) (ap (λ z. same_bytes z m) (sym (word_is m n e)) ∙ word_same m) ∙ or_right (has_name ns m) in
        turned (has_name (ns ++ n ∷ more) m) here (and_parts (not (has_name (ns ++ n ∷ more) m)) (are_distinct (ns ++ n ∷ more)) k).0
    from false e later =
        later (sym (ap (λ z. z || has_name ns n) e) ∙ h) (and_parts (not (has_name (ns ++ n ∷ more) m)) (are_distinct (ns ++ n ∷ more)) k).1

-- the test that no name stands twice
not_among : (ns : List (List ℕ)) (n : List ℕ) → has_name ns n ≡ false → (m : List ℕ) → Among ns m → n ≡ m → ⊥
not_among [] n none m h e = h
not_among (l ∷ ns) n none m h e = from (same_bytes l n) refl none (λ k at. not_among ns n k m at e) h
  where
    from : (b : Bool) → same_bytes l n ≡ b → (b || has_name ns n) ≡ false → (has_name ns n ≡ false → Among ns m → ⊥) → (m ≡ l) ⊎ Among ns m → ⊥
    from true here k later at = no_true (sym k)
    from false here k later (inl at) = no_true (sym here ∙ ap (same_bytes l) (e ∙ at) ∙ word_same l)
    from false here k later (inr at) = later k at

no_name : (ns : List (List ℕ)) (n : List ℕ) → ((m : List ℕ) → Among ns m → n ≡ m → ⊥) → has_name ns n ≡ false
no_name [] n none = refl
no_name (l ∷ ns) n none = from (same_bytes l n) refl (no_name ns n (λ m at. none m (inr at)))
  where
    from : (b : Bool) → same_bytes l n ≡ b → has_name ns n ≡ false → (b || has_name ns n) ≡ false
    from true here later = absurd (none l (inl refl) (sym (word_is l n here)))
    from false here later = later

pub test_distinct : (ns : List (List ℕ)) → are_distinct ns ≡ true → Pairwise ◌≢◌ ns
test_distinct [] h = tt
test_distinct (n ∷ ns) h =
    let parts = and_parts (not (has_name ns n)) (are_distinct ns) h in
    (not_among ns n (turned (has_name ns n) parts.0), test_distinct ns parts.1)
  where
    turned : (b : Bool) → not b ≡ true → b ≡ false
    turned false e = refl
    turned true e = no_true e

pub distinct_test : (ns : List (List ℕ)) → Pairwise ◌≢◌ ns → are_distinct ns ≡ true
distinct_test [] h = refl
distinct_test (n ∷ ns) (out, later) = and_from (not (has_name ns n)) (are_distinct ns) (ap not (no_name ns n out)) (distinct_test ns later)

-- the names of the conditions that the code keeps
pub names_kept : (cs : List Condition) → names_of (map declared_of cs) ≡ A.names_of cs
names_kept [] = refl
names_kept (c ∷ cs) = ap (λ ns. c.name.items ∷ ns) (names_kept cs)

-- a condition has a number exactly if its name is there
pub numbered : (k : ℕ) (ns : List (List ℕ)) (n : List ℕ) → is_some (number_from k ns n) ≡ has_name ns n
numbered k [] n = refl
numbered k (m ∷ ns) n = elim (same_bytes m n) as (λ b. is_some (if b then Some k else number_from (suc k) ns n) ≡ (b || has_name ns n)) [
  | true ↦ refl
  | false ↦ numbered (suc k) ns n
]

pub has_number : (cs : List Condition) (name : List ℕ) (b : Bool) → b ≡ is_some (number_from 0 (A.names_of cs) name) → has_name (names_of (map declared_of cs)) name ≡ b
has_number cs name b e = ap (λ ns. has_name ns name) (names_kept cs) ∙ sym (numbered 0 (A.names_of cs) name) ∙ sym e

-- one name more

pub push_good : (cs new : List Condition) (c : Condition) (d : Declared) → new ≡ cs ++ c ∷ [] → declared_of c ≡ d → AreGood (map declared_of cs)
    → has_name (names_of (map declared_of cs)) d.1 ≡ false → (length cs ≡ max_conditions → ⊥) → AreGood (map declared_of new)
push_good cs new c d e is good free room =
    let same : map declared_of new ≡ map declared_of cs ++ d ∷ [] = ap (map declared_of) e ∙ map-append declared_of cs (c ∷ []) ∙ ap (λ z. map declared_of cs ++ z ∷ []) is in
    let names : names_of (map declared_of new) ≡ names_of (map declared_of cs) ++ d.1 ∷ [] = ap names_of same ∙ map-append (λ (z : Declared). z.1) (map declared_of cs) (d ∷ []) in
    let long : length (map declared_of new) ≡ length (map declared_of cs) + 1 = ap length same ∙ length_push (map declared_of cs) d in
    (ap are_distinct names ∙ distinct_push (names_of (map declared_of cs)) d.1 good.0 free, omega (arith, good.1, length-map cs declared_of))
  where
    length_push : (xs : List Declared) (x : Declared) → length (xs ++ x ∷ []) ≡ length xs + 1
    length_push [] x = refl
    length_push (y ∷ xs) x = let later = length_push xs x in omega arith

pub push_same : (cs new : List Condition) (c : Condition) (exclusive : Bool) (name : List ℕ) (all ws : List (List ℕ)) (whole : List Declared) → new ≡ cs ++ c ∷ []
    → declared_of c ≡ (exclusive, name) → all ≡ name ∷ ws → map declared_of cs ++ with_kind exclusive all ≡ whole → map declared_of new ++ with_kind exclusive ws ≡ whole
push_same cs new c exclusive name all ws whole e is first same =
    ap (λ z. map declared_of z ++ with_kind exclusive ws) e ∙ ap (λ z. z ++ with_kind exclusive ws) (map-append declared_of cs (c ∷ []))
    ∙ append_assoc (map declared_of cs) (declared_of c ∷ []) (with_kind exclusive ws) ∙ ap (λ z. map declared_of cs ++ z ∷ with_kind exclusive ws) is
    ∙ ap (λ z. map declared_of cs ++ with_kind exclusive z) (sym first) ∙ same

pub push_taken : (cs : List Condition) (exclusive : Bool) (name : List ℕ) (all ws : List (List ℕ)) (whole more : List Declared)
    → all ≡ name ∷ ws → map declared_of cs ++ with_kind exclusive all ≡ whole → has_name (names_of (map declared_of cs)) name ≡ true → AreGood (whole ++ more) → ⊥
push_taken cs exclusive name all ws whole more first same taken good =
    let one : whole ++ more ≡ map declared_of cs ++ ((exclusive, name) ∷ (with_kind exclusive ws ++ more)) =
    ap (λ z. z ++ more) (sym same ∙ ap (λ z. map declared_of cs ++ with_kind exclusive z) first) ∙ append_assoc (map declared_of cs) (with_kind exclusive (name ∷ ws)) more in
    let names : names_of (whole ++ more) ≡ names_of (map declared_of cs) ++ name ∷ names_of (with_kind exclusive ws ++ more) =
    ap names_of one ∙ map-append (λ (z : Declared). z.1) (map declared_of cs) ((exclusive, name) ∷ (with_kind exclusive ws ++ more)) in
    distinct_taken (names_of (map declared_of cs)) (names_of (with_kind exclusive ws ++ more)) name taken (sym (ap are_distinct names) ∙ good.0)
