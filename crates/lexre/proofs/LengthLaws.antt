-- The lengths of the language of a tree.
use Rattle.std.proofs.lemmas.Bool.{cases_lt}
use Rattle.std.proofs.Common.{⊎_elim, ◌≡◌, ℕ, zero, suc, ◌+◌, ◌*◌, ◌^◌, ◌<◌, ◌≤◌, min, max, length, List, [], ◌∷◌, ◌++◌, Option, Some, None, Result, option_map, unwrap_or, IfSome, ◌⊎◌, inl, inr, refl, sym, ap, ◌∙◌, subst, arith, length-append}
use Rattle.std.specs.Prelude.{IsSomeAnd}
use Rattle.std.specs.Result.{OkIff, result_ok}
use Rattle.lex_semantics.specs.Tree.{Tree, Trees, Empty, Set, Cat, Alt, Star, Repeat, no_trees, tree, Iterates, In, InEach, InSome}
use Rattle.lex_semantics.specs.Shapes.{Language, LongestIs, HasLengths, IsSoundTree, AreSoundTrees, HasPart}
use Rattle.lexre_bytes.proofs.Narrowing.{fits, too_large}
use Rattle.lexre.specs.Lengths.{length_sum, larger, lesser, unbounded, length_repeated, least, least_of_each, least_of_some, greatest, greatest_of_each, greatest_of_some, capped, PassesLimit}

-- ---- caps

cap_times : (k n : ℕ) → min (2 ^ 32) (k * min (2 ^ 32) n) ≡ min (2 ^ 32) (k * n)
cap_times k n = grind arith

pub capped_scaled : (k m r : ℕ) (x : Option ℕ) → Some m ≡ option_map capped x → r ≡ min (2 ^ 32) (k * m) → Some r ≡ option_map capped (length_repeated (Some k) x)
capped_scaled k m r None e f = cc
capped_scaled k m r (Some n) e f =
    let here : m ≡ min (2 ^ 32) n = cc in
    ap Some (f ∙ ap (λ y. min (2 ^ 32) (k * y)) here ∙ cap_times k n)

-- ---- languages

-- the same words
same_language : (L M : Language) (m : ℕ) (x : Option ℕ) → ((w : List ℕ) → L w → M w) → ((w : List ℕ) → M w → L w) → HasLengths L m x → HasLengths M m x
same_language L M m x to from h = record {
  shortest = (h.shortest.0, to _ h.shortest.1, h.shortest.2);
  none_shorter = λ w i. h.none_shorter w (from w i);
  longest = long x h.longest;
}
  where
    long : (x : Option ℕ) → LongestIs L x → LongestIs M x
    long None g = λ n. (let v = g n in (v.0, to _ v.1, v.2))
    long (Some n) g = ((g.0.0, to _ g.0.1, g.0.2), λ w i. g.1 w (from w i))

-- a word of the one and then a word of the other
abbrev Both : Language → Language → Language
Both L M w = (u : List ℕ) × (v : List ℕ) × (w ≡ u ++ v) × L u × M v

of_two : (w u v : List ℕ) → w ≡ u ++ v → length w ≡ length u + length v
of_two w u v e = ap length e ∙ length-append u v

both_longest : (L M : Language) (a b : ℕ) (x y : Option ℕ) → HasLengths L a x → HasLengths M b y → LongestIs (Both L M) (length_sum x y)
both_longest L M a b (Some m) (Some n) h k =
    let p = h.longest in
    let q = k.longest in (
      (p.0.0 ++ q.0.0, (p.0.0, q.0.0, refl, p.0.1, q.0.1), omega (arith, of_two (p.0.0 ++ q.0.0) p.0.0 q.0.0 refl, p.0.2, q.0.2)),
      λ w (u, v, e, i, j). omega (arith, of_two w u v e, p.1 u i, q.1 v j),
    )
both_longest L M a b (Some m) None h k =
    λ n. let p = h.shortest in
    let q = k.longest n in
    (p.0 ++ q.0, (p.0, q.0, refl, p.1, q.1), omega (arith, of_two (p.0 ++ q.0) p.0 q.0 refl, q.2))
both_longest L M a b None y h k =
    λ n. let p = h.longest n in
    let q = k.shortest in
    (p.0 ++ q.0, (p.0, q.0, refl, p.1, q.1), omega (arith, of_two (p.0 ++ q.0) p.0 q.0 refl, p.2))

both_lengths : (L M : Language) (a b : ℕ) (x y : Option ℕ) → HasLengths L a x → HasLengths M b y → HasLengths (Both L M) (a + b) (length_sum x y)
both_lengths L M a b x y h k = record {
  shortest = (let p = h.shortest in
      let q = k.shortest in
      (p.0 ++ q.0, (p.0, q.0, refl, p.1, q.1), omega (arith, of_two (p.0 ++ q.0) p.0 q.0 refl, p.2, q.2)));
  none_shorter = λ w (u, v, e, i, j). omega (arith, of_two w u v e, h.none_shorter u i, k.none_shorter v j);
  longest = both_longest L M a b x y h k;
}

abbrev Either : Language → Language → Language
Either L M w = L w ⊎ M w

either_longest : (L M : Language) (x y : Option ℕ) → LongestIs L x → LongestIs M y → LongestIs (Either L M) (larger x y)
either_longest L M (Some m) (Some n) h k = (
  ⊎_elim (λ lt. (k.0.0, inr k.0.1, omega (arith, k.0.2))) (λ le. (h.0.0, inl h.0.1, omega (arith, h.0.2))) (cases_lt m n),
  λ w i. ⊎_elim (λ j. omega (arith, h.1 w j)) (λ j. omega (arith, k.1 w j)) i,
)
either_longest L M (Some m) None h k = λ n. (let v = k n in (v.0, inr v.1, v.2))
either_longest L M None y h k = λ n. (let v = h n in (v.0, inl v.1, v.2))

either_lengths : (L M : Language) (a b : ℕ) (x y : Option ℕ) → HasLengths L a x → HasLengths M b y → HasLengths (Either L M) (min a b) (larger x y)
either_lengths L M a b x y h k = record {
  shortest = ⊎_elim (λ lt. (h.shortest.0, inl h.shortest.1, omega (arith, h.shortest.2))) (λ le. (k.shortest.0, inr k.shortest.1, omega (arith, k.shortest.2))) (cases_lt a b);
  none_shorter = λ w i. ⊎_elim (λ j. omega (arith, h.none_shorter w j)) (λ j. omega (arith, k.none_shorter w j)) i;
  longest = either_longest L M x y h.longest k.longest;
}

-- ---- joinings

at_least : (L : Language) (a : ℕ) → ((w : List ℕ) → L w → a ≤ length w) → (j k : ℕ) (w : List ℕ) → Iterates (λ i. L) j k w → k * a ≤ length w
at_least L a h j zero w e = omega arith
at_least L a h j (suc k) w (u, v, e, i, rest) =
    let here : a ≤ length u = h u i in
    let more : k * a ≤ length v = at_least L a h (suc j) k v rest in
    omega (arith, of_two w u v e)

at_most : (L : Language) (b : ℕ) → ((w : List ℕ) → L w → length w ≤ b) → (j k : ℕ) (w : List ℕ) → Iterates (λ i. L) j k w → length w ≤ k * b
at_most L b h j zero w e = omega (arith, ap length e)
at_most L b h j (suc k) w (u, v, e, i, rest) =
    let here : length u ≤ b = h u i in
    let more : length v ≤ k * b = at_most L b h (suc j) k v rest in
    omega (arith, of_two w u v e)

-- a word as often as one likes
same_joined : (L : Language) (w : List ℕ) → L w → (j k : ℕ) → (v : List ℕ) × Iterates (λ i. L) j k v × (length v ≡ k * length w)
same_joined L w i j zero = ([], refl, omega arith)
same_joined L w i j (suc k) =
    let (v, joined, e) = same_joined L w i (suc j) k in
    (w ++ v, (w, v, refl, i, joined), of_two (w ++ v) w v refl ∙ omega (arith, e))

-- from least to most words
abbrev Several : Language → ℕ → Option ℕ → Language
Several L least most w = (k : ℕ) × (least ≤ k) × IfSome most (λ n. k ≤ n) × Iterates (λ i. L) 0 k w

several_of : (L : Language) (least : ℕ) (most : Option ℕ) (w : List ℕ) → L w → (k : ℕ) → least ≤ k → IfSome most (λ n. k ≤ n) → (v : List ℕ) × Several L least most v × (length v ≡ k * length w)
several_of L least most w i k low high = (let (v, joined, e) = same_joined L w i 0 k in (v, (k, low, high, joined), e))

fits_below : (least : ℕ) (most : Option ℕ) → IfSome most (λ n. (least ≤ n) × (1 ≤ n)) → IfSome most (λ n. least ≤ n)
fits_below least None h = tt
fits_below least (Some n) h = h.0

times_more : (k a n : ℕ) → a ≤ n → k * a ≤ k * n
times_more k a n h = grind arith

times_less : (m k a : ℕ) → m ≤ k → m * a ≤ k * a
times_less m k a h = grind arith

several_longest : (L : Language) (a least : ℕ) (most x : Option ℕ) → IfSome most (λ n. (least ≤ n) × (1 ≤ n)) → HasLengths L a x → LongestIs (Several L least most) (length_repeated most x)
several_longest L a least None None ok h = λ n.
    let w = h.longest n in
    let v = several_of L least None w.0 w.1 (suc least) (omega arith) tt in
    (v.0, v.1, omega (arith, v.2, w.2, times_less 1 (suc least) (length w.0) (omega arith)))
several_longest L a least None (Some zero) ok h =
    let w = h.longest.0 in
    let v = several_of L least None w.0 w.1 least (omega arith) tt in (
      (v.0, v.1, omega (arith, v.2 ∙ ap (λ y. least * y) w.2)),
      λ u (k, low, high, joined). omega (arith, at_most L 0 h.longest.1 0 k u joined),
    )
several_longest L a least None (Some (suc b)) ok h = λ n.
    let w = h.longest.0 in
    let v = several_of L least None w.0 w.1 (least + suc n) (omega arith) tt in
    (v.0, v.1, omega (arith, v.2 ∙ ap (λ y. (least + suc n) * y) w.2, times_more (least + suc n) 1 (suc b) (omega arith)))
several_longest L a least (Some m) None ok h = λ n.
    let w = h.longest n in
    let v = several_of L least (Some m) w.0 w.1 m ok.0 (omega arith) in
    (v.0, v.1, omega (arith, v.2, w.2, times_less 1 m (length w.0) ok.1))
several_longest L a least (Some m) (Some b) ok h =
    let w = h.longest.0 in
    let v = several_of L least (Some m) w.0 w.1 m ok.0 (omega arith) in (
      (v.0, v.1, v.2 ∙ ap (λ y. m * y) w.2),
      λ u (k, low, high, joined). omega (arith, at_most L b h.longest.1 0 k u joined, times_less k m b high),
    )

several_lengths : (L : Language) (a least : ℕ) (most x : Option ℕ) → IfSome most (λ n. (least ≤ n) × (1 ≤ n)) → HasLengths L a x → HasLengths (Several L least most) (least * a) (length_repeated most x)
several_lengths L a least most x ok h = record {
  shortest = (let w = h.shortest in
      let v = several_of L least most w.0 w.1 least (omega arith) (fits_below least most ok) in
      (v.0, v.1, v.2 ∙ ap (λ y. least * y) w.2));
  none_shorter = λ u (k, low, high, joined). omega (arith, at_least L a h.none_shorter 0 k u joined, times_less least k a low);
  longest = several_longest L a least most x ok h;
}

along_least : (L : Language) (m n : ℕ) (x : Option ℕ) → m ≡ n → HasLengths L m x → HasLengths L n x
along_least L m n x e h = let P : ℕ → Type 0 = λ k. HasLengths L k x in subst P e h

-- ---- trees

empty_lengths : HasLengths (In Empty) 0 (Some 0)
empty_lengths = record {
  shortest = ([], refl, refl);
  none_shorter = λ w e. omega arith;
  longest = (([], refl, refl), λ w e. omega (arith, ap length e));
}

set_lengths : (s : ℕ) → IsSoundTree (Set s) → HasLengths (In (Set s)) 1 (Some 1)
set_lengths s (b, here) = record {
  shortest = (b ∷ [], (b, refl, here), refl);
  none_shorter = λ w (c, e, i). omega (arith, ap length e);
  longest = ((b ∷ [], (b, refl, here), refl), λ w (c, e, i). omega (arith, ap length e));
}

larger_zero : (x : Option ℕ) → larger x (Some 0) ≡ x
larger_zero None = refl
larger_zero (Some m) = ap Some (omega arith)

lesser_min : (a b : ℕ) (x : Option ℕ) → unwrap_or (lesser (Some a) (lesser (Some b) x)) 0 ≡ min a (unwrap_or (lesser (Some b) x) 0)
lesser_min a b None = refl
lesser_min a b (Some c) = refl

some_step : (t : Tree) (ts : Trees) → HasLengths (In t) (least t) (greatest t)
    → (HasPart ts → HasLengths (InSome ts) (unwrap_or (least_of_some ts) 0) (greatest_of_some ts))
    → HasLengths (InSome (tree t ts)) (unwrap_or (least_of_some (tree t ts)) 0) (larger (greatest t) (greatest_of_some ts))
some_step t no_trees h rest =
    let P : Option ℕ → Type 0 = λ x. HasLengths (InSome (tree t no_trees)) (least t) x in
    subst P (sym (larger_zero (greatest t)))
    (same_language (In t) (InSome (tree t no_trees)) (least t) (greatest t) (λ w i. inl i) (λ w i. ⊎_elim (λ j. j) (λ j. absurd j) i) h)
some_step t (tree s ss) h rest =
    along_least (InSome (tree t (tree s ss))) (min (least t) (unwrap_or (least_of_some (tree s ss)) 0)) (unwrap_or (least_of_some (tree t (tree s ss))) 0) (larger (greatest t) (larger (greatest s) (greatest_of_some ss)))
    (sym (lesser_min (least t) (least s) (least_of_some ss)))
    (either_lengths (In t) (InSome (tree s ss)) (least t) (unwrap_or (least_of_some (tree s ss)) 0) (greatest t) (larger (greatest s) (greatest_of_some ss)) h (rest (λ e. cc)))

mutual
  pub has_lengths : (t : Tree) → IsSoundTree t → HasLengths (In t) (least t) (greatest t)
  has_lengths Empty sound = empty_lengths
  has_lengths (Set s) sound = set_lengths s sound
  has_lengths (Cat ts) sound = each_lengths ts sound.0
  has_lengths (Alt ts) sound = some_lengths ts sound.0 sound.1
  has_lengths (Star t) sound =
      same_language (Several (In t) 0 None) (In (Star t)) 0 (unbounded (greatest t))
      (λ w (k, low, high, joined). (k, joined)) (λ w (k, joined). (k, omega arith, tt, joined))
      (along_least (Several (In t) 0 None) (0 * least t) 0 (unbounded (greatest t)) (omega arith)
      (several_lengths (In t) (least t) 0 None (greatest t) tt (has_lengths t sound)))
  has_lengths (Repeat t m n) sound = several_lengths (In t) (least t) m n (greatest t) sound.1 (has_lengths t sound.0)

  each_lengths : (ts : Trees) → AreSoundTrees ts → HasLengths (InEach ts) (least_of_each ts) (greatest_of_each ts)
  each_lengths no_trees sound = empty_lengths
  each_lengths (tree t ts) sound =
      both_lengths (In t) (InEach ts) (least t) (least_of_each ts) (greatest t) (greatest_of_each ts) (has_lengths t sound.0) (each_lengths ts sound.1)

  some_lengths : (ts : Trees) → AreSoundTrees ts → HasPart ts → HasLengths (InSome ts) (unwrap_or (least_of_some ts) 0) (greatest_of_some ts)
  some_lengths no_trees sound some = absurd (some refl)
  some_lengths (tree t ts) sound some = some_step t ts (has_lengths t sound.0) (some_lengths ts sound.1)

-- ---- answers from caps

none_is : (x : Option ℕ) → None ≡ option_map capped x → None ≡ x
none_is None e = refl
none_is (Some n) e = cc

some_is : (x : Option ℕ) (m : ℕ) → Some m ≡ option_map capped x → m < 2 ^ 32 → Some m ≡ x
some_is None m e h = cc
some_is (Some n) m e h = let f : m ≡ min (2 ^ 32) n = cc in ap Some (omega (arith, f))

some_passes : (x : Option ℕ) (m : ℕ) → Some m ≡ option_map capped x → 2 ^ 32 ≤ m → IsSomeAnd x (λ k. 2 ^ 32 ≤ k)
some_passes None m e h = absurd (none_some m e)
  where
    none_some : (m : ℕ) → Some m ≡ None → ⊥
    none_some m e = cc
some_passes (Some n) m e h = let f : m ≡ min (2 ^ 32) n = cc in omega (arith, f)

pub passes_by_least : {E : Type 0} (t : Tree) → IsSoundTree t → (r : Result ℕ E) (l : ℕ) → l ≡ capped (least t) → OkIff r (l < 2 ^ 32) l → None ≡ result_ok r → PassesLimit t
passes_by_least t sound r l e h k = (least t, greatest t, has_lengths t sound, inl (omega (arith, e, too_large (2 ^ 32) r l h k)))

pub passes_by_greatest : {E : Type 0} (t : Tree) → IsSoundTree t → (r : Result ℕ E) (m : ℕ) → Some m ≡ option_map capped (greatest t) → OkIff r (m < 2 ^ 32) m → None ≡ result_ok r → PassesLimit t
passes_by_greatest t sound r m e h k = (least t, greatest t, has_lengths t sound, inr (some_passes (greatest t) m e (too_large (2 ^ 32) r m h k)))

lengths_are : (t : Tree) → IsSoundTree t → (l : ℕ) (x : Option ℕ) → l ≡ least t → x ≡ greatest t → HasLengths (In t) l x
lengths_are t sound l x e f = rw (e, f) (has_lengths t sound)

least_is : {E : Type 0} (r : Result ℕ E) (n l min : ℕ) → l ≡ capped n → OkIff r (l < 2 ^ 32) l → Some min ≡ result_ok r → min ≡ n
least_is r n l min e h k = let p = fits (2 ^ 32) r l min h k in omega (arith, e, p.0, p.1)

pub found_unbounded : {E : Type 0} (t : Tree) → IsSoundTree t → (r : Result ℕ E) (l min : ℕ) → l ≡ capped (least t) → OkIff r (l < 2 ^ 32) l → Some min ≡ result_ok r
    → None ≡ option_map capped (greatest t) → HasLengths (In t) min None
found_unbounded t sound r l min e h k f = lengths_are t sound min None (least_is r (least t) l min e h k) (none_is (greatest t) f)

pub found_bounded : {D E : Type 0} (t : Tree) → IsSoundTree t → (r : Result ℕ D) (l min : ℕ) → l ≡ capped (least t) → OkIff r (l < 2 ^ 32) l → Some min ≡ result_ok r
    → (q : Result ℕ E) (g max : ℕ) → Some g ≡ option_map capped (greatest t) → OkIff q (g < 2 ^ 32) g → Some max ≡ result_ok q → HasLengths (In t) min (Some max)
found_bounded t sound r l min e h k q g max f i j =
    let p = fits (2 ^ 32) q g max i j in
    lengths_are t sound min (Some max) (least_is r (least t) l min e h k) (ap Some p.1 ∙ some_is (greatest t) g f p.0)
