-- Trees all of whose words have one length.
use Rattle.std.proofs.Common.{◌≡◌, ℕ, zero, suc, ◌+◌, ◌*◌, ◌<◌, ◌≤◌, max, min, length, List, map, drop, get_or, Option, Some, None, option_map, unwrap_or, IfSome, ◌⊎◌, inl, inr, refl, sym, ap, ◌∙◌, subst, arith}
use Rattle.std.proofs.lemmas.List.{drop_more, drop_all}
use Rattle.lex_semantics.specs.Limits.{max_fixed_length}
use Rattle.lex_semantics.specs.Shapes.{LongestIs, HasLengths, IsSoundTree, AreSoundTrees, HasPart}
use Rattle.lex_semantics.specs.Tree.{Tree, Trees, Cat, Alt, Repeat, no_trees, tree, trees, In}
use Rattle.lexre.specs.Lengths.{length_sum, larger, lesser, unbounded, least, least_of_each, least_of_some, greatest, greatest_of_each, greatest_of_some}
use Rattle.lexre.proofs.LengthLaws.{has_lengths}
use Rattle.lex_semantics.proofs.Cuts.{fixed_lengths, lengths_fixed}
use Rattle.lex_semantics.specs.Sound.{HasFixed}
use Rattle.lexspec.specs.Fixed.{HasOne, JoinHasOne, AllHaveOne, TellsLength}
use Rattle.lexspec.proofs.CutLaws.{one_least, one_longest}
use Rattle.std.specs.Prelude.{IfNone}

-- the least length is at most the greatest
in_order : (t : Tree) → IsSoundTree t → (n : ℕ) → greatest t ≡ Some n → least t ≤ n
in_order t sound n e =
    let has = has_lengths t sound in
    let longest : LongestIs (In t) (Some n) = subst (LongestIs (In t)) e has.longest in
    let low : least t ≤ length longest.0.0 = has.none_shorter longest.0.0 longest.0.1 in
    omega (arith, longest.0.2)

-- ---- trees one after another

join_in_order : (ts : Trees) → AreSoundTrees ts → (n : ℕ) → greatest_of_each ts ≡ Some n → least_of_each ts ≤ n
join_in_order no_trees sound n e = omega arith
join_in_order (tree t ts) sound n e = in_order (Cat (tree t ts)) (sound, λ e. cc) n e

plus_parts : (x y : Option ℕ) (n : ℕ) → length_sum x y ≡ Some n → (a : ℕ) × (b : ℕ) × (x ≡ Some a) × (y ≡ Some b) × (a + b ≡ n)
plus_parts (Some a) (Some b) n e = (let f : a + b ≡ n = cc in (a, b, refl, refl, f))
plus_parts (Some a) None n e = cc
plus_parts None y n e = cc

pub join_split : (t : Tree) (ts : Trees) → IsSoundTree t → AreSoundTrees ts → (n : ℕ) → JoinHasOne (tree t ts) n
    → (a : ℕ) × (b : ℕ) × HasOne t a × JoinHasOne ts b × (a + b ≡ n)
join_split t ts sound rest n (l, g) =
    let p = plus_parts (greatest t) (greatest_of_each ts) n g in
    let low : least t ≤ p.0 = in_order t sound p.0 p.2 in
    let others : least_of_each ts ≤ p.1 = join_in_order ts rest p.1 p.3 in
    let first : least t ≡ p.0 = omega (arith, l, p.4) in
    let second : least_of_each ts ≡ p.1 = omega (arith, l, p.4) in
    (p.0, p.1, (first, p.2), (second, p.3), p.4)

pub join_more : (t : Tree) (ts : Trees) (a b : ℕ) → HasOne t a → JoinHasOne ts b → JoinHasOne (tree t ts) (a + b)
join_more t ts a b (l, g) (m, h) = (rw (l, m) refl, rw (g, h) refl)

-- ---- one of some trees

larger_parts : (x y : Option ℕ) (n : ℕ) → larger x y ≡ Some n → (a : ℕ) × (b : ℕ) × (x ≡ Some a) × (y ≡ Some b) × (max a b ≡ n)
larger_parts (Some a) (Some b) n e = (let f : max a b ≡ n = cc in (a, b, refl, refl, f))
larger_parts (Some a) None n e = cc
larger_parts None y n e = cc

least_of_two : (a b : ℕ) (x : Option ℕ) → unwrap_or (lesser (Some a) (lesser (Some b) x)) 0 ≡ min a (unwrap_or (lesser (Some b) x) 0)
least_of_two a b None = refl
least_of_two a b (Some c) = refl

pub all_of_some : (ts : Trees) → AreSoundTrees ts → HasPart ts → (n : ℕ) → HasOne (Alt ts) n → AllHaveOne ts n
all_of_some no_trees sound some n h = absurd (some refl)
all_of_some (tree t no_trees) sound some n (l, g) =
    let p = larger_parts (greatest t) (Some 0) n g in
    let zero_is : p.1 ≡ 0 = (let f : Some 0 ≡ Some p.1 = p.3 in cc) in
    let same : p.0 ≡ n = omega (arith, p.4) in
    ((l, p.2 ∙ ap Some same), tt)
all_of_some (tree t (tree s ss)) sound some n (l, g) =
    let p = larger_parts (greatest t) (greatest_of_some (tree s ss)) n g in
    let rest = unwrap_or (least_of_some (tree s ss)) 0 in
    let lower : min (least t) rest ≡ n = sym (least_of_two (least t) (least s) (least_of_some ss)) ∙ l in
    let low : least t ≤ p.0 = in_order t sound.0 p.0 p.2 in
    let others : rest ≤ p.1 = in_order (Alt (tree s ss)) (sound.1, λ e. cc) p.1 p.3 in
    let first : p.0 ≡ n = omega (arith, p.4) in
    let second : p.1 ≡ n = omega (arith, p.4) in
    let one : least t ≡ n = omega (arith, p.4) in
    let two : rest ≡ n = omega (arith, p.4) in
    ((one, p.2 ∙ ap Some first), all_of_some (tree s ss) sound.1 (λ e. cc) n (two, p.3 ∙ ap Some second))

pub some_of_all : (ts : Trees) → HasPart ts → (n : ℕ) → AllHaveOne ts n → HasOne (Alt ts) n
some_of_all no_trees some n h = absurd (some refl)
some_of_all (tree t no_trees) some n h = (h.0.0, ap (λ x. larger x (Some 0)) h.0.1 ∙ ap Some (omega arith))
some_of_all (tree t (tree s ss)) some n h =
    let rest = some_of_all (tree s ss) (λ e. cc) n h.1 in
    let least_is : min (least t) (unwrap_or (least_of_some (tree s ss)) 0) ≡ n = omega (arith, h.0.0, rest.0) in
    (least_of_two (least t) (least s) (least_of_some ss) ∙ least_is, ap (λ x. larger x (greatest_of_some (tree s ss))) h.0.1 ∙ ap (larger (Some n)) rest.1 ∙ ap Some (omega arith))

-- ---- copies

times_more : (k a n : ℕ) → a ≤ n → k * a ≤ k * n
times_more k a n h = grind arith

times_less : (m k a : ℕ) → m ≤ k → m * a ≤ k * a
times_less m k a h = grind arith

unbounded_is : (x : Option ℕ) (n : ℕ) → unbounded x ≡ Some n → (x ≡ Some 0) × (n ≡ 0)
unbounded_is (Some zero) n e = (refl, cc)
unbounded_is (Some (suc a)) n e = cc
unbounded_is None n e = cc

scaled_is : (k : ℕ) (x : Option ℕ) (n : ℕ) → option_map (λ a. k * a) x ≡ Some n → (a : ℕ) × (x ≡ Some a) × (k * a ≡ n)
scaled_is k (Some a) n e = (let f : k * a ≡ n = cc in (a, refl, f))
scaled_is k None n e = cc

same_factor : (m l k g : ℕ) → l ≤ g → m ≤ k → 1 ≤ k → m * l ≡ k * g → l ≡ g
same_factor m l k g low bounds some e = elim (let d : (l < g) ⊎ (l ≡ g) = grind arith in d) [
  | inl lt ↦ (let p = times_less m k l bounds in
      let q = times_more k (l + 1) g (omega arith) in
      let r : k * (l + 1) ≡ k * l + k = omega arith in
      absurd (omega (arith, p, q, r, e)))
  | inr same ↦ same
]

above : (k g : ℕ) → 1 ≤ k → g ≤ k * g
above k g h = let p = times_less 1 k g h in omega (arith, p)

copy_has_one : (t : Tree) → IsSoundTree t → (m : ℕ) (k : Option ℕ) → IfSome k (λ n. (m ≤ n) × (1 ≤ n)) → (n : ℕ) → HasOne (Repeat t m k) n
    → (a : ℕ) × HasOne t a × (a ≤ n)
copy_has_one t sound m None bounds n (l, g) =
    let u = unbounded_is (greatest t) n g in
    let low : least t ≤ 0 = in_order t sound 0 u.0 in
    (0, (omega arith, u.0), omega arith)
copy_has_one t sound m (Some k) bounds n (l, g) =
    let s = scaled_is k (greatest t) n g in
    let low : least t ≤ s.0 = in_order t sound s.0 s.1 in
    let e : m * least t ≡ k * s.0 = l ∙ sym s.2 in
    let h = above k s.0 bounds.1 in
    (s.0, (same_factor m (least t) k s.0 low bounds.0 bounds.1 e, s.1), omega (arith, h, s.2))

module _ (t : Tree) (sound : IsSoundTree t) (m : ℕ) where
  pub none_of_none : (k : Option ℕ) → IfSome k (λ n. (m ≤ n) × (1 ≤ n)) → TellsLength (HasOne t) None → TellsLength (HasOne (Repeat t m k)) None
  none_of_none k bounds none = λ n h few. (let c = copy_has_one t sound m k bounds n h in none c.0 c.1 (omega (arith, c.2, few)))

pub tells_some : (ts : Trees) → AreSoundTrees ts → HasPart ts → (r : Option ℕ) → TellsLength (AllHaveOne ts) r → TellsLength (HasOne (Alt ts)) r
tells_some ts sound some (Some n) (h, few) = (some_of_all ts some n h, few)
tells_some ts sound some None none = λ n h few. none n (all_of_some ts sound some n h) few

-- ---- what is left of a list

pub rest_one : {A : Type 0} (f : A → Tree) (xs : List A) (i : ℕ) (x : A) → i < length xs → x ≡ get_or xs i x
    → trees (map f (drop i xs)) ≡ tree (f x) (trees (map f (drop (i + 1) xs)))
rest_one f xs i x h e = ap (λ ys. trees (map f ys)) (drop_more xs i x h) ∙ ap (λ z. tree (f z) (trees (map f (drop (i + 1) xs)))) (sym e)

pub rest_none : {A : Type 0} (f : A → Tree) (xs : List A) (i : ℕ) → length xs ≤ i → trees (map f (drop i xs)) ≡ no_trees
rest_none f xs i h = ap (λ ys. trees (map f ys)) (drop_all i xs h)

-- ---- a loop over trees

module _ (all : Trees) (t : Tree) (ts : Trees) (total : ℕ) (sound : AreSoundTrees (tree t ts))
    (split : (n : ℕ) → JoinHasOne all n → (m : ℕ) × JoinHasOne (tree t ts) m × (total + m ≡ n)) where
  pub no_length_joined : TellsLength (HasOne t) None → TellsLength (JoinHasOne all) None
  no_length_joined none = λ n h few.
      let s = split n h in
      let p = join_split t ts sound.0 sound.1 s.0 s.1 in
      none p.0 p.2 (omega (arith, p.4, s.2, few))

  pub too_long_joined : (one : ℕ) → HasOne t one → max_fixed_length < total + one → TellsLength (JoinHasOne all) None
  too_long_joined one is long = λ n h few.
      let s = split n h in
      let p = join_split t ts sound.0 sound.1 s.0 s.1 in
      let same : p.0 ≡ one = sym p.2.0 ∙ is.0 in
      omega (arith, same, p.4, s.2, few, long)

module _ (all : Trees) (t : Tree) (ts : Trees) (found : Option ℕ)
    (whole : found ≡ None → tree t ts ≡ all)
    (one : (m n : ℕ) → found ≡ Some m → AllHaveOne all n → (n ≡ m) × AllHaveOne (tree t ts) n) where
  -- what all have, this one has too
  has_too : (o : Option ℕ) → found ≡ o → (n : ℕ) → AllHaveOne all n → AllHaveOne (tree t ts) n
  has_too None e n h = subst (λ (us : Trees). AllHaveOne us n) (sym (whole e)) h
  has_too (Some m) e n h = (one m n e h).1

  pub rest_has : (n : ℕ) → AllHaveOne all n → AllHaveOne (tree t ts) n
  rest_has n h = has_too found refl n h

  pub no_common : TellsLength (HasOne t) None → TellsLength (AllHaveOne all) None
  no_common none = λ n h few. none n (rest_has n h).0 few

  pub another_common : (m : ℕ) → HasOne t m → (unwrap_or found m ≡ m → ⊥) → TellsLength (AllHaveOne all) None
  another_common m is differ = λ n h few. differs found refl n h
    where
      differs : (o : Option ℕ) → found ≡ o → (n : ℕ) → AllHaveOne all n → ⊥
      differs None e n h = differ (ap (λ o. unwrap_or o m) e)
      differs (Some f) e n h =
          let both = one f n e h in
          let same : n ≡ m = sym both.1.0.0 ∙ is.0 in
          differ (ap (λ o. unwrap_or o m) e ∙ sym both.0 ∙ same)

  one_common : (m : ℕ) → HasOne t m → (k n : ℕ) → m ≡ k → AllHaveOne all n → (n ≡ k) × AllHaveOne ts n
  one_common m is k n e h = (let both = rest_has n h in (sym both.0.0 ∙ is.0 ∙ e, both.1))

  pub next_one : (m : ℕ) → HasOne t m → (k n : ℕ) → Some m ≡ Some k → AllHaveOne all n → (n ≡ k) × AllHaveOne ts n
  next_one m is k n e h = one_common m is k n (let same : m ≡ k = cc in same) h

  module _ (up : (n : ℕ) → found ≡ Some n → AllHaveOne (tree t ts) n → AllHaveOne all n) (m : ℕ) (is : HasOne t m) (alike : unwrap_or found m ≡ m) where
    up_again : (o : Option ℕ) → found ≡ o → AllHaveOne (tree t ts) m → AllHaveOne all m
    up_again None e h = subst (λ (us : Trees). AllHaveOne us m) (whole e) h
    up_again (Some f) e h =
        let same : f ≡ m = sym (ap (λ o. unwrap_or o m) e) ∙ alike in
        up m (e ∙ ap Some same) h

    pub next_all : (n : ℕ) → Some m ≡ Some n → AllHaveOne ts n → AllHaveOne all n
    next_all n e h =
        let same : m ≡ n = cc in
        subst (AllHaveOne all) same (up_again found refl (is, subst (AllHaveOne ts) (sym same) h))

-- ---- what the length says of the language

pub one_is_fixed : (t : Tree) → IsSoundTree t → (r : Option ℕ) → TellsLength (HasOne t) r → IfSome r (λ n. HasFixed t n)
one_is_fixed t sound None h = tt
one_is_fixed t sound (Some n) ((l, g), few) =
    lengths_fixed t n (subst (λ z. HasLengths (In t) n z) g (subst (λ z. HasLengths (In t) z (greatest t)) l (has_lengths t sound))) few

pub none_is_fixed : (t : Tree) → IsSoundTree t → (r : Option ℕ) → TellsLength (HasOne t) r → IfNone r ((n : ℕ) → HasFixed t n → ⊥)
none_is_fixed t sound (Some n) h = tt
none_is_fixed t sound None none = λ n h.
    let fixed = fixed_lengths t n h in
    let all = has_lengths t sound in
    none n (one_least (In t) (least t) n (greatest t) (Some n) all fixed, one_longest (In t) (greatest t) (Some n) all.longest fixed.longest) h.2
