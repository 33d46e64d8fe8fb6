-- How many keys there are: as many as there are subsets.
use Rattle.std.specs.Prelude.{◌≡◌, ◌≢◌, ℕ, zero, suc, ◌+◌, ◌<◌, ◌≤◌, ◌⊎◌, Bool, true, false, List, [], ◌∷◌, ◌++◌, length, map, Option, Some, None, slice_get, slice_index}
use Rattle.std.proofs.Common.{inl, inr, refl, ap, sym, subst, ◌∙◌, arith}
use Rattle.std.proofs.lemmas.List.{length-append}
use Rattle.std.proofs.lemmas.Option.{slice_get_within}
use Rattle.lex_semantics.specs.Text.{IsText, Among, listed}
use Rattle.lex_semantics.specs.Spec.{Spec, Rule}
use Rattle.lex_semantics.specs.Sound.{IsSound}
use Rattle.lex_semantics.specs.Subsets.{IsLast, ReadsActive, IsActive, ListsSet, Distinct, AreStarts, AreLasts, HasSubsets}
use Rattle.lex_semantics.proofs.Fronts.{among_left, among_right}
use Rattle.lexauto_positions.specs.RuleAutomaton.{is_on, is_active}
use Rattle.lexauto.specs.Sets.{tagged}
use Rattle.lexauto.specs.Keys.{Key, At, Apart}
use Rattle.lexauto.specs.Explored.{run, Reached, MoreThan}
use Rattle.lexauto.specs.WordKeys.{start_key, step_in, LastKey, IsRoot, Surveys}
use Rattle.lexauto_positions.proofs.FlowMeaning.{no_true}
use Rattle.lexauto_positions.proofs.Numbers.{listed_is, listed_ascends, same_list}
use Rattle.lexauto.proofs.WordKeys.{word_key, dead_step}
use Rattle.lexauto_positions.proofs.Mapped.{length_map}

abbrev pub StartOf : Spec → Key → Type 0
StartOf S k = (l : List ℕ) × (k ≡ 0 ∷ l) × (1 ≤ length l) × ((c : ℕ) × (line_start : Bool) × (c < length S.conditions) × ListsSet l (IsActive S c line_start))

abbrev pub LastOf : Spec → Key → Type 0
LastOf S k = (l : List ℕ) × (k ≡ 1 ∷ l) × (1 ≤ length l)
    × ((c : ℕ) × (line_start : Bool) × (w : List ℕ) × (c < length S.conditions) × IsText w × (1 ≤ length w) × ListsSet l (IsLast (ReadsActive S c line_start) w))

-- the dead state's key, that of a start, or that of last positions
abbrev pub Shape : Spec → Key → Type 0
Shape S k = (k ≡ []) ⊎ (StartOf S k ⊎ LastOf S k)

cons_one : (x : ℕ) (xs : List ℕ) → 1 ≤ length (x ∷ xs)
cons_one x xs = omega arith

module _ (S : Spec) where
  -- a start's list
  start_lists : (c : ℕ) (line_start : Bool) → ListsSet (listed (is_active S c line_start) 0 (length S.rules)) (IsActive S c line_start)
  start_lists c line_start = (
    listed_ascends (is_active S c line_start) 0 (length S.rules),
    λ i. (
      λ a. to i (slice_get S.rules i) refl ((listed_is (is_active S c line_start) (length S.rules) i).0 a).1,
      λ (r, at, on). (listed_is (is_active S c line_start) (length S.rules) i).1 (slice_get_within S.rules i r at, ap (is_on S c line_start) at ∙ on),
    ),
  )
    where
      to : (i : ℕ) (o : Option Rule) → slice_get S.rules i ≡ o → is_on S c line_start (slice_get S.rules i) ≡ true → IsActive S c line_start i
      to i None e h = no_true (sym (ap (is_on S c line_start) e) ∙ h)
      to i (Some r) e h = (r, e, sym (ap (is_on S c line_start) e) ∙ h)

  start_shape : (c : ℕ) (line_start : Bool) → c < length S.conditions → Shape S (start_key S c line_start)
  start_shape c line_start lt = from (listed (is_active S c line_start) 0 (length S.rules)) (start_lists c line_start)
    where
      from : (l : List ℕ) → ListsSet l (IsActive S c line_start) → Shape S (tagged 0 l)
      from [] h = inl refl
      from (x ∷ xs) h = inr (inl (x ∷ xs, refl, cons_one x xs, (c, line_start, lt, h)))

  last_shape : (c : ℕ) (line_start : Bool) (b : ℕ) (w : List ℕ) (k : Key) → c < length S.conditions → b < 256 → IsText w → LastKey S c line_start (b ∷ w) k → Shape S k
  last_shape c line_start b w k lt byte text (l, is, lists, low) = subst (Shape S) (sym is) (from l lists)
    where
      from : (l : List ℕ) → ListsSet l (IsLast (ReadsActive S c line_start) (b ∷ w)) → Shape S (tagged 1 l)
      from [] h = inl refl
      from (x ∷ xs) h = inr (inr (x ∷ xs, refl, cons_one x xs, (c, line_start, b ∷ w, lt, (byte, text), cons_one b w, h)))

  pub dead_run : (w : List ℕ) → run (step_in S) [] w ≡ []
  dead_run [] = refl
  dead_run (b ∷ w) = ap (λ (k : Key). run (step_in S) k w) (dead_step S b) ∙ dead_run w

  pub root_shape : (k : Key) → IsRoot S k → Shape S k
  root_shape k (inl e) = inl e
  root_shape k (inr (c, line_start, lt, e)) = subst (Shape S) (sym e) (start_shape c line_start lt)

  module _ (sound : IsSound S) where
    pub reached_shape : (roots : List Key) → ((i : ℕ) (k : Key) → At roots i k → IsRoot S k) → (k : Key) → Reached (step_in S) roots k → Shape S k
    reached_shape roots only k (i, root, at, (w, text, e)) = from (only i root at) w text e
      where
        from : IsRoot S root → (w : List ℕ) → IsText w → run (step_in S) root w ≡ k → Shape S k
        from (inl dead) w text e = inl (sym e ∙ ap (λ (r : Key). run (step_in S) r w) dead ∙ dead_run w)
        from (inr (c, line_start, lt, is)) [] text e = subst (Shape S) (sym is ∙ e) (start_shape c line_start lt)
        from (inr (c, line_start, lt, is)) (b ∷ w) text e =
            subst (Shape S) (ap (λ (r : Key). run (step_in S) r (b ∷ w)) (sym is) ∙ e)
            (last_shape c line_start b w (run (step_in S) (start_key S c line_start) (b ∷ w)) lt text.0 text.1 (word_key S c line_start sound b w text.0 text.1))

-- the lists of a kind

starts_list : List Key → List (List ℕ)
starts_list [] = []
starts_list ([] ∷ ks) = starts_list ks
starts_list ((zero ∷ xs) ∷ ks) = xs ∷ starts_list ks
starts_list ((suc n ∷ xs) ∷ ks) = starts_list ks

lasts_list : List Key → List (List ℕ)
lasts_list [] = []
lasts_list ([] ∷ ks) = lasts_list ks
lasts_list ((zero ∷ xs) ∷ ks) = lasts_list ks
lasts_list ((suc n ∷ xs) ∷ ks) = xs ∷ lasts_list ks

rest_apart : (k : Key) (ks : List Key) → Apart (k ∷ ks) → Apart ks
rest_apart k ks h i j q a b = let e = h (suc i) (suc j) q a b in omega (arith, e)

among_starts : (ks : List Key) (xs : List ℕ) → Among (starts_list ks) xs → (i : ℕ) × At ks i (0 ∷ xs)
unfolding starts_list
among_starts [] xs h = absurd h
among_starts ([] ∷ ks) xs h = let (i, a) = among_starts ks xs h in (suc i, a)
among_starts ((zero ∷ ys) ∷ ks) xs (inl e) = (0, ap (λ (zs : List ℕ). Some (0 ∷ zs)) (sym e))
among_starts ((zero ∷ ys) ∷ ks) xs (inr h) = let (i, a) = among_starts ks xs h in (suc i, a)
among_starts ((suc n ∷ ys) ∷ ks) xs h = let (i, a) = among_starts ks xs h in (suc i, a)

starts_among : (ks : List Key) (xs : List ℕ) (i : ℕ) → At ks i (0 ∷ xs) → Among (starts_list ks) xs
unfolding starts_list
starts_among [] xs i h = absurd cc
starts_among ([] ∷ ks) xs zero h = absurd cc
starts_among ([] ∷ ks) xs (suc i) h = starts_among ks xs i h
starts_among ((zero ∷ ys) ∷ ks) xs zero h = inl (let e : ys ≡ xs = cc in sym e)
starts_among ((zero ∷ ys) ∷ ks) xs (suc i) h = inr (starts_among ks xs i h)
starts_among ((suc n ∷ ys) ∷ ks) xs zero h = absurd cc
starts_among ((suc n ∷ ys) ∷ ks) xs (suc i) h = starts_among ks xs i h

-- all keys of last positions have the kind 1
abbrev OfKind : List Key → Type 0
OfKind ks = (i n : ℕ) (xs : List ℕ) → At ks i (suc n ∷ xs) → n ≡ 0

rest_kind : (k : Key) (ks : List Key) → OfKind (k ∷ ks) → OfKind ks
rest_kind k ks h i n xs a = h (suc i) n xs a

among_lasts : (ks : List Key) → OfKind ks → (xs : List ℕ) → Among (lasts_list ks) xs → (i : ℕ) × At ks i (1 ∷ xs)
unfolding lasts_list
among_lasts [] g xs h = absurd h
among_lasts ([] ∷ ks) g xs h = let (i, a) = among_lasts ks (rest_kind [] ks g) xs h in (suc i, a)
among_lasts ((zero ∷ ys) ∷ ks) g xs h = let (i, a) = among_lasts ks (rest_kind (zero ∷ ys) ks g) xs h in (suc i, a)
among_lasts ((suc n ∷ ys) ∷ ks) g xs (inl e) = (0, (let z : n ≡ 0 = g 0 n ys refl in rw (z, e) refl))
among_lasts ((suc n ∷ ys) ∷ ks) g xs (inr h) = let (i, a) = among_lasts ks (rest_kind (suc n ∷ ys) ks g) xs h in (suc i, a)

lasts_among : (ks : List Key) (xs : List ℕ) (i : ℕ) → At ks i (1 ∷ xs) → Among (lasts_list ks) xs
unfolding lasts_list
lasts_among [] xs i h = absurd cc
lasts_among ([] ∷ ks) xs zero h = absurd cc
lasts_among ([] ∷ ks) xs (suc i) h = lasts_among ks xs i h
lasts_among ((zero ∷ ys) ∷ ks) xs zero h = absurd cc
lasts_among ((zero ∷ ys) ∷ ks) xs (suc i) h = lasts_among ks xs i h
lasts_among ((suc n ∷ ys) ∷ ks) xs zero h = inl (let e : ys ≡ xs = cc in sym e)
lasts_among ((suc n ∷ ys) ∷ ks) xs (suc i) h = inr (lasts_among ks xs i h)

-- what is not among some lists is none of them
other_than : (l : List ℕ) (ls : List (List ℕ)) → (Among ls l → ⊥) → (m : List ℕ) → Among ls m → l ≢ m
other_than l ls out m a e = out (subst (Among ls) (sym e) a)

starts_distinct : (ks : List Key) → Apart ks → Distinct (starts_list ks)
unfolding starts_list
starts_distinct [] h = tt
starts_distinct ([] ∷ ks) h = starts_distinct ks (rest_apart [] ks h)
starts_distinct ((zero ∷ xs) ∷ ks) h =
    (other_than xs (starts_list ks) (λ a. let (i, at) = among_starts ks xs a in let e : 0 ≡ suc i = h 0 (suc i) (0 ∷ xs) refl at in absurd (omega (arith, e))), starts_distinct ks (rest_apart (zero ∷ xs) ks h))
starts_distinct ((suc n ∷ xs) ∷ ks) h = starts_distinct ks (rest_apart (suc n ∷ xs) ks h)

lasts_distinct : (ks : List Key) → OfKind ks → Apart ks → Distinct (lasts_list ks)
unfolding lasts_list
lasts_distinct [] g h = tt
lasts_distinct ([] ∷ ks) g h = lasts_distinct ks (rest_kind [] ks g) (rest_apart [] ks h)
lasts_distinct ((zero ∷ xs) ∷ ks) g h = lasts_distinct ks (rest_kind (zero ∷ xs) ks g) (rest_apart (zero ∷ xs) ks h)
lasts_distinct ((suc n ∷ xs) ∷ ks) g h = (
  other_than xs (lasts_list ks) (λ a. let (i, at) = among_lasts ks (rest_kind (suc n ∷ xs) ks g) xs a in let z : n ≡ 0 = g 0 n xs refl in
      let e : 0 ≡ suc i = h 0 (suc i) (1 ∷ xs) (rw z refl) at in absurd (omega (arith, e))),
  lasts_distinct ks (rest_kind (suc n ∷ xs) ks g) (rest_apart (suc n ∷ xs) ks h),
)

count_kinds : (ks : List Key) → ((i : ℕ) → At ks i [] → ⊥) → length ks ≡ length (starts_list ks) + length (lasts_list ks)
unfolding starts_list lasts_list
count_kinds [] h = refl
count_kinds ([] ∷ ks) h = absurd (h 0 refl)
count_kinds ((zero ∷ xs) ∷ ks) h = let e = count_kinds ks (λ i a. h (suc i) a) in omega (arith, e)
count_kinds ((suc n ∷ xs) ∷ ks) h = let e = count_kinds ks (λ i a. h (suc i) a) in omega (arith, e)

dead_first : (ks : List Key) → Apart ks → At ks 0 [] → length ks ≡ 1 + length (starts_list ks) + length (lasts_list ks)
unfolding starts_list lasts_list
dead_first [] h d = absurd cc
dead_first ([] ∷ ks) h d = let e = count_kinds ks (λ i a. (let e : 0 ≡ suc i = h 0 (suc i) [] refl a in omega (arith, e))) in omega (arith, e)
dead_first ((x ∷ xs) ∷ ks) h d = absurd cc

-- the kind of a shape

two_kinds : {A : Type 0} (xs ys : List ℕ) → 0 ∷ xs ≡ 1 ∷ ys → A
two_kinds xs ys e = absurd (no e)
  where
    no : 0 ∷ xs ≡ 1 ∷ ys → ⊥
    no p = cc

some_kind : {A : Type 0} (n : ℕ) (xs : List ℕ) → n ∷ xs ≡ [] → A
some_kind n xs e = absurd (no e)
  where
    no : n ∷ xs ≡ [] → ⊥
    no p = cc

tail_is : (n m : ℕ) (xs ys : List ℕ) → n ∷ xs ≡ m ∷ ys → xs ≡ ys
tail_is n m xs ys e = cc

module _ (S : Spec) where
  start_only : (l : List ℕ) → Shape S (0 ∷ l) → (c : ℕ) × (line_start : Bool) × (c < length S.conditions) × (1 ≤ length l) × ListsSet l (IsActive S c line_start)
  start_only l (inl e) = some_kind 0 l e
  start_only l (inr (inl (xs, e, some, (c, line_start, lt, h)))) =
      let same : xs ≡ l = sym (tail_is 0 0 l xs e) in
      (c, line_start, lt, subst (λ (ys : List ℕ). 1 ≤ length ys) same some, subst (λ (ys : List ℕ). ListsSet ys (IsActive S c line_start)) same h)
  start_only l (inr (inr (xs, e, r, r2))) = two_kinds l xs e

  last_only : (l : List ℕ) → Shape S (1 ∷ l) → (c : ℕ) × (line_start : Bool) × (w : List ℕ) × (c < length S.conditions) × IsText w × (1 ≤ length w) × (1 ≤ length l) × ListsSet l (IsLast (ReadsActive S c line_start) w)
  last_only l (inl e) = some_kind 1 l e
  last_only l (inr (inl (xs, e, r, r2))) = two_kinds xs l (sym e)
  last_only l (inr (inr (xs, e, some, (c, line_start, w, lt, text, word, h)))) =
      let same : xs ≡ l = sym (tail_is 1 1 l xs e) in
      (c, line_start, w, lt, text, word, subst (λ (ys : List ℕ). 1 ≤ length ys) same some, subst (λ (ys : List ℕ). ListsSet ys (IsLast (ReadsActive S c line_start) w)) same h)

  of_kind : (n : ℕ) (xs : List ℕ) → Shape S (suc n ∷ xs) → n ≡ 0
  of_kind n xs (inl e) = some_kind (suc n) xs e
  of_kind n xs (inr (inl (ys, e, r, r2))) = absurd (no e)
    where
      no : suc n ∷ xs ≡ 0 ∷ ys → ⊥
      no p = cc
  of_kind n xs (inr (inr (ys, e, r, r2))) = (let h : suc n ≡ 1 = cc in omega (arith, h))

  same_set : (P : ℕ → Type 0) (l m : List ℕ) → ListsSet l P → ListsSet m P → l ≡ m
  same_set P l m a b = same_list l m a.0 b.0 (λ x. (λ h. (b.1 x).1 ((a.1 x).0 h), λ h. (a.1 x).1 ((b.1 x).0 h)))

  module _ (sound : IsSound S) (keys : List Key) (next starts line_starts : List ℕ) (s : Surveys S keys next starts line_starts) where
    shape_at : (i : ℕ) (k : Key) → At keys i k → Shape S k
    shape_at i k a = reached_shape S sound s.roots s.only k (s.automaton.only i k a)

    kinds : OfKind keys
    kinds i n xs a = of_kind n xs (shape_at i (suc n ∷ xs) a)

    start_there : (c : ℕ) (line_start : Bool) → c < length S.conditions → (i : ℕ) × At s.roots i (start_key S c line_start)
    start_there c true h = (slice_index line_starts c, s.lines_are c (let e = s.lines_len in omega (arith, e, h)))
    start_there c false h = (slice_index starts c, s.starts_are c (let e = s.starts_len in omega (arith, e, h)))

    tagged_some : (kind : ℕ) (l : List ℕ) → 1 ≤ length l → tagged kind l ≡ kind ∷ l
    tagged_some kind [] h = absurd (omega (arith, h))
    tagged_some kind (x ∷ l) h = refl

    are_starts : AreStarts S (starts_list keys)
    are_starts = record {
      distinct = starts_distinct keys s.automaton.apart;
      listed = λ l. (
        λ a. let (i, at) = among_starts keys l a in let (c, line_start, lt, some, set) = start_only l (shape_at i (0 ∷ l) at) in (some, (c, line_start, lt, set)),
        λ (some, (c, line_start, lt, lists)).
            let own = listed (is_active S c line_start) 0 (length S.rules) in
            let same : own ≡ l = same_set (IsActive S c line_start) own l (start_lists S c line_start) lists in
            let (i, at) = start_there c line_start lt in
            let key : start_key S c line_start ≡ 0 ∷ l = ap (tagged 0) same ∙ tagged_some 0 l some in
            starts_among keys l i (subst (λ (k : Key). At keys i k) key (s.automaton.starts i (start_key S c line_start) at)),
      );
    }

    last_there : (c : ℕ) (line_start : Bool) (w l : List ℕ) → c < length S.conditions → IsText w → 1 ≤ length w → ListsSet l (IsLast (ReadsActive S c line_start) w) → 1 ≤ length l → Among (lasts_list keys) l
    last_there c line_start [] l lt text word lists some = absurd (omega (arith, word))
    last_there c line_start (b ∷ w) l lt text word lists some =
        let k = run (step_in S) (start_key S c line_start) (b ∷ w) in
        let (m, is, own, low) = word_key S c line_start sound b w text.0 text.1 in
        let same : m ≡ l = same_set (IsLast (ReadsActive S c line_start) (b ∷ w)) m l own lists in
        let key : k ≡ 1 ∷ l = is ∙ ap (tagged 1) same ∙ tagged_some 1 l some in
        let (r, at) = start_there c line_start lt in
        let (i, here) = s.automaton.all k (r, start_key S c line_start, at, (b ∷ w, text, refl)) in
        lasts_among keys l i (subst (λ (q : Key). At keys i q) key here)

    are_lasts : AreLasts S (lasts_list keys)
    are_lasts = record {
      distinct = lasts_distinct keys kinds s.automaton.apart;
      listed = λ l. (
        λ a. let (i, at) = among_lasts keys kinds l a in let (c, line_start, w, lt, text, word, some, set) = last_only l (shape_at i (1 ∷ l) at) in (some, (c, line_start, w, lt, text, word, set)),
        λ (some, (c, line_start, w, lt, text, word, lists)). last_there c line_start w l lt text word lists some,
      );
    }

    pub counted : HasSubsets S (length keys)
    counted = record {
      starts = starts_list keys;
      lasts = lasts_list keys;
      are_starts = are_starts;
      are_lasts = are_lasts;
      total = dead_first keys s.automaton.apart (s.automaton.starts 0 [] s.dead);
    }

-- distinct keys of a list are no more than the list

without : (C : List Key) (k : Key) → Among C k → List Key
without [] k h = []
without (x ∷ C) k (inl e) = C
without (x ∷ C) k (inr h) = x ∷ without C k h

without_len : (C : List Key) (k : Key) (h : Among C k) → length C ≡ suc (length (without C k h))
unfolding without
without_len [] k h = absurd h
without_len (x ∷ C) k (inl e) = refl
without_len (x ∷ C) k (inr h) = ap suc (without_len C k h)

without_other : (C : List Key) (k q : Key) (h : Among C k) → Among C q → q ≢ k → Among (without C k h) q
unfolding without
without_other [] k q h a ne = absurd h
without_other (x ∷ C) k q (inl e) (inl f) ne = absurd (ne (f ∙ sym e))
without_other (x ∷ C) k q (inl e) (inr a) ne = a
without_other (x ∷ C) k q (inr h) (inl f) ne = inl f
without_other (x ∷ C) k q (inr h) (inr a) ne = inr (without_other C k q h a ne)

no_more : (ks C : List Key) → Apart ks → ((i : ℕ) (k : Key) → At ks i k → Among C k) → length ks ≤ length C
no_more [] C h in_C = omega arith
no_more (k ∷ ks) C h in_C =
    let a = in_C 0 k refl in
    let less = no_more ks (without C k a) (rest_apart k ks h)
    (λ i q at. without_other C k q a (in_C (suc i) q at) (λ e. let z : 0 ≡ suc i = h 0 (suc i) q (ap Some (sym e)) at in omega (arith, z))) in
    omega (arith, less, without_len C k a)

among_map : (f : List ℕ → Key) (ls : List (List ℕ)) (l : List ℕ) → Among ls l → Among (map f ls) (f l)
among_map f [] l h = absurd h
among_map f (x ∷ ls) l (inl e) = inl (ap f e)
among_map f (x ∷ ls) l (inr h) = inr (among_map f ls l h)

-- more keys than a limit, and so more subsets
pub too_many_subsets : (S : Spec) (limit n : ℕ) → MoreThan limit (Shape S) → HasSubsets S n → limit < n
too_many_subsets S limit n (ks, many, apart, shapes) s =
    let C = [] ∷ (map (λ l. 0 ∷ l) s.starts ++ map (λ l. 1 ∷ l) s.lasts) in
    let size : length C ≡ 1 + (length s.starts + length s.lasts) =
    ap suc (length-append (map (λ l. 0 ∷ l) s.starts) (map (λ l. 1 ∷ l) s.lasts)
    ∙ ap (λ (m : ℕ). m + length (map (λ l. 1 ∷ l) s.lasts)) (length_map (λ l. 0 ∷ l) s.starts) ∙ ap (λ (m : ℕ). length s.starts + m) (length_map (λ l. 1 ∷ l) s.lasts)) ∙ omega arith in
    let less = no_more ks C apart (λ i k at. from k (shapes i k at)) in
    let total = s.total in
    omega (arith, many, less, size, total)
  where
    from : (k : Key) → Shape S k → Among ([] ∷ (map (λ l. 0 ∷ l) s.starts ++ map (λ l. 1 ∷ l) s.lasts)) k
    from k (inl e) = inl e
    from k (inr (inl (l, e, some, (c, line_start, lt, h)))) =
        inr (subst (λ (q : Key). Among (map (λ l. 0 ∷ l) s.starts ++ map (λ l. 1 ∷ l) s.lasts) q) (sym e)
        (among_left (map (λ l. 0 ∷ l) s.starts) (map (λ l. 1 ∷ l) s.lasts) (0 ∷ l) (among_map (λ l. 0 ∷ l) s.starts l ((s.are_starts.listed l).1 (some, (c, line_start, lt, h))))))
    from k (inr (inr (l, e, some, (c, line_start, w, lt, text, word, h)))) =
        inr (subst (λ (q : Key). Among (map (λ l. 0 ∷ l) s.starts ++ map (λ l. 1 ∷ l) s.lasts) q) (sym e)
        (among_right (map (λ l. 0 ∷ l) s.starts) (map (λ l. 1 ∷ l) s.lasts) (1 ∷ l) (among_map (λ l. 1 ∷ l) s.lasts l ((s.are_lasts.listed l).1 (some, (c, line_start, w, lt, text, word, h))))))

-- There is one count of subsets.

at_among : (ks : List Key) (k : Key) → Among ks k → (i : ℕ) × At ks i k
at_among [] k h = absurd h
at_among (x ∷ ks) k (inl e) = (0, ap Some (sym e))
at_among (x ∷ ks) k (inr h) = let (i, a) = at_among ks k h in (suc i, a)

at_is_among : (ks : List Key) (i : ℕ) (k : Key) → At ks i k → Among ks k
at_is_among [] i k h = absurd cc
at_is_among (x ∷ ks) zero k h = inl (let e : x ≡ k = cc in sym e)
at_is_among (x ∷ ks) (suc i) k h = inr (at_is_among ks i k h)

distinct_apart : (ks : List Key) → Distinct ks → Apart ks
distinct_apart [] d i j k a b = absurd cc
distinct_apart (x ∷ ks) d zero zero k a b = refl
distinct_apart (x ∷ ks) d zero (suc j) k a b = absurd (let e : x ≡ k = cc in d.0 x (subst (λ (q : Key). Among ks q) (sym e) (at_is_among ks j k b)) refl)
distinct_apart (x ∷ ks) d (suc i) zero k a b = absurd (let e : x ≡ k = cc in d.0 x (subst (λ (q : Key). Among ks q) (sym e) (at_is_among ks i k a)) refl)
distinct_apart (x ∷ ks) d (suc i) (suc j) k a b = ap suc (distinct_apart ks d.1 i j k a b)

no_more_of : (ls ms : List (List ℕ)) → Distinct ls → ((l : List ℕ) → Among ls l → Among ms l) → length ls ≤ length ms
no_more_of ls ms d inside = no_more ls ms (distinct_apart ls d) (λ i k a. inside k (at_is_among ls i k a))

module _ (S : Spec) where
  starts_inside : (ls ms : List (List ℕ)) → AreStarts S ls → AreStarts S ms → length ls ≤ length ms
  starts_inside ls ms a b = no_more_of ls ms a.distinct (λ l h. (b.listed l).1 ((a.listed l).0 h))

  lasts_inside : (ls ms : List (List ℕ)) → AreLasts S ls → AreLasts S ms → length ls ≤ length ms
  lasts_inside ls ms a b = no_more_of ls ms a.distinct (λ l h. (b.listed l).1 ((a.listed l).0 h))

  pub counts_agree : (m n : ℕ) → HasSubsets S m → HasSubsets S n → m ≡ n
  counts_agree m n s t =
      let a = starts_inside s.starts t.starts s.are_starts t.are_starts in
      let b = starts_inside t.starts s.starts t.are_starts s.are_starts in
      let c = lasts_inside s.lasts t.lasts s.are_lasts t.are_lasts in
      let d = lasts_inside t.lasts s.lasts t.are_lasts s.are_lasts in
      let p = s.total in let q = t.total in
      omega (arith, a, b, c, d, p, q)
