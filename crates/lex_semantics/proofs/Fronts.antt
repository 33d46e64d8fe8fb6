-- The plain program's fronts of a text are the words of the tree.
use Rattle.std.proofs.Common.{IfSome, zero-add, ◌≡◌, ℕ, zero, suc, ◌+◌, ◌-◌, ◌≤◌, ◌<◌, Bool, true, false, List, [], ◌∷◌, ◌++◌, length, ◌⊎◌, inl, inr, Option, Some, None, refl, sym, ◌∙◌, ap, subst, arith}
use Rattle.std.specs.Prelude.{nat_lt, nat_le, ◌&&◌, flat_map, if◌then◌else◌}
use Rattle.std.proofs.lemmas.List.{append_assoc, length-append}
use Rattle.std.proofs.lemmas.Bool.{ltb-true, lt-ltb, leb-true, le-leb, cond-true, and_parts, and_from}
use Rattle.lex_semantics.proofs.WordReadings.{Joined, to_joined, of_joined}
use Rattle.lex_semantics.specs.Text.{Among}
use Rattle.lex_semantics.specs.Tree.{Tree, Trees, Empty, Set, Cat, Alt, Star, Repeat, no_trees, tree, In, InEach, InSome, Iterates}
use Rattle.lex_semantics.specs.Plain.{Fronts, byte_front, times, up_to, shorter, rounds, any_times, repeated, fronts, fronts_each, fronts_some}
use Rattle.lex_semantics.specs.ByteSets.{ByteSet, has}

-- lists

pub among_left : {X : Type 0} (xs ys : List X) (z : X) → Among xs z → Among (xs ++ ys) z
among_left [] ys z h = absurd h
among_left (x ∷ xs) ys z (inl e) = inl e
among_left (x ∷ xs) ys z (inr h) = inr (among_left xs ys z h)

pub among_right : {X : Type 0} (xs ys : List X) (z : X) → Among ys z → Among (xs ++ ys) z
among_right [] ys z h = h
among_right (x ∷ xs) ys z h = inr (among_right xs ys z h)

pub among_append : {X : Type 0} (xs ys : List X) (z : X) → Among (xs ++ ys) z → Among xs z ⊎ Among ys z
among_append [] ys z h = inr h
among_append (x ∷ xs) ys z (inl e) = inl (inl e)
among_append (x ∷ xs) ys z (inr h) = elim (among_append xs ys z h) [ inl k ↦ inl (inr k) | inr k ↦ inr k ]

pub among_flat_map : {X Y : Type 0} (f : X → List Y) (xs : List X) (x : X) (y : Y) → Among xs x → Among (f x) y → Among (flat_map f xs) y
among_flat_map f [] x y h k = absurd h
among_flat_map f (z ∷ zs) x y (inl e) k = among_left (f z) (flat_map f zs) y (subst (λ w. Among (f w) y) e k)
among_flat_map f (z ∷ zs) x y (inr h) k = among_right (f z) (flat_map f zs) y (among_flat_map f zs x y h k)

flat_map_from : {X Y : Type 0} (f : X → List Y) (z : X) (zs : List X) (y : Y) → Among (f z) y ⊎ Among (flat_map f zs) y →
    (Among (flat_map f zs) y → (x : X) × Among zs x × Among (f x) y) → (x : X) × Among (z ∷ zs) x × Among (f x) y
flat_map_from f z zs y (inl k) later = (z, inl refl, k)
flat_map_from f z zs y (inr k) later = let r = later k in (r.0, inr r.1, r.2)

pub flat_map_among : {X Y : Type 0} (f : X → List Y) (xs : List X) (y : Y) → Among (flat_map f xs) y → (x : X) × Among xs x × Among (f x) y
flat_map_among f [] y h = absurd h
flat_map_among f (z ∷ zs) y h = flat_map_from f z zs y (among_append (f z) (flat_map f zs) y h) (λ k. flat_map_among f zs y k)

-- a member of a list is shorter than w
filter_yes : (test : List ℕ → Bool) (v : List ℕ) (vs rest : List (List ℕ)) (b : Bool) → test v ≡ b → (x : List ℕ) → Among (if b then v ∷ rest else rest) x →
    ((x ≡ v) × (b ≡ true)) ⊎ Among rest x
filter_yes test v vs rest true e x (inl h) = inl (h, refl)
filter_yes test v vs rest true e x (inr h) = inr h
filter_yes test v vs rest false e x h = inr h

among_if : (b : Bool) (v : List ℕ) (rest : List (List ℕ)) (x : List ℕ) → ((x ≡ v) × (b ≡ true)) ⊎ Among rest x → Among (if b then v ∷ rest else rest) x
among_if true v rest x (inl h) = inl h.0
among_if true v rest x (inr h) = inr h
among_if false v rest x (inl h) = absurd (no h.1)
  where
    no : false ≡ true → ⊥
    no e = cc
among_if false v rest x (inr h) = h

shorter_from : (w v : List ℕ) (vs : List (List ℕ)) (x : List ℕ) → ((x ≡ v) × (nat_lt (length v) (length w) ≡ true)) ⊎ Among (shorter w vs) x →
    (Among (shorter w vs) x → Among vs x × (length x < length w)) → Among (v ∷ vs) x × (length x < length w)
shorter_from w v vs x (inl k) later = (inl k.0, subst (λ z. length z < length w) (sym k.0) (ltb-true (length v) (length w) k.1))
shorter_from w v vs x (inr k) later = let r = later k in (inr r.0, r.1)

pub shorter_among : (w : List ℕ) (vs : List (List ℕ)) (x : List ℕ) → Among (shorter w vs) x → Among vs x × (length x < length w)
shorter_among w [] x h = absurd h
shorter_among w (v ∷ vs) x h =
    shorter_from w v vs x (filter_yes (λ u. nat_lt (length u) (length w)) v vs (shorter w vs) (nat_lt (length v) (length w)) refl x h) (λ k. shorter_among w vs x k)

pub among_shorter : (w : List ℕ) (vs : List (List ℕ)) (x : List ℕ) → Among vs x → length x < length w → Among (shorter w vs) x
among_shorter w [] x h lt = absurd h
among_shorter w (v ∷ vs) x (inl e) lt = among_if (nat_lt (length v) (length w)) v (shorter w vs) x (inl (e, lt-ltb (length v) (length w) (subst (λ z. length z < length w) e lt)))
among_shorter w (v ∷ vs) x (inr h) lt = among_if (nat_lt (length v) (length w)) v (shorter w vs) x (inr (among_shorter w vs x h lt))

-- fronts

-- v is left of w after a word of P
abbrev pub Leaves : (List ℕ → Type 0) → List ℕ → List ℕ → Type 0
Leaves P w v = (u : List ℕ) × (w ≡ u ++ v) × P u

pub record AreFronts (f : Fronts) (P : List ℕ → Type 0) : Type 0 where
  pub sound : (w v : List ℕ) → Among (f w) v → Leaves P w v
  pub complete : (w v : List ℕ) → Leaves P w v → Among (f w) v

-- one word after another
leaves_more : (P Q : List ℕ → Type 0) (w x v : List ℕ) → (a : Leaves P w x) → (b : Leaves Q x v) → w ≡ (a.0 ++ b.0) ++ v
leaves_more P Q w x v a b = a.1 ∙ ap (λ z. a.0 ++ z) b.1 ∙ sym (append_assoc a.0 b.0 v)

none_leaves : (w v : List ℕ) → Leaves (λ u. u ≡ []) w v → v ≡ w
none_leaves w v h = sym (h.1 ∙ ap (λ z. z ++ v) h.2)

module _ (f : Fronts) (P : List ℕ → Type 0) (are : AreFronts f P) where
  times_sound : (k : ℕ) (w v : List ℕ) → Among (times f k w) v → Leaves (Joined P k) w v
  times_sound zero w v (inl e) = ([], sym e, refl)
  times_sound zero w v (inr h) = absurd h
  times_sound (suc k) w v h =
      let mid = flat_map_among (times f k) (f w) v h in
      let a = are.sound w mid.0 mid.1 in
      let b = times_sound k mid.0 v mid.2 in
      (a.0 ++ b.0, leaves_more P (Joined P k) w mid.0 v a b, (a.0, b.0, refl, a.2, b.2))

  times_complete : (k : ℕ) (w v : List ℕ) → Leaves (Joined P k) w v → Among (times f k w) v
  times_complete zero w v h = inl (none_leaves w v h)
  times_complete (suc k) w v (u, e, (a, b, e', p, j)) =
      among_flat_map (times f k) (f w) (b ++ v) v
      (are.complete w (b ++ v) (a, e ∙ ap (λ z. z ++ v) e' ∙ append_assoc a b v, p))
      (times_complete k (b ++ v) v (b, refl, j))

  up_to_sound : (k : ℕ) (w v : List ℕ) → Among (up_to f k w) v → (j : ℕ) × (j ≤ k) × Leaves (Joined P j) w v
  up_to_sound zero w v (inl e) = (0, omega arith, ([], sym e, refl))
  up_to_sound zero w v (inr h) = absurd h
  up_to_sound (suc k) w v (inl e) = (0, omega arith, ([], sym e, refl))
  up_to_sound (suc k) w v (inr h) =
      let mid = flat_map_among (up_to f k) (f w) v h in
      let a = are.sound w mid.0 mid.1 in
      let b = up_to_sound k mid.0 v mid.2 in
      (suc b.0, omega (arith, b.1), (a.0 ++ b.2.0, leaves_more P (Joined P b.0) w mid.0 v a b.2, (a.0, b.2.0, refl, a.2, b.2.2)))

  up_to_complete : (j k : ℕ) (w v : List ℕ) → j ≤ k → Leaves (Joined P j) w v → Among (up_to f k w) v
  up_to_complete zero zero w v le h = inl (none_leaves w v h)
  up_to_complete zero (suc k) w v le h = inl (none_leaves w v h)
  up_to_complete (suc j) zero w v le h = absurd (omega (arith, le))
  up_to_complete (suc j) (suc k) w v le (u, e, (a, b, e', p, js)) =
      inr (among_flat_map (up_to f k) (f w) (b ++ v) v
      (are.complete w (b ++ v) (a, e ∙ ap (λ z. z ++ v) e' ∙ append_assoc a b v, p))
      (up_to_complete j k (b ++ v) v (omega (arith, le)) (b, refl, js)))

  rounds_sound : (n : ℕ) (w v : List ℕ) → Among (rounds f n w) v → (j : ℕ) × Leaves (Joined P j) w v
  rounds_sound zero w v (inl e) = (0, ([], sym e, refl))
  rounds_sound zero w v (inr h) = absurd h
  rounds_sound (suc n) w v (inl e) = (0, ([], sym e, refl))
  rounds_sound (suc n) w v (inr h) =
      let mid = flat_map_among (rounds f n) (shorter w (f w)) v h in
      let a = are.sound w mid.0 (shorter_among w (f w) mid.0 mid.1).0 in
      let b = rounds_sound n mid.0 v mid.2 in
      (suc b.0, (a.0 ++ b.1.0, leaves_more P (Joined P b.0) w mid.0 v a b.1, (a.0, b.1.0, refl, a.2, b.1.2)))

  rounds_complete : (j n : ℕ) (w v : List ℕ) → length w ≤ n → Leaves (Joined P j) w v → Among (rounds f n w) v
  rounds_complete zero zero w v le h = inl (none_leaves w v h)
  rounds_complete zero (suc n) w v le h = inl (none_leaves w v h)
  rounds_complete (suc j) n w v le (u, e, ([], b, e', p, js)) = rounds_complete j n w v le (b, e ∙ ap (λ z. z ++ v) e', js)
  rounds_complete (suc j) zero w v le (u, e, (c ∷ a, b, e', p, js)) = let n : length w ≡ length ((c ∷ a) ++ b ++ v) = ap length (e ∙ ap (λ z. z ++ v) e') in absurd (omega (arith, n, le))
  rounds_complete (suc j) (suc n) w v le (u, e, (c ∷ a, b, e', p, js)) =
      let split : w ≡ (c ∷ a) ++ (b ++ v) = e ∙ ap (λ z. z ++ v) e' ∙ append_assoc (c ∷ a) b v in
      let size : length w ≡ suc (length (a ++ (b ++ v))) = ap length split in
      let size' : length (a ++ (b ++ v)) ≡ length a + length (b ++ v) = length-append a (b ++ v) in
      inr (among_flat_map (rounds f n) (shorter w (f w)) (b ++ v) v
      (among_shorter w (f w) (b ++ v) (are.complete w (b ++ v) (c ∷ a, split, p)) (omega arith))
      (rounds_complete j n (b ++ v) v (omega arith) (b, refl, js)))

-- passes of a repetition, counted together and apart
joined_together : (P : List ℕ → Type 0) (m j : ℕ) (a b : List ℕ) → Joined P m a → Joined P j b → Joined P (m + j) (a ++ b)
joined_together P zero j a b h k =
    let e : b ≡ a ++ b = sym (ap (λ z. z ++ b) h) in
    subst (λ i. Joined P i (a ++ b)) (sym (zero-add j)) (subst (Joined P j) e k)
joined_together P (suc m) j a b (u, v, e, p, h) k =
    let n : suc m + j ≡ suc (m + j) = omega arith in
    subst (λ i. Joined P i (a ++ b)) (sym n) (u, v ++ b, ap (λ z. z ++ b) e ∙ append_assoc u v b, p, joined_together P m j v b h k)

abbrev Apart : (List ℕ → Type 0) → ℕ → ℕ → List ℕ → Type 0
Apart P m j w = (a : List ℕ) × (b : List ℕ) × (w ≡ a ++ b) × Joined P m a × Joined P j b

joined_more : (P : List ℕ → Type 0) (m j : ℕ) (w : List ℕ) → ((v : List ℕ) → Joined P (m + j) v → Apart P m j v) → Joined P (suc (m + j)) w → Apart P (suc m) j w
joined_more P m j w later (u, v, e, p, k) =
    let rest = later v k in
    (u ++ rest.0, rest.1, e ∙ ap (λ z. u ++ z) rest.2 ∙ sym (append_assoc u rest.0 rest.1), (u, rest.0, refl, p, rest.3), rest.4)

joined_apart : (P : List ℕ → Type 0) (m j : ℕ) (w : List ℕ) → Joined P (m + j) w → Apart P m j w
joined_apart P zero j w h = ([], w, refl, refl, subst (λ i. Joined P i w) (zero-add j) h)
joined_apart P (suc m) j w h =
    let n : suc m + j ≡ suc (m + j) = omega arith in
    joined_more P m j w (λ v k. joined_apart P m j v k) (subst (λ i. Joined P i w) n h)

-- the words of a repetition
abbrev pub Times : (List ℕ → Type 0) → ℕ → Option ℕ → List ℕ → Type 0
Times P m n w = (k : ℕ) × (m ≤ k) × IfSome n (λ n. k ≤ n) × Iterates (λ i. P) 0 k w

module _ (f : Fronts) (P : List ℕ → Type 0) (are : AreFronts f P) where
  any_times_are : AreFronts (any_times f) (λ w. (k : ℕ) × Iterates (λ i. P) 0 k w)
  any_times_are = record {
    sound = λ w v h. (let r = rounds_sound f P are (length w) w v h in (r.1.0, r.1.1, (r.0, of_joined P 0 r.0 r.1.0 r.1.2)));
    complete = λ w v h. rounds_complete f P are h.2.0 (length w) w v (omega arith) (h.0, h.1, to_joined P 0 h.2.0 h.0 h.2.1);
  }

  repeated_sound : (m : ℕ) (n : Option ℕ) (w v : List ℕ) → Among (repeated f m n w) v → Leaves (Times P m n) w v
  repeated_sound m None w v h =
      let mid = flat_map_among (any_times f) (times f m w) v h in
      let a = times_sound f P are m w mid.0 mid.1 in
      let b = rounds_sound f P are (length mid.0) mid.0 v mid.2 in
      (a.0 ++ b.1.0, leaves_more (Joined P m) (Joined P b.0) w mid.0 v a b.1, (m + b.0, omega arith, tt, of_joined P 0 (m + b.0) _ (joined_together P m b.0 a.0 b.1.0 a.2 b.1.2)))
  repeated_sound m (Some n) w v h = from (nat_le m n) refl h
    where
      from : (b : Bool) → nat_le m n ≡ b → Among (if b then flat_map (up_to f (n - m)) (times f m w) else []) v → Leaves (Times P m (Some n)) w v
      from false e h = absurd h
      from true e h =
          let le : m ≤ n = leb-true m n e in
          let mid = flat_map_among (up_to f (n - m)) (times f m w) v h in
          let a = times_sound f P are m w mid.0 mid.1 in
          let b = up_to_sound f P are (n - m) mid.0 v mid.2 in (
            a.0 ++ b.2.0,
            leaves_more (Joined P m) (Joined P b.0) w mid.0 v a b.2,
            (m + b.0, omega arith, omega (arith, b.1), of_joined P 0 (m + b.0) _ (joined_together P m b.0 a.0 b.2.0 a.2 b.2.2)),
          )

  repeated_complete : (m : ℕ) (n : Option ℕ) (w v : List ℕ) → Leaves (Times P m n) w v → Among (repeated f m n w) v
  repeated_complete m None w v (u, e, (k, le, top, js)) =
      let sum : k ≡ m + (k - m) = omega arith in
      let r = joined_apart P m (k - m) u (subst (λ i. Joined P i u) sum (to_joined P 0 k u js)) in
      among_flat_map (any_times f) (times f m w) (r.1 ++ v) v
      (times_complete f P are m w (r.1 ++ v) (r.0, e ∙ ap (λ z. z ++ v) r.2 ∙ append_assoc r.0 r.1 v, r.3))
      (rounds_complete f P are (k - m) (length (r.1 ++ v)) (r.1 ++ v) v (omega arith) (r.1, refl, r.4))
  repeated_complete m (Some n) w v (u, e, (k, le, top, js)) =
      let sum : k ≡ m + (k - m) = omega arith in
      let r = joined_apart P m (k - m) u (subst (λ i. Joined P i u) sum (to_joined P 0 k u js)) in
      let inside : Among (flat_map (up_to f (n - m)) (times f m w)) v =
      among_flat_map (up_to f (n - m)) (times f m w) (r.1 ++ v) v
      (times_complete f P are m w (r.1 ++ v) (r.0, e ∙ ap (λ z. z ++ v) r.2 ∙ append_assoc r.0 r.1 v, r.3))
      (up_to_complete f P are (k - m) (n - m) (r.1 ++ v) v (omega arith) (r.1, refl, r.4)) in
      subst (λ z. Among z v) (sym (cond-true (nat_le m n) (flat_map (up_to f (n - m)) (times f m w)) [] (le-leb m n (omega arith)))) inside

byte_sound : (s : ByteSet) (w v : List ℕ) → Among (byte_front s w) v → Leaves (In (Set s)) w v
byte_sound s [] v h = absurd h
byte_sound s (b ∷ w) v h = from (nat_lt b 256 && has s b) refl h
  where
    from : (t : Bool) → (nat_lt b 256 && has s b) ≡ t → Among (if t then w ∷ [] else []) v → Leaves (In (Set s)) (b ∷ w) v
    from true e (inl k) = (let both = and_parts (nat_lt b 256) (has s b) e in (b ∷ [], ap (λ z. b ∷ z) (sym k), (b, refl, (ltb-true b 256 both.0, both.1))))
    from true e (inr k) = absurd k
    from false e k = absurd k

byte_complete : (s : ByteSet) (w v : List ℕ) → Leaves (In (Set s)) w v → Among (byte_front s w) v
byte_complete s [] v (u, e, (b, e', is)) = let bad : [] ≡ b ∷ v = e ∙ ap (λ z. z ++ v) e' in absurd (no bad)
  where
    no : [] ≡ b ∷ v → ⊥
    no p = cc
byte_complete s (c ∷ w) v (u, e, (b, e', is)) =
    let same : c ∷ w ≡ b ∷ v = e ∙ ap (λ z. z ++ v) e' in
    let first : c ≡ b = cc in
    let rest : v ≡ w = cc in
    subst (λ z. Among z v) (sym (cond-true (nat_lt c 256 && has s c) (w ∷ []) [] (ap (λ z. nat_lt z 256 && has s z) first ∙ and_from (nat_lt b 256) (has s b) (lt-ltb b 256 is.0) is.1))) (inl rest)

mutual
  sound : (t : Tree) (w v : List ℕ) → Among (fronts t w) v → Leaves (In t) w v
  sound Empty w v (inl e) = ([], sym e, refl)
  sound Empty w v (inr h) = absurd h
  sound (Set s) w v h = byte_sound s w v h
  sound (Cat ts) w v h = sound_each ts w v h
  sound (Alt ts) w v h = sound_some ts w v h
  sound (Star t) w v h = (any_times_are (fronts t) (In t) (record { sound = sound t; complete = complete t })).sound w v h
  sound (Repeat t m n) w v h = repeated_sound (fronts t) (In t) (record { sound = sound t; complete = complete t }) m n w v h

  sound_each : (ts : Trees) (w v : List ℕ) → Among (fronts_each ts w) v → Leaves (InEach ts) w v
  sound_each no_trees w v (inl e) = ([], sym e, refl)
  sound_each no_trees w v (inr h) = absurd h
  sound_each (tree t ts) w v h =
      let mid = flat_map_among (fronts_each ts) (fronts t w) v h in
      let a = sound t w mid.0 mid.1 in
      let b = sound_each ts mid.0 v mid.2 in
      (a.0 ++ b.0, leaves_more (In t) (InEach ts) w mid.0 v a b, (a.0, b.0, refl, a.2, b.2))

  sound_some : (ts : Trees) (w v : List ℕ) → Among (fronts_some ts w) v → Leaves (InSome ts) w v
  sound_some no_trees w v h = absurd h
  sound_some (tree t ts) w v h =
      elim (among_append (fronts t w) (fronts_some ts w) v h) [
        | inl k ↦ (let r = sound t w v k in (r.0, r.1, inl r.2))
        | inr k ↦ (let r = sound_some ts w v k in (r.0, r.1, inr r.2))
      ]

  complete : (t : Tree) (w v : List ℕ) → Leaves (In t) w v → Among (fronts t w) v
  complete Empty w v h = inl (none_leaves w v h)
  complete (Set s) w v h = byte_complete s w v h
  complete (Cat ts) w v h = complete_each ts w v h
  complete (Alt ts) w v h = complete_some ts w v h
  complete (Star t) w v h = (any_times_are (fronts t) (In t) (record { sound = sound t; complete = complete t })).complete w v h
  complete (Repeat t m n) w v h = repeated_complete (fronts t) (In t) (record { sound = sound t; complete = complete t }) m n w v h

  complete_each : (ts : Trees) (w v : List ℕ) → Leaves (InEach ts) w v → Among (fronts_each ts w) v
  complete_each no_trees w v h = inl (none_leaves w v h)
  complete_each (tree t ts) w v (u, e, (a, b, e', p, q)) =
      among_flat_map (fronts_each ts) (fronts t w) (b ++ v) v
      (complete t w (b ++ v) (a, e ∙ ap (λ z. z ++ v) e' ∙ append_assoc a b v, p))
      (complete_each ts (b ++ v) v (b, refl, q))

  complete_some : (ts : Trees) (w v : List ℕ) → Leaves (InSome ts) w v → Among (fronts_some ts w) v
  complete_some no_trees w v h = h.2
  complete_some (tree t ts) w v (u, e, inl h) = among_left (fronts t w) (fronts_some ts w) v (complete t w v (u, e, h))
  complete_some (tree t ts) w v (u, e, inr h) = among_right (fronts t w) (fronts_some ts w) v (complete_some ts w v (u, e, h))

-- The fronts of a text that the plain program finds are just those that are words of the tree.
pub fronts_are : (t : Tree) → AreFronts (fronts t) (In t)
fronts_are t = record { sound = sound t; complete = complete t }
