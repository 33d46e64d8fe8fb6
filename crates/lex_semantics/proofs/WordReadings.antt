-- A word is in the language of a tree exactly if it has a reading.
use Rattle.std.proofs.Common.{◌≡◌, ℕ, zero, suc, ◌+◌, ◌-◌, ◌*◌, min, List, [], ◌∷◌, ◌++◌, inl, inr, ◌↔◌, refl, sym, ap, ◌∙◌, subst}
use Rattle.lex_semantics.specs.Tree.{Tree, Trees, Empty, Set, Cat, Alt, Star, Repeat, no_trees, tree, In, InEach, InSome, Iterates}
use Rattle.lex_semantics.specs.Positions.{copies, positions, MarkedByte, Readings, bytes_of, Reads, ReadsEach, ReadsSome, ReadsWord, Matches}

pub bytes_join : (us vs : List MarkedByte) → bytes_of (us ++ vs) ≡ bytes_of us ++ bytes_of vs
bytes_join [] vs = refl
bytes_join (c ∷ us) vs = ap (λ w. c.0 ∷ w) (bytes_join us vs)

-- what passes read is the joining of as many words
from_passes : (P : List ℕ → Type 0) (R : ℕ → Readings) → ((j : ℕ) (us : List MarkedByte) → R j us → P (bytes_of us)) →
    (k j : ℕ) (rs : List MarkedByte) → Iterates R j k rs → Iterates (λ i. P) j k (bytes_of rs)
from_passes P R f zero j rs e = ap bytes_of e
from_passes P R f (suc k) j rs (us, vs, e, here, rest) =
    (bytes_of us, bytes_of vs, ap bytes_of e ∙ bytes_join us vs, f j us here, from_passes P R f k (suc j) vs rest)

-- a joining of words can be read in as many passes
to_passes : (P : List ℕ → Type 0) (R : ℕ → Readings) → ((j : ℕ) (w : List ℕ) → P w → ReadsWord (R j) w) →
    (k j : ℕ) (w : List ℕ) → Iterates (λ i. P) j k w → ReadsWord (Iterates R j k) w
to_passes P R f zero j w e = ([], sym e, refl)
to_passes P R f (suc k) j w (u, v, e, here, rest) =
    let (us, is_u, read) = f j u here in
    let (vs, is_v, reads) = to_passes P R f k (suc j) v rest in
    (us ++ vs, bytes_join us vs ∙ ap (λ z. z ++ bytes_of vs) is_u ∙ ap (λ z. u ++ z) is_v ∙ sym e, (us, vs, refl, read, reads))

-- the joining of k words of one language
abbrev pub Joined : (List ℕ → Type 0) → ℕ → List ℕ → Type 0
Joined P zero w = w ≡ []
Joined P (suc k) w = (u v : List ℕ) × (w ≡ u ++ v) × P u × Joined P k v

pub to_joined : (P : List ℕ → Type 0) (j k : ℕ) (w : List ℕ) → Iterates (λ i. P) j k w → Joined P k w
to_joined P j zero w e = e
to_joined P j (suc k) w (u, v, e, here, rest) = (u, v, e, here, to_joined P (suc j) k v rest)

pub of_joined : (P : List ℕ → Type 0) (j k : ℕ) (w : List ℕ) → Joined P k w → Iterates (λ i. P) j k w
of_joined P j zero w e = e
of_joined P j (suc k) w (u, v, e, here, rest) = (u, v, e, here, of_joined P (suc j) k v rest)

mutual
  word_of : (t : Tree) (base : ℕ) (rs : List MarkedByte) → Reads t base rs → In t (bytes_of rs)
  word_of Empty base rs e = ap bytes_of e
  word_of (Set s) base rs (b, e, is) = (b, ap bytes_of e, is)
  word_of (Cat ts) base rs h = word_of_each ts base rs h
  word_of (Alt ts) base rs h = word_of_some ts base rs h
  word_of (Star t) base rs (k, passes) = (k, from_passes (In t) (λ j. Reads t base) (λ j us h. word_of t base us h) k 0 rs passes)
  word_of (Repeat t m n) base rs (k, least, most, passes) =
      (k, least, most, from_passes (In t) (λ j. Reads t (base + min j (copies m n - 1) * positions t)) (λ j us h. word_of t (base + min j (copies m n - 1) * positions t) us h) k 0 rs passes)

  word_of_each : (ts : Trees) (base : ℕ) (rs : List MarkedByte) → ReadsEach ts base rs → InEach ts (bytes_of rs)
  word_of_each no_trees base rs e = ap bytes_of e
  word_of_each (tree t ts) base rs (us, vs, e, here, rest) =
      (bytes_of us, bytes_of vs, ap bytes_of e ∙ bytes_join us vs, word_of t base us here, word_of_each ts (base + positions t) vs rest)

  word_of_some : (ts : Trees) (base : ℕ) (rs : List MarkedByte) → ReadsSome ts base rs → InSome ts (bytes_of rs)
  word_of_some no_trees base rs h = h
  word_of_some (tree t ts) base rs (inl h) = inl (word_of t base rs h)
  word_of_some (tree t ts) base rs (inr h) = inr (word_of_some ts (base + positions t) rs h)

mutual
  reading_of : (t : Tree) (base : ℕ) (w : List ℕ) → In t w → ReadsWord (Reads t base) w
  reading_of Empty base w e = ([], sym e, refl)
  reading_of (Set s) base w (b, e, is) = ((b, base) ∷ [], sym e, (b, refl, is))
  reading_of (Cat ts) base w h = reading_of_each ts base w h
  reading_of (Alt ts) base w h = reading_of_some ts base w h
  reading_of (Star t) base w (k, joined) =
      let (rs, e, passes) = to_passes (In t) (λ j. Reads t base) (λ j u h. reading_of t base u h) k 0 w joined in
      (rs, e, (k, passes))
  reading_of (Repeat t m n) base w (k, least, most, joined) =
      let (rs, e, passes) = to_passes (In t) (λ j. Reads t (base + min j (copies m n - 1) * positions t)) (λ j u h. reading_of t (base + min j (copies m n - 1) * positions t) u h) k 0 w joined in
      (rs, e, (k, least, most, passes))

  reading_of_each : (ts : Trees) (base : ℕ) (w : List ℕ) → InEach ts w → ReadsWord (ReadsEach ts base) w
  reading_of_each no_trees base w e = ([], sym e, refl)
  reading_of_each (tree t ts) base w (u, v, e, here, rest) =
      let (us, is_u, read) = reading_of t base u here in
      let (vs, is_v, reads) = reading_of_each ts (base + positions t) v rest in
      (us ++ vs, bytes_join us vs ∙ ap (λ z. z ++ bytes_of vs) is_u ∙ ap (λ z. u ++ z) is_v ∙ sym e, (us, vs, refl, read, reads))

  reading_of_some : (ts : Trees) (base : ℕ) (w : List ℕ) → InSome ts w → ReadsWord (ReadsSome ts base) w
  reading_of_some no_trees base w h = absurd h
  reading_of_some (tree t ts) base w (inl h) = (let (rs, e, read) = reading_of t base w h in (rs, e, inl read))
  reading_of_some (tree t ts) base w (inr h) = (let (rs, e, read) = reading_of_some ts (base + positions t) w h in (rs, e, inr read))

-- A word is in the language exactly if it has a reading, wherever the positions begin.
pub word_readings : (t : Tree) (base : ℕ) (w : List ℕ) → In t w ↔ ReadsWord (Reads t base) w
word_readings t base w = (λ h. reading_of t base w h, λ (rs, e, read). subst (In t) e (word_of t base rs read))

-- the words that a tree matches
pub match_of : (t : Tree) (w : List ℕ) → In t w → Matches t w
match_of t w h = (word_readings t 0 w).0 h

pub in_of_match : (t : Tree) (w : List ℕ) → Matches t w → In t w
in_of_match t w h = (word_readings t 0 w).1 h
