-- The position automaton of a tree: which positions come first, which last, and which follow one another.
-- (This project's; the construction is Glushkov's.)
use Rattle.std.specs.Prelude.{◌≡◌, ℕ, zero, suc, ◌+◌, ◌*◌, ◌⊎◌, [], ◌∷◌, Option, Some, None}
use Rattle.lex_semantics.specs.ByteSets.{ByteSet, IsIn}
use Rattle.lex_semantics.specs.Tree.{Tree, Trees, Empty, Set, Cat, Alt, Star, Repeat, no_trees, tree}
use Rattle.lex_semantics.specs.Positions.{MarkedByte, Readings, positions}

-- the empty word is read, the positions that can be first and last, those that follow one another, and the bytes of
-- each
pub record Quad : Type 1 where
  pub null : Type 0
  pub first : ℕ → Type 0
  pub last : ℕ → Type 0
  pub follow : ℕ → ℕ → Type 0
  pub letter : MarkedByte → Type 0

abbrev pub fail : Quad
fail = record { null = ⊥; first = λ p. ⊥; last = λ p. ⊥; follow = λ p q. ⊥; letter = λ c. ⊥ }

abbrev pub skip : Quad
skip = record { null = Unit {0}; first = λ p. ⊥; last = λ p. ⊥; follow = λ p q. ⊥; letter = λ c. ⊥ }

abbrev pub leaf : ByteSet → ℕ → Quad
leaf s base =
    record {
      null = ⊥;
      first = λ p. p ≡ base;
      last = λ p. p ≡ base;
      follow = λ p q. ⊥;
      letter = λ c. (c.1 ≡ base) × IsIn s c.0;
    }

abbrev pub cat : Quad → Quad → Quad
cat x y = record {
  null = x.null × y.null;
  first = λ p. x.first p ⊎ (x.null × y.first p);
  last = λ p. y.last p ⊎ (y.null × x.last p);
  follow = λ p q. x.follow p q ⊎ (y.follow p q ⊎ (x.last p × y.first q));
  letter = λ c. x.letter c ⊎ y.letter c;
}

abbrev pub alt : Quad → Quad → Quad
alt x y = record {
  null = x.null ⊎ y.null;
  first = λ p. x.first p ⊎ y.first p;
  last = λ p. x.last p ⊎ y.last p;
  follow = λ p q. x.follow p q ⊎ y.follow p q;
  letter = λ c. x.letter c ⊎ y.letter c;
}

-- one pass or more
abbrev pub plus : Quad → Quad
plus x =
    record {
      null = x.null;
      first = x.first;
      last = x.last;
      follow = λ p q. x.follow p q ⊎ (x.last p × x.first q);
      letter = x.letter;
    }

abbrev pub opt : Quad → Quad
opt x = record { null = Unit {0}; first = x.first; last = x.last; follow = x.follow; letter = x.letter }

-- at least m and at most n passes over the copies from j on
abbrev pub times : (ℕ → Quad) → ℕ → ℕ → ℕ → Quad
times x j zero zero = skip
times x j (suc m) zero = fail
times x j zero (suc n) = opt (cat (x j) (times x (suc j) zero n))
times x j (suc m) (suc n) = cat (x j) (times x (suc j) m n)

-- m passes over the copies from j on, and then one pass or more over the last
abbrev pub chain : (ℕ → Quad) → ℕ → ℕ → Quad
chain x j zero = plus (x j)
chain x j (suc m) = cat (x j) (chain x (suc j) m)

abbrev pub repeated : (ℕ → Quad) → ℕ → Option ℕ → Quad
repeated x m (Some n) = times x 0 m n
repeated x zero None = opt (plus (x 0))
repeated x (suc m) None = chain x 0 m

abbrev mutual
  pub quad : Tree → ℕ → Quad
  quad Empty base = skip
  quad (Set s) base = leaf s base
  quad (Cat ts) base = quad_all ts base
  quad (Alt ts) base = quad_one ts base
  quad (Star t) base = opt (plus (quad t base))
  quad (Repeat t m n) base = repeated (λ j. quad t (base + j * positions t)) m n

  pub quad_all : Trees → ℕ → Quad
  quad_all no_trees base = skip
  quad_all (tree t ts) base = cat (quad t base) (quad_all ts (base + positions t))

  pub quad_one : Trees → ℕ → Quad
  quad_one no_trees base = fail
  quad_one (tree t ts) base = alt (quad t base) (quad_one ts (base + positions t))

-- after this cell, the rest of a reading
abbrev pub From : Quad → MarkedByte → Readings
From x c [] = x.last c.1
From x c (d ∷ rs) = x.follow c.1 d.1 × x.letter d × From x d rs

-- a whole reading
abbrev pub Whole : Quad → Readings
Whole x [] = x.null
Whole x (c ∷ rs) = x.first c.1 × x.letter c × From x c rs
