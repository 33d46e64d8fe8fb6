-- Positions of a tree, and readings: which position reads each byte of a word.
-- (This project's; the words are POSIX's, lex, Regular Expressions in lex.)
use Rattle.std.specs.Prelude.{◌≡◌, ℕ, ◌+◌, ◌*◌, ◌-◌, ◌≤◌, min, max, List, [], ◌∷◌, ◌++◌, map, ◌⊎◌, Option, IfSome}
use Rattle.std.specs.Option.{unwrap_or}
use Rattle.lex_semantics.specs.ByteSets.{IsIn}
use Rattle.lex_semantics.specs.Shapes.{weight, weight_of}
use Rattle.lex_semantics.specs.Tree.{Tree, Trees, Empty, Set, Cat, Alt, Star, Repeat, no_trees, tree, Iterates}

-- how many copies of its inner tree a repetition counts
abbrev pub copies : ℕ → Option ℕ → ℕ
copies m n = unwrap_or n (max m 1)

-- how many positions a tree has: one for each set, in each copy of a repetition
abbrev pub positions : Tree → ℕ
positions t = weight (λ k. k) (λ m n k. copies m n * k) t

-- a byte, and the position that reads it
abbrev pub MarkedByte : Type 0
MarkedByte = ℕ × ℕ

-- the readings of a tree whose positions begin at the base
abbrev mutual
  pub Reads : Tree → ℕ → List MarkedByte → Type 0
  Reads Empty base rs = rs ≡ []
  Reads (Set s) base rs = (b : ℕ) × (rs ≡ (b, base) ∷ []) × IsIn s b
  Reads (Cat ts) base rs = ReadsEach ts base rs
  Reads (Alt ts) base rs = ReadsSome ts base rs
  Reads (Star t) base rs = (k : ℕ) × Iterates (λ j. Reads t base) 0 k rs
  -- pass j uses copy j, and past the last copy the last again
  Reads (Repeat t m n) base rs =
      (k : ℕ) × (m ≤ k) × IfSome n (λ n. k ≤ n)
      × Iterates (λ j. Reads t (base + min j (copies m n - 1) * positions t)) 0 k rs

  pub ReadsEach : Trees → ℕ → List MarkedByte → Type 0
  ReadsEach no_trees base rs = rs ≡ []
  ReadsEach (tree t ts) base rs =
      (us vs : List MarkedByte) × (rs ≡ us ++ vs) × Reads t base us × ReadsEach ts (base + positions t) vs

  pub ReadsSome : Trees → ℕ → List MarkedByte → Type 0
  ReadsSome no_trees base rs = ⊥
  ReadsSome (tree t ts) base rs = Reads t base rs ⊎ ReadsSome ts (base + positions t) rs

-- a word that the tree matches: the bytes of one of its readings (POSIX, lex, Regular Expressions in lex)
abbrev pub Matches : Tree → List ℕ → Type 0
Matches t w = (rs : List MarkedByte) × (map (λ c. c.0) rs ≡ w) × Reads t 0 rs

-- Names that the code and proofs have: for the positions of all the parts, for a set of readings, for the word that is
-- read, and for a word with a reading.

abbrev pub positions_of : Trees → ℕ
positions_of ts = weight_of (λ k. k) (λ m n k. copies m n * k) ts

abbrev pub Readings : Type 1
Readings = List MarkedByte → Type 0

abbrev pub bytes_of : List MarkedByte → List ℕ
bytes_of rs = map (λ c. c.0) rs

abbrev pub ReadsWord : Readings → List ℕ → Type 0
ReadsWord R w = (rs : List MarkedByte) × (bytes_of rs ≡ w) × R rs
