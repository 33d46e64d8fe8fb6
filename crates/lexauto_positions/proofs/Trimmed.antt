-- In a sound tree every position leads to an end.
use Rattle.std.specs.Prelude.{◌≡◌, ℕ, zero, suc, ◌+◌, ◌*◌, ◌<◌, ◌≤◌, max, ◌⊎◌, List, [], ◌∷◌, ◌++◌, Option, Some, None, IfSome}
use Rattle.std.proofs.Common.{inl, inr, refl, subst, arith}
use Rattle.lex_semantics.specs.Tree.{Tree, Trees, Empty, Set, Cat, Alt, Star, Repeat, no_trees, tree}
use Rattle.lex_semantics.specs.Positions.{MarkedByte, copies, positions, positions_of}
use Rattle.lex_semantics.specs.Shapes.{IsSoundTree, AreSoundTrees, HasPart}
use Rattle.lexauto_positions.specs.PositionAutomaton.{Quad, skip, cat, alt, plus, opt, times, chain, repeated, quad, quad_all, quad_one, From, Whole}
use Rattle.lexauto_positions.proofs.Parts.{join, join_from, in_right, chosen_left, from_more, in_plus}

-- the bounds of a repetition are in order, the greater at least 1
abbrev pub FitsUnder : ℕ → Option ℕ → Type 0
FitsUnder m n = IfSome n (λ n. (m ≤ n) × (1 ≤ n))

-- from the position something reaches an end, and some byte leads to it
abbrev pub Finishes : Quad → ℕ → Type 0
Finishes x p = (rs : List MarkedByte) × From x (0, p) rs × ((b : ℕ) × x.letter (b, p))

pub record Trim (x : Quad) (lo hi : ℕ) : Type 0 where
  pub some : (rs : List MarkedByte) × Whole x rs
  pub each : (p : ℕ) → lo ≤ p → p < hi → Finishes x p

-- only the position of a cell matters after it
pub from_any : (x : Quad) (c d : MarkedByte) → c.1 ≡ d.1 → (rs : List MarkedByte) → From x c rs → From x d rs
from_any x c d e [] f = subst x.last e f
from_any x c d e (h ∷ rs) f = (subst (λ (p : ℕ). x.follow p h.1) e f.0, f.1, f.2)

split_at : (a b p : ℕ) → a ≤ b → (p < a) ⊎ (a ≤ p)
split_at a b p h = grind arith

pub cat_each : (x y : Quad) (a b c : ℕ) → ((p : ℕ) → a ≤ p → p < b → Finishes x p) → Trim y b c → (p : ℕ) → a ≤ p → p < c → Finishes (cat x y) p
cat_each x y a b c u v p h k = elim (split_at b b p (omega arith)) [
  | inl g ↦ (let f = u p h g in (f.0 ++ (v.some).0, join_from x y (0, p) f.0 (v.some).0 f.1 (v.some).1, ((f.2).0, inl (f.2).1)))
  | inr g ↦ (let f = v.each p g k in (f.0, in_right x y (0, p) f.0 f.1, ((f.2).0, inr (f.2).1)))
]

trim_cat : (x y : Quad) (a b c : ℕ) → Trim x a b → Trim y b c → Trim (cat x y) a c
trim_cat x y a b c u v = record {
  some = ((u.some).0 ++ (v.some).0, join x y (u.some).0 (v.some).0 (u.some).1 (v.some).1);
  each = cat_each x y a b c u.each v;
}

alt_each : (x y : Quad) (a b c : ℕ) → ((p : ℕ) → a ≤ p → p < b → Finishes x p) → ((p : ℕ) → b ≤ p → p < c → Finishes y p) → (p : ℕ) → a ≤ p → p < c → Finishes (alt x y) p
alt_each x y a b c u v p h k = elim (split_at b b p (omega arith)) [
  | inl g ↦ (let f = u p h g in (f.0, from_more x (alt x y) (λ p h. inl h) (λ p q h. inl h) (λ c h. inl h) (0, p) f.0 f.1, ((f.2).0, inl (f.2).1)))
  | inr g ↦ (let f = v p g k in (f.0, from_more y (alt x y) (λ p h. inr h) (λ p q h. inr h) (λ c h. inr h) (0, p) f.0 f.1, ((f.2).0, inr (f.2).1)))
]

trim_plus : (x : Quad) (a b : ℕ) → Trim x a b → Trim (plus x) a b
trim_plus x a b u = record {
  some = plus_some (u.some).0 (u.some).1;
  each = λ p h k. let f = u.each p h k in (f.0, in_plus x (0, p) f.0 f.1, f.2);
}
  where
    plus_some : (rs : List MarkedByte) → Whole x rs → (rs : List MarkedByte) × Whole (plus x) rs
    plus_some [] w = ([], w)
    plus_some (c ∷ rs) w = (c ∷ rs, (w.0, w.1, in_plus x c rs w.2))

trim_opt : (x : Quad) (a b : ℕ) → Trim x a b → Trim (opt x) a b
trim_opt x a b u = record {
  some = ([], tt);
  each = λ p h k. let f = u.each p h k in (f.0, from_more x (opt x) (λ p h. h) (λ p q h. h) (λ c h. h) (0, p) f.0 f.1, f.2);
}

pub trim_skip : (a b : ℕ) → b ≤ a → Trim skip a b
trim_skip a b h = record { some = ([], tt); each = λ p g k. absurd (omega arith) }

-- the same over other names of the bounds
pub moved : (x : Quad) (a b c d : ℕ) → a ≤ c → d ≤ b → Trim x a b → Trim x c d
moved x a b c d h k u = record { some = u.some; each = λ p f g. u.each p (omega arith) (omega arith) }

module _ (x : ℕ → Quad) (base s : ℕ) where
  trim_times : (m n j : ℕ) → m ≤ n → ((i : ℕ) → Trim (x i) (base + i * s) (base + suc i * s)) → Trim (times x j m n) (base + j * s) (base + (j + n) * s)
  trim_times zero zero j h d = trim_skip (base + j * s) (base + (j + 0) * s) (omega arith)
  trim_times (suc m) zero j h d = absurd (omega arith)
  trim_times zero (suc n) j h d =
      moved (times x j zero (suc n)) (base + j * s) (base + (suc j + n) * s) (base + j * s) (base + (j + suc n) * s) (omega arith) (omega arith)
      (trim_opt (cat (x j) (times x (suc j) zero n)) (base + j * s) (base + (suc j + n) * s)
      (trim_cat (x j) (times x (suc j) zero n) (base + j * s) (base + suc j * s) (base + (suc j + n) * s) (d j) (trim_times zero n (suc j) (omega arith) d)))
  trim_times (suc m) (suc n) j h d =
      moved (times x j (suc m) (suc n)) (base + j * s) (base + (suc j + n) * s) (base + j * s) (base + (j + suc n) * s) (omega arith) (omega arith)
      (trim_cat (x j) (times x (suc j) m n) (base + j * s) (base + suc j * s) (base + (suc j + n) * s) (d j) (trim_times m n (suc j) (omega arith) d))

  trim_chain : (m j : ℕ) → ((i : ℕ) → Trim (x i) (base + i * s) (base + suc i * s)) → Trim (chain x j m) (base + j * s) (base + (j + suc m) * s)
  trim_chain zero j d =
      moved (plus (x j)) (base + j * s) (base + suc j * s) (base + j * s) (base + (j + 1) * s) (omega arith) (omega arith) (trim_plus (x j) (base + j * s) (base + suc j * s) (d j))
  trim_chain (suc m) j d =
      moved (chain x j (suc m)) (base + j * s) (base + (suc j + suc m) * s) (base + j * s) (base + (j + suc (suc m)) * s) (omega arith) (omega arith)
      (trim_cat (x j) (chain x (suc j) m) (base + j * s) (base + suc j * s) (base + (suc j + suc m) * s) (d j) (trim_chain m (suc j) d))

module _ (D : ℕ → Quad) (base s : ℕ) (each : (b : ℕ) → Trim (D b) b (b + s)) where
  copy_trim : (i : ℕ) → Trim (D (base + i * s)) (base + i * s) (base + suc i * s)
  copy_trim i = moved (D (base + i * s)) (base + i * s) (base + i * s + s) (base + i * s) (base + suc i * s) (omega arith) (omega arith) (each (base + i * s))

  trim_repeated : (m : ℕ) (n : Option ℕ) → FitsUnder m n → Trim (repeated (λ j. D (base + j * s)) m n) base (base + copies m n * s)
  trim_repeated m (Some n) h =
      moved (times (λ j. D (base + j * s)) 0 m n) (base + 0 * s) (base + (0 + n) * s) base (base + n * s) (omega arith) (omega arith) (trim_times (λ j. D (base + j * s)) base s m n 0 h.0 copy_trim)
  trim_repeated zero None h =
      moved (opt (plus (D (base + 0 * s)))) (base + 0 * s) (base + suc 0 * s) base (base + 1 * s) (omega arith) (omega arith)
      (trim_opt (plus (D (base + 0 * s))) (base + 0 * s) (base + suc 0 * s) (trim_plus (D (base + 0 * s)) (base + 0 * s) (base + suc 0 * s) (copy_trim 0)))
  trim_repeated (suc m) None h =
      moved (chain (λ j. D (base + j * s)) 0 m) (base + 0 * s) (base + (0 + suc m) * s) base (base + max (suc m) 1 * s) (omega arith) (let e : max (suc m) 1 ≡ suc m = omega arith in rw e (omega arith))
      (trim_chain (λ j. D (base + j * s)) base s m 0 copy_trim)

mutual
  pub trim : (t : Tree) (base : ℕ) → IsSoundTree t → Trim (quad t base) base (base + positions t)
  trim Empty base h = trim_skip base (base + 0) (omega arith)
  trim (Set s) base h = record { some = ((h.0, base) ∷ [], (refl, (refl, h.1), refl)); each = λ p g k. ([], omega arith, (h.0, (omega arith, h.1))) }
  trim (Cat ts) base h = trim_all ts base h.0
  trim (Alt ts) base h = trim_one ts base h.1 h.0
  trim (Star t) base h = trim_opt (plus (quad t base)) base (base + positions t) (trim_plus (quad t base) base (base + positions t) (trim t base h))
  trim (Repeat t m n) base h = trim_repeated (quad t) base (positions t) (λ b. trim t b h.0) m n h.1

  trim_all : (ts : Trees) (base : ℕ) → AreSoundTrees ts → Trim (quad_all ts base) base (base + positions_of ts)
  trim_all no_trees base h = trim_skip base (base + 0) (omega arith)
  trim_all (tree t ts) base h =
      moved (quad_all (tree t ts) base) base (base + positions t + positions_of ts) base (base + (positions t + positions_of ts)) (omega arith) (omega arith)
      (trim_cat (quad t base) (quad_all ts (base + positions t)) base (base + positions t) (base + positions t + positions_of ts) (trim t base h.0) (trim_all ts (base + positions t) h.1))

  trim_one : (ts : Trees) (base : ℕ) → HasPart ts → AreSoundTrees ts → Trim (quad_one ts base) base (base + positions_of ts)
  trim_one no_trees base h k = absurd (h refl)
  trim_one (tree t ts) base h k = record {
    some = ((trim t base k.0).some.0, chosen_left (quad t base) (quad_one ts (base + positions t)) (trim t base k.0).some.0 (trim t base k.0).some.1);
    each = λ p f g. alt_each (quad t base) (quad_one ts (base + positions t)) base (base + positions t) (base + positions t + positions_of ts) (trim t base k.0).each (each_one ts (base + positions t) k.1) p f (omega arith);
  }

  each_one : (ts : Trees) (base : ℕ) → AreSoundTrees ts → (p : ℕ) → base ≤ p → p < base + positions_of ts → Finishes (quad_one ts base) p
  each_one no_trees base h p f g = absurd (omega arith)
  each_one (tree t ts) base h p f g =
      alt_each (quad t base) (quad_one ts (base + positions t)) base (base + positions t) (base + positions t + positions_of ts) (trim t base h.0).each (each_one ts (base + positions t) h.1) p f (omega arith)
