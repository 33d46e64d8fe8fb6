-- Which positions a reading uses.
use Rattle.std.proofs.Common.{IfSome, ◌≡◌, ℕ, zero, suc, ◌+◌, ◌-◌, ◌*◌, ◌≤◌, ◌<◌, min, List, [], ◌∷◌, ◌++◌, Option, Some, None, ◌⊎◌, inl, inr, ⊎_elim, ap, subst, arith}
use Rattle.lex_semantics.specs.Positions.{MarkedByte, Readings, Reads, ReadsEach, ReadsSome, positions, positions_of, copies}
use Rattle.lex_semantics.specs.Text.{Among}
use Rattle.lex_semantics.specs.Tree.{Tree, Trees, Empty, Set, Cat, Alt, Star, Repeat, no_trees, tree, Iterates}
use Rattle.lexre.specs.Readings.{UsesFrom}

among_both : (us vs : List MarkedByte) (c : MarkedByte) → Among (us ++ vs) c → Among us c ⊎ Among vs c
among_both [] vs c h = inr h
among_both (u ∷ us) vs c (inl e) = inl (inl e)
among_both (u ∷ us) vs c (inr h) = ⊎_elim (λ i. inl (inr i)) (λ i. inr i) (among_both us vs c h)

wider : (lo hi low high : ℕ) (rs : List MarkedByte) → low ≤ lo → hi ≤ high → UsesFrom lo hi rs → UsesFrom low high rs
wider lo hi low high rs l h inside = λ c i. (let p = inside c i in (omega (arith, p.0), omega (arith, p.1)))

joining : (lo hi : ℕ) (rs us vs : List MarkedByte) → rs ≡ us ++ vs → UsesFrom lo hi us → UsesFrom lo hi vs → UsesFrom lo hi rs
joining lo hi rs us vs e front back =
    λ c i. ⊎_elim (front c) (back c) (among_both us vs c (subst (λ (x : List MarkedByte). Among x c) e i))

nothing : (lo hi : ℕ) (rs : List MarkedByte) → rs ≡ [] → UsesFrom lo hi rs
nothing lo hi rs e = λ c i. absurd (subst (λ (x : List MarkedByte). Among x c) e i)

passing : (R : ℕ → Readings) (lo hi : ℕ) → ((j : ℕ) (us : List MarkedByte) → R j us → UsesFrom lo hi us) → (j k : ℕ) (rs : List MarkedByte) → Iterates R j k rs → UsesFrom lo hi rs
passing R lo hi each j zero rs e = nothing lo hi rs e
passing R lo hi each j (suc k) rs (us, vs, e, here, rest) =
    joining lo hi rs us vs e (each j us here) (passing R lo hi each (suc j) k vs rest)

-- a copy lies within its repetition
copy_fits : (i c p : ℕ) → i < c → i * p + p ≤ c * p
copy_fits i c p h = grind arith

some_copy : (m : ℕ) (n : Option ℕ) (k : ℕ) → IfSome n (λ n. suc k ≤ n) → 1 ≤ copies m n
some_copy m None k h = omega arith
some_copy m (Some n) k h = omega arith

one_cell : (base b : ℕ) (rs : List MarkedByte) → rs ≡ (b, base) ∷ [] → UsesFrom base (base + 1) rs
one_cell base b rs e = λ c i. ⊎_elim (λ f. (let g : c.1 ≡ base = ap (λ (x : MarkedByte). x.1) f in (omega (arith, g), omega (arith, g)))) (λ j. absurd j) (subst (λ (x : List MarkedByte). Among x c) e i)

mutual
  pub uses : (t : Tree) (base : ℕ) (rs : List MarkedByte) → Reads t base rs → UsesFrom base (base + positions t) rs
  uses Empty base rs e = nothing base (base + 0) rs e
  uses (Set s) base rs (b, e, here) = one_cell base b rs e
  uses (Cat ts) base rs h = uses_each ts base rs h
  uses (Alt ts) base rs h = uses_some ts base rs h
  uses (Star t) base rs (k, h) = passing (λ j. Reads t base) base (base + positions t) (λ j us read. uses t base us read) 0 k rs h
  uses (Repeat t m n) base rs (zero, low, high, h) = nothing base (base + copies m n * positions t) rs h
  uses (Repeat t m n) base rs (suc k, low, high, h) =
      passing (λ j. Reads t (base + min j (copies m n - 1) * positions t)) base (base + copies m n * positions t) (λ j us read.
      let at = min j (copies m n - 1) in
      let some : 1 ≤ copies m n = some_copy m n k high in
      let fits : at * positions t + positions t ≤ copies m n * positions t = copy_fits at (copies m n) (positions t) (omega arith) in
      wider (base + at * positions t) (base + at * positions t + positions t) base (base + copies m n * positions t) us (omega arith) (omega arith) (uses t (base + at * positions t) us read))
      0 (suc k) rs h

  uses_each : (ts : Trees) (base : ℕ) (rs : List MarkedByte) → ReadsEach ts base rs → UsesFrom base (base + positions_of ts) rs
  uses_each no_trees base rs e = nothing base (base + 0) rs e
  uses_each (tree t ts) base rs (us, vs, e, here, rest) =
      joining base (base + (positions t + positions_of ts)) rs us vs e
      (wider base (base + positions t) base (base + (positions t + positions_of ts)) us (omega arith) (omega arith) (uses t base us here))
      (wider (base + positions t) (base + positions t + positions_of ts) base (base + (positions t + positions_of ts)) vs (omega arith) (omega arith) (uses_each ts (base + positions t) vs rest))

  uses_some : (ts : Trees) (base : ℕ) (rs : List MarkedByte) → ReadsSome ts base rs → UsesFrom base (base + positions_of ts) rs
  uses_some no_trees base rs h = absurd h
  uses_some (tree t ts) base rs (inl h) =
      wider base (base + positions t) base (base + (positions t + positions_of ts)) rs (omega arith) (omega arith) (uses t base rs h)
  uses_some (tree t ts) base rs (inr h) =
      wider (base + positions t) (base + positions t + positions_of ts) base (base + (positions t + positions_of ts)) rs (omega arith) (omega arith) (uses_some ts (base + positions t) rs h)
