-- Glushkov's theorem for patterns with counted repetition.
use Rattle.std.specs.Prelude.{◌≡◌, ℕ, zero, suc, ◌+◌, ◌-◌, ◌*◌, ◌<◌, ◌≤◌, min, max, ◌⊎◌, List, [], ◌∷◌, ◌++◌, Option, Some, None}
use Rattle.std.proofs.Common.{IfSome, inl, inr, refl, ap, sym, subst, arith}
use Rattle.lex_semantics.specs.ByteSets.{ByteSet, IsIn}
use Rattle.lex_semantics.specs.Tree.{Tree, Trees, Empty, Set, Cat, Alt, Star, Repeat, no_trees, tree, Iterates}
use Rattle.lex_semantics.specs.Positions.{MarkedByte, Readings, copies, positions, positions_of, Reads, ReadsEach, ReadsSome}
use Rattle.lexauto_positions.specs.PositionAutomaton.{Quad, fail, skip, leaf, cat, alt, plus, opt, times, chain, repeated, quad, quad_all, quad_one, Whole}
use Rattle.lexauto_positions.proofs.Parts.{Within, cut, join, choose, chosen_left, chosen_right, cut_plus, in_star, in_some, opt_more, opt_less}

-- the automaton reads just these readings, by positions from lo up to hi
pub record Describes (x : Quad) (L : Readings) (lo hi : ℕ) : Type 0 where
  pub within : Within x lo hi
  pub sound : (rs : List MarkedByte) → Whole x rs → L rs
  pub complete : (rs : List MarkedByte) → L rs → Whole x rs

abbrev pub Joined : Readings → Readings → Readings
Joined L M rs = (us vs : List MarkedByte) × (rs ≡ us ++ vs) × L us × M vs

pub wider : (x : Quad) (a b c d : ℕ) → Within x b c → a ≤ b → c ≤ d → Within x a d
wider x a b c d w h k = record {
  first = λ p f. let r = w.first p f in (omega arith, omega arith);
  last = λ p f. let r = w.last p f in (omega arith, omega arith);
  follow = λ p q f. let r = w.follow p q f in (omega arith, omega arith, omega arith, omega arith);
  letter = λ e f. let r = w.letter e f in (omega arith, omega arith);
}

pub within_cat : (x y : Quad) (a b c : ℕ) → a ≤ b → b ≤ c → Within x a b → Within y b c → Within (cat x y) a c
within_cat x y a b c h k u v = record {
  first = λ p f. elim f [ inl g ↦ (let r = u.first p g in (omega arith, omega arith)) | inr g ↦ (let r = v.first p g.1 in (omega arith, omega arith)) ];
  last = λ p f. elim f [ inl g ↦ (let r = v.last p g in (omega arith, omega arith)) | inr g ↦ (let r = u.last p g.1 in (omega arith, omega arith)) ];
  follow = λ p q f. elim f [
    | inl g ↦ (let r = u.follow p q g in (omega arith, omega arith, omega arith, omega arith))
    | inr (inl g) ↦ (let r = v.follow p q g in (omega arith, omega arith, omega arith, omega arith))
    | inr (inr g) ↦ (let r = u.last p g.0 in let s = v.first q g.1 in (omega arith, omega arith, omega arith, omega arith))
  ];
  letter = λ e f. elim f [ inl g ↦ (let r = u.letter e g in (omega arith, omega arith)) | inr g ↦ (let r = v.letter e g in (omega arith, omega arith)) ];
}

pub within_alt : (x y : Quad) (a b c : ℕ) → a ≤ b → b ≤ c → Within x a b → Within y b c → Within (alt x y) a c
within_alt x y a b c h k u v = record {
  first = λ p f. elim f [ inl g ↦ (let r = u.first p g in (omega arith, omega arith)) | inr g ↦ (let r = v.first p g in (omega arith, omega arith)) ];
  last = λ p f. elim f [ inr g ↦ (let r = v.last p g in (omega arith, omega arith)) | inl g ↦ (let r = u.last p g in (omega arith, omega arith)) ];
  follow = λ p q f. elim f [
    | inl g ↦ (let r = u.follow p q g in (omega arith, omega arith, omega arith, omega arith))
    | inr g ↦ (let r = v.follow p q g in (omega arith, omega arith, omega arith, omega arith))
  ];
  letter = λ e f. elim f [ inl g ↦ (let r = u.letter e g in (omega arith, omega arith)) | inr g ↦ (let r = v.letter e g in (omega arith, omega arith)) ];
}

within_plus : (x : Quad) (a b : ℕ) → Within x a b → Within (plus x) a b
within_plus x a b u = record {
  first = u.first;
  last = u.last;
  follow = λ p q f. elim f [
    | inl g ↦ u.follow p q g
    | inr g ↦ (let r = u.last p g.0 in let s = u.first q g.1 in (omega arith, omega arith, omega arith, omega arith))
  ];
  letter = u.letter;
}

within_opt : (x : Quad) (a b : ℕ) → Within x a b → Within (opt x) a b
within_opt x a b u = record { first = u.first; last = u.last; follow = u.follow; letter = u.letter }

within_none : (x : Quad) (a : ℕ) → ((p : ℕ) → x.first p → ⊥) → ((p : ℕ) → x.last p → ⊥) → ((p q : ℕ) → x.follow p q → ⊥) → ((e : MarkedByte) → x.letter e → ⊥) → Within x a a
within_none x a f l g t = record {
  first = λ p h. absurd (f p h);
  last = λ p h. absurd (l p h);
  follow = λ p q h. absurd (g p q h);
  letter = λ e h. absurd (t e h);
}

within_skip : (a : ℕ) → Within skip a a
within_skip a = within_none skip a (λ p h. h) (λ p h. h) (λ p q h. h) (λ e h. h)

pub within_fail : (a : ℕ) → Within fail a a
within_fail a = within_none fail a (λ p h. h) (λ p h. h) (λ p q h. h) (λ e h. h)

pub skip_is : (a : ℕ) → Describes skip (λ rs. rs ≡ []) a a
skip_is a = record {
  within = within_skip a;
  sound = λ rs. elim rs as (λ rs. Whole skip rs → rs ≡ []) [ [] ↦ (λ w. refl) | e ∷ es ↦ (λ w. absurd w.0) ];
  complete = λ rs e. rw e tt;
}

leaf_is : (s : ByteSet) (a : ℕ) → Describes (leaf s a) (λ rs. (b : ℕ) × (rs ≡ (b, a) ∷ []) × IsIn s b) a (a + 1)
leaf_is s a = record {
  within = record {
    first = λ p f. (omega arith, omega arith);
    last = λ p f. (omega arith, omega arith);
    follow = λ p q f. absurd f;
    letter = λ e f. let r = f.0 in (omega arith, omega arith);
  };
  sound = leaf_sound s a;
  complete = λ rs r. rw r.1 (refl, (refl, r.2), refl);
}
  where
    leaf_sound : (s : ByteSet) (a : ℕ) (rs : List MarkedByte) → Whole (leaf s a) rs → (b : ℕ) × (rs ≡ (b, a) ∷ []) × IsIn s b
    leaf_sound s a [] w = absurd w
    leaf_sound s a (e ∷ []) w = (e.0, ap (λ p. (e.0, p) ∷ []) w.0, (w.1).1)
    leaf_sound s a (e ∷ d ∷ rs) w = absurd (w.2).0

pub cat_is : (x y : Quad) (L M : Readings) (a b c : ℕ) → a ≤ b → b ≤ c → Describes x L a b → Describes y M b c → Describes (cat x y) (Joined L M) a c
cat_is x y L M a b c h k u v = record {
  within = within_cat x y a b c h k u.within v.within;
  sound = λ rs w. let r = cut x y a b c u.within v.within rs w in (r.0, r.1, r.2, u.sound r.0 r.3, v.sound r.1 r.4);
  complete = λ rs r. rw r.2 (join x y r.0 r.1 (u.complete r.0 r.3) (v.complete r.1 r.4));
}

pub alt_is : (x y : Quad) (L M : Readings) (a b c : ℕ) → a ≤ b → b ≤ c → Describes x L a b → Describes y M b c → Describes (alt x y) (λ rs. L rs ⊎ M rs) a c
alt_is x y L M a b c h k u v = record {
  within = within_alt x y a b c h k u.within v.within;
  sound = λ rs w. elim (choose x y a b c u.within v.within rs w) [ inl l ↦ inl (u.sound rs l) | inr r ↦ inr (v.sound rs r) ];
  complete = λ rs r. elim r [ inl l ↦ chosen_left x y rs (u.complete rs l) | inr r ↦ chosen_right x y rs (v.complete rs r) ];
}

star_is : (x : Quad) (L : ℕ → Readings) (lo hi : ℕ) → Describes x (L 0) lo hi → ((i : ℕ) → L 0 ≡ L i) → Describes (opt (plus x)) (λ rs. (k : ℕ) × Iterates L 0 k rs) lo hi
star_is x L lo hi d same = record {
  within = within_opt (plus x) lo hi (within_plus x lo hi d.within);
  sound = λ rs w. elim (opt_less (plus x) rs w) [
    | inl e ↦ (0, e)
    | inr w ↦ (let r = cut_plus x L 0 (λ i h rs w. subst (λ (M : Readings). M rs) (same i) (d.sound rs w)) rs w in (suc r.0, r.1))
  ];
  complete = λ rs r. in_star x L 0 (λ i h rs l. d.complete rs (subst (λ (M : Readings). M rs) (sym (same i)) l)) r.0 0 (omega arith) rs r.1;
}

-- what P describes, said otherwise
pub restate : (x : Quad) (L M : Readings) (a b c d : ℕ) → a ≡ c → b ≡ d → ((rs : List MarkedByte) → L rs → M rs) → ((rs : List MarkedByte) → M rs → L rs) → Describes x L a b → Describes x M c d
restate x L M a b c d e f to back r = record {
  within = wider x c a b d r.within (omega arith) (omega arith);
  sound = λ rs w. to rs (r.sound rs w);
  complete = λ rs m. r.complete rs (back rs m);
}

module _ (x : ℕ → Quad) (L : ℕ → Readings) (base s : ℕ) where
  abbrev Counted : ℕ → ℕ → ℕ → Readings
  Counted j m n rs = (k : ℕ) × (m ≤ k) × (k ≤ n) × Iterates L j k rs

  abbrev Copy : ℕ → Type 0
  Copy i = Describes (x i) (L i) (base + i * s) (base + suc i * s)

  -- a first pass, or none where none is needed
  begin_zero : (n j : ℕ) → Describes (cat (x j) (times x (suc j) zero n)) (Joined (L j) (Counted (suc j) zero n)) (base + j * s) (base + (suc j + n) * s) → (rs : List MarkedByte) (k : ℕ) → k ≤ suc n → Iterates L j k rs → Whole (opt (cat (x j) (times x (suc j) zero n))) rs
  begin_zero n j both rs zero h p = rw p tt
  begin_zero n j both rs (suc k) h p = opt_more (cat (x j) (times x (suc j) zero n)) rs (both.complete rs (p.0, p.1, p.2, p.3, (k, omega arith, omega arith, p.4)))

  begin_more : (m n j : ℕ) → Describes (cat (x j) (times x (suc j) m n)) (Joined (L j) (Counted (suc j) m n)) (base + j * s) (base + (suc j + n) * s) → (rs : List MarkedByte) (k : ℕ) → suc m ≤ k → k ≤ suc n → Iterates L j k rs → Whole (cat (x j) (times x (suc j) m n)) rs
  begin_more m n j both rs zero g h p = absurd (omega arith)
  begin_more m n j both rs (suc k) g h p = both.complete rs (p.0, p.1, p.2, p.3, (k, omega arith, omega arith, p.4))

  none_left : (j k : ℕ) → k ≤ 0 → (rs : List MarkedByte) → Iterates L j k rs → rs ≡ []
  none_left j zero h rs p = p
  none_left j (suc k) h rs p = absurd (omega arith)

  pub times_is : (m n j : ℕ) → ((i : ℕ) → j ≤ i → i < j + n → Copy i) → Describes (times x j m n) (Counted j m n) (base + j * s) (base + (j + n) * s)
  times_is zero zero j d = record {
    within = wider skip (base + j * s) (base + j * s) (base + j * s) (base + (j + 0) * s) (within_skip (base + j * s)) (omega arith) (omega arith);
    sound = λ rs w. (0, omega arith, omega arith, (skip_is base).sound rs w);
    complete = λ rs r. (skip_is base).complete rs (none_left j r.0 r.2 rs r.3);
  }
  times_is (suc m) zero j d = record {
    within = wider fail (base + j * s) (base + j * s) (base + j * s) (base + (j + 0) * s) (within_fail (base + j * s)) (omega arith) (omega arith);
    sound = λ rs. elim rs as (λ rs. Whole fail rs → Counted j (suc m) 0 rs) [ [] ↦ (λ w. absurd w) | e ∷ es ↦ (λ w. absurd w.0) ];
    complete = λ rs r. absurd (let a = r.1 in let b = r.2 in omega arith);
  }
  times_is zero (suc n) j d =
      let tail = times_is zero n (suc j) (λ i a b. d i (omega arith) (omega arith)) in
      let both = cat_is (x j) (times x (suc j) zero n) (L j) (Counted (suc j) zero n) (base + j * s) (base + suc j * s) (base + (suc j + n) * s) (omega arith) (omega arith) (d j (omega arith) (omega arith)) tail in
      record {
        within = wider (times x j zero (suc n)) (base + j * s) (base + j * s) (base + (suc j + n) * s) (base + (j + suc n) * s) (within_opt (cat (x j) (times x (suc j) zero n)) (base + j * s) (base + (suc j + n) * s) both.within) (omega arith) (omega arith);
        sound = λ rs w. elim (opt_less (cat (x j) (times x (suc j) zero n)) rs w) [
          | inl e ↦ (0, omega arith, omega arith, e)
          | inr w ↦ (let c = both.sound rs w in let k = (c.4).0 in let h = (c.4).2 in (suc k, omega arith, omega arith, (c.0, c.1, c.2, c.3, (c.4).3)))
        ];
        complete = λ rs r. begin_zero n j both rs r.0 r.2 r.3;
      }
  times_is (suc m) (suc n) j d =
      let tail = times_is m n (suc j) (λ i a b. d i (omega arith) (omega arith)) in
      let both = cat_is (x j) (times x (suc j) m n) (L j) (Counted (suc j) m n) (base + j * s) (base + suc j * s) (base + (suc j + n) * s) (omega arith) (omega arith) (d j (omega arith) (omega arith)) tail in
      record {
        within = wider (times x j (suc m) (suc n)) (base + j * s) (base + j * s) (base + (suc j + n) * s) (base + (j + suc n) * s) both.within (omega arith) (omega arith);
        sound = λ rs w. let c = both.sound rs w in let k = (c.4).0 in let g = (c.4).1 in let h = (c.4).2 in (suc k, omega arith, omega arith, (c.0, c.1, c.2, c.3, (c.4).3));
        complete = λ rs r. begin_more m n j both rs r.0 r.1 r.2 r.3;
      }

  abbrev AtLeast : ℕ → ℕ → Readings
  AtLeast j m rs = (k : ℕ) × (m ≤ k) × Iterates L j k rs

  begin_chain : (m j : ℕ) → Describes (cat (x j) (chain x (suc j) m)) (Joined (L j) (AtLeast (suc j) (suc m))) (base + j * s) (base + (suc j + suc m) * s) → (rs : List MarkedByte) (k : ℕ) → suc (suc m) ≤ k → Iterates L j k rs → Whole (cat (x j) (chain x (suc j) m)) rs
  begin_chain m j both rs zero g p = absurd (omega arith)
  begin_chain m j both rs (suc k) g p = both.complete rs (p.0, p.1, p.2, p.3, (k, omega arith, p.4))

  module _ (final : ℕ) (same : (i k : ℕ) → final ≤ i → final ≤ k → L i ≡ L k) where
    some_passes : (j : ℕ) → final ≤ j → Describes (x j) (L j) (base + j * s) (base + suc j * s) → (rs : List MarkedByte) (k : ℕ) → 1 ≤ k → Iterates L j k rs → Whole (plus (x j)) rs
    some_passes j e d rs zero h p = absurd (omega arith)
    some_passes j e d rs (suc k) h p = in_some (x j) L j (λ i up rs l. d.complete rs (subst (λ (M : Readings). M rs) (same i j (omega arith) e) l)) k j (omega arith) rs p

    pub chain_is : (m j : ℕ) → j + m ≡ final → ((i : ℕ) → j ≤ i → i ≤ j + m → Copy i) → Describes (chain x j m) (AtLeast j (suc m)) (base + j * s) (base + (j + suc m) * s)
    chain_is zero j e d =
        let low : final ≤ j = omega arith in
        let here : Copy j = d j (omega arith) (omega arith) in
        record {
          within = wider (plus (x j)) (base + j * s) (base + j * s) (base + suc j * s) (base + (j + suc 0) * s) (within_plus (x j) (base + j * s) (base + suc j * s) here.within) (omega arith) (omega arith);
          sound = λ rs w. let r = cut_plus (x j) L j (λ i up rs w. subst (λ (M : Readings). M rs) (same j i low (omega arith)) (here.sound rs w)) rs w in (suc r.0, omega arith, r.1);
          complete = λ rs r. some_passes j low here rs r.0 r.1 r.2;
        }
    chain_is (suc m) j e d =
        let tail = chain_is m (suc j) (omega arith) (λ i a b. d i (omega arith) (omega arith)) in
        let both = cat_is (x j) (chain x (suc j) m) (L j) (AtLeast (suc j) (suc m)) (base + j * s) (base + suc j * s) (base + (suc j + suc m) * s) (omega arith) (omega arith) (d j (omega arith) (omega arith)) tail in
        record {
          within = wider (chain x j (suc m)) (base + j * s) (base + j * s) (base + (suc j + suc m) * s) (base + (j + suc (suc m)) * s) both.within (omega arith) (omega arith);
          sound = λ rs w. let c = both.sound rs w in let k = (c.4).0 in let g = (c.4).1 in (suc k, omega arith, (c.0, c.1, c.2, c.3, (c.4).2));
          complete = λ rs r. begin_chain m j both rs r.0 r.1 r.2;
        }

-- where a tree's copies are, by the copies that the passes use
module _ (D : ℕ → Quad) (R : ℕ → Readings) (base s : ℕ) (each : (b : ℕ) → Describes (D b) (R b) b (b + s)) where
  copy_is : (i k : ℕ) → k ≡ i → Describes (D (base + i * s)) (R (base + k * s)) (base + i * s) (base + suc i * s)
  copy_is i k e = restate (D (base + i * s)) (R (base + i * s)) (R (base + k * s)) (base + i * s) (base + i * s + s) (base + i * s) (base + suc i * s) refl (omega arith)
      (λ rs r. rw e r) (λ rs r. rw (← e) r) (each (base + i * s))

  -- the copies of a repetition without an upper bound: past the last one the last again
  abbrev Lasting : ℕ → ℕ → Readings
  Lasting m j = R (base + min j (max (suc m) 1 - 1) * s)

  lasting : (m i k : ℕ) → m ≤ i → m ≤ k → Lasting m i ≡ Lasting m k
  lasting m i k h g = ap (λ k. R (base + k * s)) (let e : min i (max (suc m) 1 - 1) ≡ min k (max (suc m) 1 - 1) = omega arith in e)

  repeated_is : (m : ℕ) (n : Option ℕ) → Describes (repeated (λ j. D (base + j * s)) m n) (λ rs. (k : ℕ) × (m ≤ k) × IfSome n (λ n. k ≤ n) × Iterates (λ j. R (base + min j (copies m n - 1) * s)) 0 k rs) base (base + copies m n * s)
  repeated_is m (Some n) =
      restate (times (λ j. D (base + j * s)) 0 m n) (Counted (λ j. D (base + j * s)) (λ j. R (base + min j (n - 1) * s)) base s 0 m n)
      (λ rs. (k : ℕ) × (m ≤ k) × (k ≤ n) × Iterates (λ j. R (base + min j (n - 1) * s)) 0 k rs) (base + 0 * s) (base + (0 + n) * s) base (base + n * s) (omega arith) (omega arith) (λ rs r. r) (λ rs r. r)
      (times_is (λ j. D (base + j * s)) (λ j. R (base + min j (n - 1) * s)) base s m n 0 (λ i a b. copy_is i (min i (n - 1)) (omega arith)))
  repeated_is zero None =
      restate (opt (plus (D (base + 0 * s)))) (λ rs. (k : ℕ) × Iterates (λ j. R (base + min j 0 * s)) 0 k rs)
      (λ rs. (k : ℕ) × (0 ≤ k) × Unit {0} × Iterates (λ j. R (base + min j 0 * s)) 0 k rs) (base + 0 * s) (base + suc 0 * s) base (base + 1 * s) (omega arith) (omega arith)
      (λ rs r. (r.0, omega arith, tt, r.1)) (λ rs r. (r.0, r.3))
      (star_is (D (base + 0 * s)) (λ j. R (base + min j 0 * s)) (base + 0 * s) (base + suc 0 * s) (copy_is 0 (min 0 0) (omega arith)) (λ i. ap (λ k. R (base + k * s)) (let e : min 0 0 ≡ min i 0 = omega arith in e)))
  repeated_is (suc m) None =
      restate (chain (λ j. D (base + j * s)) 0 m) (AtLeast (λ j. D (base + j * s)) (Lasting m) base s 0 (suc m))
      (λ rs. (k : ℕ) × (suc m ≤ k) × Unit {0} × Iterates (Lasting m) 0 k rs) (base + 0 * s) (base + (0 + suc m) * s) base (base + max (suc m) 1 * s) (omega arith) (let e : max (suc m) 1 ≡ suc m = omega arith in rw e (omega arith))
      (λ rs r. (r.0, r.1, tt, r.2)) (λ rs r. (r.0, r.1, r.3))
      (chain_is (λ j. D (base + j * s)) (Lasting m) base s m (lasting m) m 0 (omega arith) (λ i a b. copy_is i (min i (max (suc m) 1 - 1)) (omega arith)))

pub none_is : (a : ℕ) → Describes fail (λ rs. ⊥) a a
none_is a = record {
  within = within_fail a;
  sound = λ rs. elim rs as (λ rs. Whole fail rs → ⊥) [ [] ↦ (λ w. w) | e ∷ es ↦ (λ w. w.0) ];
  complete = λ rs r. absurd r;
}

-- The position automaton of a tree reads just what the tree reads, by the same positions.
mutual
  pub glushkov : (t : Tree) (base : ℕ) → Describes (quad t base) (Reads t base) base (base + positions t)
  glushkov Empty base = restate skip (λ rs. rs ≡ []) (Reads Empty base) base base base (base + 0) refl (omega arith) (λ rs r. r) (λ rs r. r) (skip_is base)
  glushkov (Set s) base = leaf_is s base
  glushkov (Cat ts) base = glushkov_all ts base
  glushkov (Alt ts) base = glushkov_one ts base
  glushkov (Star t) base = star_is (quad t base) (λ j. Reads t base) base (base + positions t) (glushkov t base) (λ i. refl)
  glushkov (Repeat t m n) base = repeated_is (quad t) (Reads t) base (positions t) (λ b. glushkov t b) m n

  pub glushkov_all : (ts : Trees) (base : ℕ) → Describes (quad_all ts base) (ReadsEach ts base) base (base + positions_of ts)
  glushkov_all no_trees base = restate skip (λ rs. rs ≡ []) (ReadsEach no_trees base) base base base (base + 0) refl (omega arith) (λ rs r. r) (λ rs r. r) (skip_is base)
  glushkov_all (tree t ts) base =
      let mid = base + positions t in
      restate (quad_all (tree t ts) base) (Joined (Reads t base) (ReadsEach ts (base + positions t))) (ReadsEach (tree t ts) base) base (base + positions t + positions_of ts) base (base + (positions t + positions_of ts)) refl (omega arith) (λ rs r. r) (λ rs r. r)
      (cat_is (quad t base) (quad_all ts (base + positions t)) (Reads t base) (ReadsEach ts (base + positions t)) base (base + positions t) (base + positions t + positions_of ts) (omega arith) (omega arith) (glushkov t base) (glushkov_all ts (base + positions t)))

  pub glushkov_one : (ts : Trees) (base : ℕ) → Describes (quad_one ts base) (ReadsSome ts base) base (base + positions_of ts)
  glushkov_one no_trees base = restate fail (λ rs. ⊥) (ReadsSome no_trees base) base base base (base + 0) refl (omega arith) (λ rs r. r) (λ rs r. r) (none_is base)
  glushkov_one (tree t ts) base =
      restate (quad_one (tree t ts) base) (λ rs. Reads t base rs ⊎ ReadsSome ts (base + positions t) rs) (ReadsSome (tree t ts) base) base (base + positions t + positions_of ts) base (base + (positions t + positions_of ts)) refl (omega arith) (λ rs r. r) (λ rs r. r)
      (alt_is (quad t base) (quad_one ts (base + positions t)) (Reads t base) (ReadsSome ts (base + positions t)) base (base + positions t) (base + positions t + positions_of ts) (omega arith) (omega arith) (glushkov t base) (glushkov_one ts (base + positions t)))
