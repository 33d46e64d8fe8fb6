-- A position automaton reads what its tree reads.
use Rattle.std.specs.Prelude.{◌≡◌, ℕ, zero, suc, ◌<◌, ◌≤◌, ◌⊎◌, List, [], ◌∷◌, ◌++◌}
use Rattle.std.proofs.Common.{inl, inr, refl, ap, arith}
use Rattle.lex_semantics.specs.Tree.{Iterates}
use Rattle.lex_semantics.specs.Positions.{MarkedByte, Readings}
use Rattle.lexauto_positions.specs.PositionAutomaton.{Quad, cat, alt, plus, opt, From, Whole}

-- every position of the automaton is in a range
pub record Within (x : Quad) (lo hi : ℕ) : Type 0 where
  pub first : (p : ℕ) → x.first p → (lo ≤ p) × (p < hi)
  pub last : (p : ℕ) → x.last p → (lo ≤ p) × (p < hi)
  pub follow : (p q : ℕ) → x.follow p q → (lo ≤ p) × (p < hi) × (lo ≤ q) × (q < hi)
  pub letter : (c : MarkedByte) → x.letter c → (lo ≤ c.1) × (c.1 < hi)

module _ (x y : Quad) (a b c : ℕ) (wx : Within x a b) (wy : Within y b c) where
  -- once in the second part, always there
  from_right : (d : MarkedByte) → b ≤ d.1 → (rs : List MarkedByte) → From (cat x y) d rs → From y d rs
  from_right d h [] f = elim f [ inl l ↦ l | inr r ↦ absurd (let w : d.1 < b = (wx.last d.1 r.1).1 in omega arith) ]
  from_right d h (e ∷ rs) f =
      let low : b ≤ e.1 = elim f.0 [
        | inl g ↦ absurd (let w : d.1 < b = (wx.follow d.1 e.1 g).1 in omega arith)
        | inr (inl g) ↦ (wy.follow d.1 e.1 g).2
        | inr (inr g) ↦ (wy.first e.1 g.1).0
      ] in (
        elim f.0 [
          | inl g ↦ absurd (let w : d.1 < b = (wx.follow d.1 e.1 g).1 in omega arith)
          | inr (inl g) ↦ g
          | inr (inr g) ↦ absurd (let w : d.1 < b = (wx.last d.1 g.0).1 in omega arith)
        ],
        elim f.1 [
          | inl l ↦ absurd (let w : e.1 < b = (wx.letter e l).1 in omega arith)
          | inr l ↦ l
        ],
        from_right e low rs f.2,
      )

  -- from the first part on, a reading goes over once
  cut_from : (d : MarkedByte) → d.1 < b → (rs : List MarkedByte) → From (cat x y) d rs → (us vs : List MarkedByte) × (rs ≡ us ++ vs) × From x d us × Whole y vs
  cut_from d h [] f = elim f [ inl l ↦ absurd (let w : b ≤ d.1 = (wy.last d.1 l).0 in omega arith) | inr r ↦ ([], [], refl, r.1, r.0) ]
  cut_from d h (e ∷ rs) f = elim f.0 [
    | inl g ↦
        (let low : e.1 < b = (wx.follow d.1 e.1 g).3 in
        let more = cut_from e low rs f.2 in
        let l : x.letter e = elim f.1 [ inl l ↦ l | inr l ↦ absurd (let w : b ≤ e.1 = (wy.letter e l).0 in omega arith) ] in
        (e ∷ more.0, more.1, ap (λ ts. e ∷ ts) more.2, (g, l, more.3), more.4))
    | inr (inl g) ↦ absurd (let w : b ≤ d.1 = (wy.follow d.1 e.1 g).0 in omega arith)
    | inr (inr g) ↦
        (let low : b ≤ e.1 = (wy.first e.1 g.1).0 in
        let l : y.letter e = elim f.1 [ inl l ↦ absurd (let w : e.1 < b = (wx.letter e l).1 in omega arith) | inr l ↦ l ] in
        ([], e ∷ rs, refl, g.0, (g.1, l, from_right e low rs f.2)))
  ]

  pub cut : (rs : List MarkedByte) → Whole (cat x y) rs → (us vs : List MarkedByte) × (rs ≡ us ++ vs) × Whole x us × Whole y vs
  cut [] w = ([], [], refl, w.0, w.1)
  cut (e ∷ rs) w = elim w.0 [
    | inl g ↦
        (let low : e.1 < b = (wx.first e.1 g).1 in
        let more = cut_from e low rs w.2 in
        let l : x.letter e = elim w.1 [ inl l ↦ l | inr l ↦ absurd (let w : b ≤ e.1 = (wy.letter e l).0 in omega arith) ] in
        (e ∷ more.0, more.1, ap (λ ts. e ∷ ts) more.2, (g, l, more.3), more.4))
    | inr g ↦
        (let low : b ≤ e.1 = (wy.first e.1 g.1).0 in
        let l : y.letter e = elim w.1 [ inl l ↦ absurd (let w : e.1 < b = (wx.letter e l).1 in omega arith) | inr l ↦ l ] in
        ([], e ∷ rs, refl, g.0, (g.1, l, from_right e low rs w.2)))
  ]

-- the other way, ranges don't matter
module _ (x y : Quad) where
  pub in_right : (d : MarkedByte) (rs : List MarkedByte) → From y d rs → From (cat x y) d rs
  in_right d [] f = inl f
  in_right d (e ∷ rs) f = (inr (inl f.0), inr f.1, in_right e rs f.2)

  pub join_from : (d : MarkedByte) (us vs : List MarkedByte) → From x d us → Whole y vs → From (cat x y) d (us ++ vs)
  join_from d [] [] f w = inr (w, f)
  join_from d [] (e ∷ vs) f w = (inr (inr (f, w.0)), inr w.1, in_right e vs w.2)
  join_from d (e ∷ us) vs f w = (inl f.0, inl f.1, join_from e us vs f.2 w)

  pub join : (us vs : List MarkedByte) → Whole x us → Whole y vs → Whole (cat x y) (us ++ vs)
  join [] [] u v = (u, v)
  join [] (e ∷ vs) u v = (inr (u, v.0), inr v.1, in_right e vs v.2)
  join (e ∷ us) vs u v = (inl u.0, inl u.1, join_from e us vs u.2 v)

-- what reads in one automaton reads in a larger one
pub from_more : (x y : Quad) → ((p : ℕ) → x.last p → y.last p) → ((p q : ℕ) → x.follow p q → y.follow p q) → ((c : MarkedByte) → x.letter c → y.letter c) → (d : MarkedByte) (rs : List MarkedByte) → From x d rs → From y d rs
from_more x y l f t d [] h = l d.1 h
from_more x y l f t d (e ∷ rs) h = (f d.1 e.1 h.0, t e h.1, from_more x y l f t e rs h.2)

module _ (x y : Quad) (a b c : ℕ) (wx : Within x a b) (wy : Within y b c) where
  from_left_alt : (d : MarkedByte) → d.1 < b → (rs : List MarkedByte) → From (alt x y) d rs → From x d rs
  from_left_alt d h [] f = elim f [ inl l ↦ l | inr r ↦ absurd (let w : b ≤ d.1 = (wy.last d.1 r).0 in omega arith) ]
  from_left_alt d h (e ∷ rs) f = elim f.0 [
    | inr g ↦ absurd (let w : b ≤ d.1 = (wy.follow d.1 e.1 g).0 in omega arith)
    | inl g ↦
        (let low : e.1 < b = (wx.follow d.1 e.1 g).3 in
        let l : x.letter e = elim f.1 [ inl l ↦ l | inr l ↦ absurd (let w : b ≤ e.1 = (wy.letter e l).0 in omega arith) ] in
        (g, l, from_left_alt e low rs f.2))
  ]

  from_right_alt : (d : MarkedByte) → b ≤ d.1 → (rs : List MarkedByte) → From (alt x y) d rs → From y d rs
  from_right_alt d h [] f = elim f [ inr l ↦ l | inl r ↦ absurd (let w : d.1 < b = (wx.last d.1 r).1 in omega arith) ]
  from_right_alt d h (e ∷ rs) f = elim f.0 [
    | inl g ↦ absurd (let w : d.1 < b = (wx.follow d.1 e.1 g).1 in omega arith)
    | inr g ↦
        (let low : b ≤ e.1 = (wy.follow d.1 e.1 g).2 in
        let l : y.letter e = elim f.1 [ inr l ↦ l | inl l ↦ absurd (let w : e.1 < b = (wx.letter e l).1 in omega arith) ] in
        (g, l, from_right_alt e low rs f.2))
  ]

  pub choose : (rs : List MarkedByte) → Whole (alt x y) rs → Whole x rs ⊎ Whole y rs
  choose [] w = w
  choose (e ∷ rs) w = elim w.0 [
    | inl g ↦
        (let low : e.1 < b = (wx.first e.1 g).1 in
        let l : x.letter e = elim w.1 [ inl l ↦ l | inr l ↦ absurd (let w : b ≤ e.1 = (wy.letter e l).0 in omega arith) ] in
        inl (g, l, from_left_alt e low rs w.2))
    | inr g ↦
        (let low : b ≤ e.1 = (wy.first e.1 g).0 in
        let l : y.letter e = elim w.1 [ inr l ↦ l | inl l ↦ absurd (let w : e.1 < b = (wx.letter e l).1 in omega arith) ] in
        inr (g, l, from_right_alt e low rs w.2))
  ]

module _ (x y : Quad) where
  pub chosen_left : (rs : List MarkedByte) → Whole x rs → Whole (alt x y) rs
  chosen_left [] w = inl w
  chosen_left (e ∷ rs) w = (inl w.0, inl w.1, from_more x (alt x y) (λ p h. inl h) (λ p q h. inl h) (λ c h. inl h) e rs w.2)

  pub chosen_right : (rs : List MarkedByte) → Whole y rs → Whole (alt x y) rs
  chosen_right [] w = inr w
  chosen_right (e ∷ rs) w = (inr w.0, inr w.1, from_more y (alt x y) (λ p h. inr h) (λ p q h. inr h) (λ c h. inr h) e rs w.2)

-- the same where the automaton may skip
pub opt_more : (x : Quad) (rs : List MarkedByte) → Whole x rs → Whole (opt x) rs
opt_more x [] w = tt
opt_more x (e ∷ rs) w = (w.0, w.1, from_more x (opt x) (λ p h. h) (λ p q h. h) (λ c h. h) e rs w.2)

pub opt_less : (x : Quad) (rs : List MarkedByte) → Whole (opt x) rs → (rs ≡ []) ⊎ Whole x rs
opt_less x [] w = inl refl
opt_less x (e ∷ rs) w = inr (w.0, w.1, from_more (opt x) x (λ p h. h) (λ p q h. h) (λ c h. h) e rs w.2)

-- from j on each pass reads what x does
module _ (x : Quad) (L : ℕ → Readings) (j : ℕ) (sound : (i : ℕ) → j ≤ i → (rs : List MarkedByte) → Whole x rs → L i rs) where
  cut_plus_from : (i : ℕ) → j ≤ i → (d : MarkedByte) (rs : List MarkedByte) → From (plus x) d rs → (us vs : List MarkedByte) × (rs ≡ us ++ vs) × From x d us × ((k : ℕ) × Iterates L i k vs)
  cut_plus_from i h d [] f = ([], [], refl, f, (0, refl))
  cut_plus_from i h d (e ∷ rs) f = elim f.0 [
    | inl g ↦
        (let more = cut_plus_from i h e rs f.2 in
        (e ∷ more.0, more.1, ap (λ ts. e ∷ ts) more.2, (g, f.1, more.3), more.4))
    | inr g ↦
        (let up : j ≤ suc i = omega arith in
        let more = cut_plus_from (suc i) up e rs f.2 in
        ([], e ∷ rs, refl, g.0, (suc (more.4).0, (e ∷ more.0, more.1, ap (λ ts. e ∷ ts) more.2, sound i h (e ∷ more.0) (g.1, f.1, more.3), (more.4).1))))
  ]

  pub cut_plus : (rs : List MarkedByte) → Whole (plus x) rs → (k : ℕ) × Iterates L j (suc k) rs
  cut_plus [] w = (0, ([], [], refl, sound j (omega arith) [] w, refl))
  cut_plus (e ∷ rs) w =
      let more = cut_plus_from (suc j) (omega arith) e rs w.2 in
      ((more.4).0, (e ∷ more.0, more.1, ap (λ ts. e ∷ ts) more.2, sound j (omega arith) (e ∷ more.0) (w.0, w.1, more.3), (more.4).1))

module _ (x : Quad) where
  pub in_plus : (d : MarkedByte) (rs : List MarkedByte) → From x d rs → From (plus x) d rs
  in_plus d rs f = from_more x (plus x) (λ p h. h) (λ p q h. inl h) (λ c h. h) d rs f

  join_plus_from : (d : MarkedByte) (us vs : List MarkedByte) → From x d us → Whole (opt (plus x)) vs → From (plus x) d (us ++ vs)
  join_plus_from d [] [] f w = f
  join_plus_from d [] (e ∷ vs) f w = (inr (f, w.0), w.1, from_more (opt (plus x)) (plus x) (λ p h. h) (λ p q h. h) (λ c h. h) e vs w.2)
  join_plus_from d (e ∷ us) vs f w = (inl f.0, f.1, join_plus_from e us vs f.2 w)

  pub join_plus : (us vs : List MarkedByte) → Whole x us → Whole (opt (plus x)) vs → Whole (plus x) (us ++ vs)
  join_plus [] [] u w = u
  join_plus [] (e ∷ vs) u w = (w.0, w.1, from_more (opt (plus x)) (plus x) (λ p h. h) (λ p q h. h) (λ c h. h) e vs w.2)
  join_plus (e ∷ us) vs u w = (u.0, u.1, join_plus_from e us vs u.2 w)

module _ (x : Quad) (L : ℕ → Readings) (j : ℕ) (complete : (i : ℕ) → j ≤ i → (rs : List MarkedByte) → L i rs → Whole x rs) where
  pub in_star : (k i : ℕ) → j ≤ i → (rs : List MarkedByte) → Iterates L i k rs → Whole (opt (plus x)) rs
  in_star zero i h rs p = rw p tt
  in_star (suc k) i h rs p =
      let more = in_star k (suc i) (omega arith) p.1 p.4 in
      rw p.2 (opt_more (plus x) (p.0 ++ p.1) (join_plus x p.0 p.1 (complete i h p.0 p.3) more))

  pub in_some : (k i : ℕ) → j ≤ i → (rs : List MarkedByte) → Iterates L i (suc k) rs → Whole (plus x) rs
  in_some k i h rs p =
      let more = in_star k (suc i) (omega arith) p.1 p.4 in
      rw p.2 (join_plus x p.0 p.1 (complete i h p.0 p.3) more)
