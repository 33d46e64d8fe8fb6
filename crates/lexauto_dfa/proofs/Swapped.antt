-- Marking a state: it changes places with the first unmarked one of its block.
use Rattle.std.proofs.Common.{◌≡◌, ◌≢◌, ℕ, ◌+◌, ◌^◌, ◌<◌, ◌≤◌, ◌⊎◌, List, length, set, ap, sym, subst, ◌∙◌, inl, inr, arith, get_or-set_other, get_or-set_same, length-set}
use Rattle.std.specs.Prelude.{slice_index}
use Rattle.lexauto_dfa.specs.Arranged.{Arrangement}

pub same_or_not : (a b : ℕ) → (a ≡ b) ⊎ (a ≢ b)
same_or_not a b = grind arith

module _ (order place block first middle end : List ℕ) (x p c m z : ℕ) (a : Arrangement order place block first middle end)
    (low : x < length block) (is_p : slice_index place x ≡ p) (is_c : slice_index block x ≡ c) (is_m : slice_index middle c ≡ m) (is_z : slice_index order m ≡ z) (high : m ≤ p) where
  c_low : c < length first
  c_low = subst (λ (d : ℕ). d < length first) is_c (a.numbered x low)

  p_end : p < slice_index end c
  p_end = let h = a.before x low in let e : slice_index end (slice_index block x) ≡ slice_index end c = ap (λ (d : ℕ). slice_index end d) is_c in omega (arith, h, e, is_p)

  m_first : slice_index first c ≤ m
  m_first = let h = a.from c c_low in omega (arith, h, is_m)

  p_low : p < length block
  p_low = let h = a.placed x low in omega (arith, h, is_p)

  m_low : m < length block
  m_low = omega (arith, p_low, high)

  z_low : z < length block
  z_low = let h = a.known m m_low in omega (arith, h, is_z)

  z_place : slice_index place z ≡ m
  z_place = ap (λ (i : ℕ). slice_index place i) (sym is_z) ∙ a.forth m m_low

  z_block : slice_index block z ≡ c
  z_block = ap (λ (i : ℕ). slice_index block i) (sym is_z) ∙ a.own c m c_low m_first (let h = p_end in omega (arith, h, high))

  x_order : slice_index order p ≡ x
  x_order = ap (λ (i : ℕ). slice_index order i) (sym is_p) ∙ a.back x low

  -- the arrays afterwards
  order2 : List ℕ
  order2 = set (set order p z) m x

  place2 : List ℕ
  place2 = set (set place z p) x m

  middle2 : List ℕ
  middle2 = set middle c (m + 1)

  order_m : slice_index order2 m ≡ x
  unfolding order2
  order_m = get_or-set_same (set order p z) m x 0 (let l = length-set order p z in let o = a.orders in let h = m_low in omega (arith, l, o, h))

  order_p : slice_index order2 p ≡ z
  unfolding order2
  order_p = elim (same_or_not p m) [
    | inl e ↦ (subst (λ (i : ℕ). slice_index order2 i ≡ z) (sym e) (order_m ∙ sym x_order ∙ ap (λ (i : ℕ). slice_index order i) e ∙ is_z))
    | inr n ↦ get_or-set_other (set order p z) m p x 0 n ∙ get_or-set_same order p z 0 (let o = a.orders in let h = p_low in omega (arith, o, h))
  ]

  order_other : (i : ℕ) → i ≢ m → i ≢ p → slice_index order2 i ≡ slice_index order i
  unfolding order2
  order_other i n q = get_or-set_other (set order p z) m i x 0 n ∙ get_or-set_other order p i z 0 q

  place_x : slice_index place2 x ≡ m
  unfolding place2
  place_x = get_or-set_same (set place z p) x m 0 (let l = length-set place z p in let o = a.places in omega (arith, l, o, low))

  place_z : slice_index place2 z ≡ p
  unfolding place2
  place_z = elim (same_or_not z x) [
    | inl e ↦ subst (λ (i : ℕ). slice_index place2 i ≡ p) (sym e) (place_x ∙ sym z_place ∙ ap (λ (i : ℕ). slice_index place i) e ∙ is_p)
    | inr n ↦ get_or-set_other (set place z p) x z m 0 n ∙ get_or-set_same place z p 0 (let o = a.places in let h = z_low in omega (arith, o, h))
  ]

  place_other : (y : ℕ) → y ≢ x → y ≢ z → slice_index place2 y ≡ slice_index place y
  unfolding place2
  place_other y n q = get_or-set_other (set place z p) x y m 0 n ∙ get_or-set_other place z y p 0 q

  middle_c : slice_index middle2 c ≡ m + 1
  unfolding middle2
  middle_c = get_or-set_same middle c (m + 1) 0 (let h = c_low in let e = a.middles in omega (arith, h, e))

  middle_other : (d : ℕ) → d ≢ c → slice_index middle2 d ≡ slice_index middle d
  unfolding middle2
  middle_other d n = get_or-set_other middle c d (m + 1) 0 n

  pub marked_low : m + 1 < 2 ^ 32
  marked_low = let h = p_end in let w = a.within c c_low in let f = a.few in omega (arith, h, w, f, high)

  -- what each state's place and block's mark are now
  known2 : (i : ℕ) → i < length block → slice_index order2 i < length block
  known2 i h = elim (same_or_not i m) [
    | inl e ↦ subst (λ (j : ℕ). j < length block) (sym (ap (λ (j : ℕ). slice_index order2 j) e ∙ order_m)) low
    | inr n ↦ elim (same_or_not i p) [
      | inl e ↦ subst (λ (j : ℕ). j < length block) (sym (ap (λ (j : ℕ). slice_index order2 j) e ∙ order_p)) z_low
      | inr q ↦ subst (λ (j : ℕ). j < length block) (sym (order_other i n q)) (a.known i h)
    ]
  ]

  place_cases : (P : ℕ → ℕ → Type 0) → P x m → P z p → ((y : ℕ) → y < length block → y ≢ x → y ≢ z → slice_index place y ≢ m → slice_index place y ≢ p → P y (slice_index place y))
      → (y : ℕ) → y < length block → P y (slice_index place2 y)
  place_cases P at_x at_z rest y h = elim (same_or_not y x) [
    | inl e ↦ subst (λ (w : ℕ). P w (slice_index place2 w)) (sym e) (subst (P x) (sym place_x) at_x)
    | inr n ↦ elim (same_or_not y z) [
      | inl e ↦ subst (λ (w : ℕ). P w (slice_index place2 w)) (sym e) (subst (P z) (sym place_z) at_z)
      | inr q ↦ subst (P y) (sym (place_other y n q)) (rest y h n q
          (λ e. q (sym (a.back y h) ∙ ap (λ (i : ℕ). slice_index order i) e ∙ is_z))
          (λ e. n (sym (a.back y h) ∙ ap (λ (i : ℕ). slice_index order i) e ∙ x_order)))
    ]
  ]

  order_cases : (P : ℕ → ℕ → Type 0) → P m x → P p z → ((i : ℕ) → i < length block → i ≢ m → i ≢ p → P i (slice_index order i))
      → (i : ℕ) → i < length block → P i (slice_index order2 i)
  order_cases P at_m at_p rest i h = elim (same_or_not i m) [
    | inl e ↦ subst (λ (w : ℕ). P w (slice_index order2 w)) (sym e) (subst (P m) (sym order_m) at_m)
    | inr n ↦ elim (same_or_not i p) [
      | inl e ↦ subst (λ (w : ℕ). P w (slice_index order2 w)) (sym e) (subst (P p) (sym order_p) at_p)
      | inr q ↦ subst (P i) (sym (order_other i n q)) (rest i h n q)
    ]
  ]

  middle_cases : (P : ℕ → ℕ → Type 0) → P c (m + 1) → ((d : ℕ) → d < length first → d ≢ c → P d (slice_index middle d)) → (d : ℕ) → d < length first → P d (slice_index middle2 d)
  middle_cases P at_c rest d h = elim (same_or_not d c) [
    | inl e ↦ subst (λ (w : ℕ). P w (slice_index middle2 w)) (sym e) (subst (P c) (sym middle_c) at_c)
    | inr n ↦ subst (P d) (sym (middle_other d n)) (rest d h n)
  ]

  x_first : slice_index first (slice_index block x) ≤ m
  x_first = subst (λ (d : ℕ). slice_index first d ≤ m) (sym is_c) m_first

  x_end : m < slice_index end (slice_index block x)
  x_end = subst (λ (d : ℕ). m < slice_index end d) (sym is_c) (let h = p_end in omega (arith, h, high))

  z_first : slice_index first (slice_index block z) ≤ p
  z_first = subst (λ (d : ℕ). slice_index first d ≤ p) (sym z_block) (let h = m_first in omega (arith, h, high))

  z_end : p < slice_index end (slice_index block z)
  z_end = subst (λ (d : ℕ). p < slice_index end d) (sym z_block) p_end

  own2 : (d i : ℕ) → d < length first → slice_index first d ≤ i → i < slice_index end d → slice_index block (slice_index order2 i) ≡ d
  own2 d i h f g = let w = a.within d h in order_cases (λ j y. slice_index first d ≤ j → j < slice_index end d → slice_index block y ≡ d)
      (λ f g. is_c ∙ sym z_block ∙ ap (λ (y : ℕ). slice_index block y) (sym is_z) ∙ a.own d m h f g)
      (λ f g. z_block ∙ sym is_c ∙ ap (λ (y : ℕ). slice_index block y) (sym x_order) ∙ a.own d p h f g)
      (λ j k n q f g. a.own d j h f g) i (omega (arith, w, g)) f g

  pub arranged : Arrangement (set (set order p z) m x) (set (set place z p) x m) block first (set middle c (m + 1)) end
  unfolding order2 place2 middle2
  arranged = record {
    few = a.few;
    orders = length-set (set order p z) m x ∙ length-set order p z ∙ a.orders;
    places = length-set (set place z p) x m ∙ length-set place z p ∙ a.places;
    middles = length-set middle c (m + 1) ∙ a.middles;
    ends = a.ends;
    known = known2;
    placed = place_cases (λ y i. i < length block) m_low p_low (λ y h _ _ _ _. a.placed y h);
    back = place_cases (λ y i. slice_index order2 i ≡ y) order_m order_p (λ y h n q nm np. order_other (slice_index place y) nm np ∙ a.back y h);
    forth = order_cases (λ i y. slice_index place2 y ≡ i) place_x place_z
        (λ i h n q. place_other (slice_index order i)
        (λ e. q (sym (a.forth i h) ∙ ap (λ (y : ℕ). slice_index place y) e ∙ is_p))
        (λ e. n (sym (a.forth i h) ∙ ap (λ (y : ℕ). slice_index place y) e ∙ z_place)) ∙ a.forth i h);
    numbered = a.numbered;
    after = place_cases (λ y i. slice_index first (slice_index block y) ≤ i) x_first z_first (λ y h _ _ _ _. a.after y h);
    before = place_cases (λ y i. i < slice_index end (slice_index block y)) x_end z_end (λ y h _ _ _ _. a.before y h);
    own = own2;
    some = a.some;
    from = middle_cases (λ d k. slice_index first d ≤ k) (let h = m_first in omega (arith, h)) (λ d h _. a.from d h);
    to = middle_cases (λ d k. k ≤ slice_index end d) (let h = p_end in omega (arith, h, high)) (λ d h _. a.to d h);
    within = a.within;
  }

  abbrev WasMarked : ℕ → Type 0
  WasMarked y = slice_index place y < slice_index middle (slice_index block y)

  -- what each mark is now, by a state's place before and now
  middle_at : (y : ℕ) → (slice_index block y ≡ c → slice_index middle2 (slice_index block y) ≡ m + 1) × (slice_index block y ≢ c → slice_index middle2 (slice_index block y) ≡ slice_index middle (slice_index block y))
  middle_at y = (λ e. ap (λ (d : ℕ). slice_index middle2 d) e ∙ middle_c, λ n. middle_other (slice_index block y) n)

  pub marks : slice_index (set (set place z p) x m) x < slice_index (set middle c (m + 1)) (slice_index block x)
  unfolding place2 middle2
  marks = let e = place_x in let f = (middle_at x).0 is_c in omega (arith, e, f)

  pub keeps : (y : ℕ) → y < length block → WasMarked y → slice_index (set (set place z p) x m) y < slice_index (set middle c (m + 1)) (slice_index block y)
  unfolding place2 middle2
  keeps y h w = elim (same_or_not y x) [
    | inl e ↦ subst (λ (y : ℕ). slice_index place2 y < slice_index middle2 (slice_index block y)) (sym e) marks
    | inr n ↦ elim (same_or_not y z) [
      | inl e ↦ absurd (let v : slice_index place z < slice_index middle (slice_index block z) = subst WasMarked e w in
          let b : slice_index middle (slice_index block z) ≡ m = ap (λ (d : ℕ). slice_index middle d) z_block ∙ is_m in
          let q = z_place in omega (arith, v, b, q))
      | inr q ↦ (let o = place_other y n q in elim (same_or_not (slice_index block y) c) [
        | inl e ↦ (let f = (middle_at y).0 e in let b : slice_index middle (slice_index block y) ≡ m = ap (λ (d : ℕ). slice_index middle d) e ∙ is_m in omega (arith, o, f, b, w))
        | inr d ↦ (let f = (middle_at y).1 d in omega (arith, o, f, w))
      ])
    ]
  ]

  pub only : (y : ℕ) → y < length block → slice_index (set (set place z p) x m) y < slice_index (set middle c (m + 1)) (slice_index block y) → WasMarked y ⊎ (y ≡ x)
  unfolding place2 middle2
  only y h w = elim (same_or_not y x) [
    | inl e ↦ inr e
    | inr n ↦ inl (elim (same_or_not y z) [
      | inl e ↦ absurd (let v : slice_index place2 z < slice_index middle2 (slice_index block z) = subst (λ (y : ℕ). slice_index place2 y < slice_index middle2 (slice_index block y)) e w in
          let f = (middle_at z).0 z_block in let q = place_z in
          let same : p ≢ m = (λ pm. n (e ∙ sym is_z ∙ ap (λ (i : ℕ). slice_index order i) (sym pm) ∙ x_order)) in omega (arith, v, f, q, same, high))
      | inr q ↦ (let o = place_other y n q in elim (same_or_not (slice_index block y) c) [
        | inl e ↦ (let f = (middle_at y).0 e in let b : slice_index middle (slice_index block y) ≡ m = ap (λ (d : ℕ). slice_index middle d) e ∙ is_m in
            let nm : slice_index place y ≢ m = (λ pe. q (sym (a.back y h) ∙ ap (λ (i : ℕ). slice_index order i) pe ∙ is_z)) in omega (arith, o, f, b, w, nm))
        | inr d ↦ (let f = (middle_at y).1 d in omega (arith, o, f, w))
      ])
    ])
  ]

  pub touches : (d : ℕ) → slice_index first d < slice_index (set middle c (m + 1)) d → (slice_index first d < slice_index middle d) ⊎ (d ≡ c)
  unfolding middle2
  touches d h = elim (same_or_not d c) [ inl e ↦ inr e | inr n ↦ inl (let f = middle_other d n in omega (arith, f, h)) ]
