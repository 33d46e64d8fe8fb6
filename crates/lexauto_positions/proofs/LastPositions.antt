-- What a word leaves, and how one more byte changes it.
use Rattle.std.specs.Prelude.{◌≡◌, ◌≢◌, ◌↔◌, ℕ, ◌⊎◌, List, [], ◌∷◌, ◌++◌}
use Rattle.std.proofs.Common.{inl, inr, refl, ap, sym, subst, ◌∙◌}
use Rattle.lex_semantics.specs.Positions.{MarkedByte, Readings, bytes_of, ReadsWord}
use Rattle.lex_semantics.specs.Subsets.{IsLast}
use Rattle.lexauto_positions.specs.PositionAutomaton.{Quad, From, Whole}
use Rattle.lexauto_positions.proofs.Glushkov.{Describes}
use Rattle.lexauto_positions.proofs.Trimmed.{Finishes, from_any}

-- some nonempty word goes on from w to the end of a reading
abbrev pub GoesOn : Readings → List ℕ → Type 0
GoesOn L w = (z : List ℕ) × (z ≢ []) × ReadsWord L (w ++ z)

-- the last byte is read at p
abbrev EndsAt : ℕ → Readings
EndsAt p [] = ⊥
EndsAt p (c ∷ []) = c.1 ≡ p
EndsAt p (c ∷ d ∷ rs) = EndsAt p (d ∷ rs)

ends_at : (us : List MarkedByte) (b p : ℕ) → EndsAt p (us ++ (b, p) ∷ [])
ends_at [] b p = refl
ends_at (c ∷ []) b p = refl
ends_at (c ∷ d ∷ us) b p = ends_at (d ∷ us) b p

last_cell : (rs : List MarkedByte) (p : ℕ) → EndsAt p rs → (us : List MarkedByte) × (b : ℕ) × (rs ≡ us ++ (b, p) ∷ [])
last_cell [] p h = absurd h
last_cell (c ∷ []) p h = ([], c.0, ap (λ n. (c.0, n) ∷ []) h)
last_cell (c ∷ d ∷ rs) p h = (let (us, b, is) = last_cell (d ∷ rs) p h in (c ∷ us, b, ap (λ ts. c ∷ ts) is))

one_more : (us : List MarkedByte) (c : MarkedByte) (zs : List MarkedByte) → (us ++ c ∷ []) ++ zs ≡ us ++ c ∷ zs
one_more [] c zs = refl
one_more (d ∷ us) c zs = ap (λ ts. d ∷ ts) (one_more us c zs)

module _ (x : Quad) where
  -- over these cells from p to q
  abbrev Path : ℕ → List MarkedByte → ℕ → Type 0
  Path p [] q = p ≡ q
  Path p (c ∷ rs) q = x.follow p c.1 × x.letter c × Path c.1 rs q

  abbrev Arrives : List MarkedByte → ℕ → Type 0
  Arrives [] q = ⊥
  Arrives (c ∷ rs) q = x.first c.1 × x.letter c × Path c.1 rs q

  path_end : (c : MarkedByte) (rs : List MarkedByte) (q : ℕ) → Path c.1 rs q → EndsAt q (c ∷ rs)
  path_end c [] q h = h
  path_end c (d ∷ rs) q h = path_end d rs q h.2

  arrives_end : (rs : List MarkedByte) (q : ℕ) → Arrives rs q → EndsAt q rs
  arrives_end [] q h = absurd h
  arrives_end (c ∷ rs) q h = path_end c rs q h.2

  cut_path : (c : MarkedByte) (rs zs : List MarkedByte) (q : ℕ) → EndsAt q (c ∷ rs) → From x c (rs ++ zs) → Path c.1 rs q × From x (0, q) zs
  cut_path c [] zs q e f = (e, from_any x c (0, q) e zs f)
  cut_path c (d ∷ rs) zs q e f = let more = cut_path d rs zs q e f.2 in ((f.0, f.1, more.0), more.1)

  cut_reading : (rs zs : List MarkedByte) (q : ℕ) → EndsAt q rs → Whole x (rs ++ zs) → Arrives rs q × From x (0, q) zs
  cut_reading [] zs q e w = absurd e
  cut_reading (c ∷ rs) zs q e w = let more = cut_path c rs zs q e w.2 in ((w.0, w.1, more.0), more.1)

  join_path : (c : MarkedByte) (rs zs : List MarkedByte) (q : ℕ) → Path c.1 rs q → From x (0, q) zs → From x c (rs ++ zs)
  join_path c [] zs q p f = from_any x (0, q) c (sym p) zs f
  join_path c (d ∷ rs) zs q p f = (p.0, p.1, join_path d rs zs q p.2 f)

  join_reading : (rs zs : List MarkedByte) (q : ℕ) → Arrives rs q → From x (0, q) zs → Whole x (rs ++ zs)
  join_reading [] zs q a f = absurd a
  join_reading (c ∷ rs) zs q a f = (a.0, a.1, join_path c rs zs q a.2 f)

  -- one cell more
  longer_path : (p : ℕ) (rs : List MarkedByte) (q : ℕ) (c : MarkedByte) → Path p rs q → x.follow q c.1 → x.letter c → Path p (rs ++ c ∷ []) c.1
  longer_path p [] q c h f l = (subst (λ (y : ℕ). x.follow y c.1) (sym h) f, l, refl)
  longer_path p (d ∷ rs) q c h f l = (h.0, h.1, longer_path d.1 rs q c h.2 f l)

  longer : (rs : List MarkedByte) (q : ℕ) (c : MarkedByte) → Arrives rs q → x.follow q c.1 → x.letter c → Arrives (rs ++ c ∷ []) c.1
  longer [] q c h f l = absurd h
  longer (d ∷ rs) q c h f l = (h.0, h.1, longer_path d.1 rs q c h.2 f l)

  shorter_path : (p : ℕ) (rs : List MarkedByte) (c : MarkedByte) (r : ℕ) → Path p (rs ++ c ∷ []) r → (q : ℕ) × Path p rs q × x.follow q c.1 × x.letter c × (c.1 ≡ r)
  shorter_path p [] c r h = (p, refl, h.0, h.1, h.2)
  shorter_path p (d ∷ rs) c r h = let more = shorter_path d.1 rs c r h.2 in (more.0, (h.0, h.1, more.1), more.2, more.3, more.4)

-- a word that isn't empty, seen from its end
snoc : (rs : List MarkedByte) (w : List ℕ) (b : ℕ) → bytes_of rs ≡ w ++ b ∷ [] → (us : List MarkedByte) × (p : ℕ) × (rs ≡ us ++ (b, p) ∷ []) × (bytes_of us ≡ w)
snoc [] [] b e = absurd cc
snoc [] (a ∷ w) b e = absurd cc
snoc (c ∷ []) [] b e = ([], c.1, ap (λ n. (n, c.1) ∷ []) (let h : c.0 ≡ b = cc in h), refl)
snoc (c ∷ d ∷ rs) [] b e = absurd cc
snoc (c ∷ rs) (a ∷ w) b e =
    let more = snoc rs w b (let h : bytes_of rs ≡ w ++ b ∷ [] = cc in h) in
    let h : c.0 ≡ a = cc in
    (c ∷ more.0, more.1, ap (λ ts. c ∷ ts) more.2, rw (h, more.3) refl)

bytes-append : (us vs : List MarkedByte) → bytes_of (us ++ vs) ≡ bytes_of us ++ bytes_of vs
bytes-append [] vs = refl
bytes-append (c ∷ us) vs = ap (λ ts. c.0 ∷ ts) (bytes-append us vs)

-- readings of a joined word are joined
cut_word : (rs : List MarkedByte) (w z : List ℕ) → bytes_of rs ≡ w ++ z → (us vs : List MarkedByte) × (rs ≡ us ++ vs) × (bytes_of us ≡ w) × (bytes_of vs ≡ z)
cut_word rs [] z e = ([], rs, refl, refl, e)
cut_word [] (a ∷ w) z e = absurd cc
cut_word (c ∷ rs) (a ∷ w) z e =
    let more = cut_word rs w z (let h : bytes_of rs ≡ w ++ z = cc in h) in
    let h : c.0 ≡ a = cc in
    (c ∷ more.0, more.1, ap (λ ts. c ∷ ts) more.2, rw (h, more.3) refl, more.4)

ends_somewhere : (rs : List MarkedByte) → rs ≢ [] → (p : ℕ) × EndsAt p rs
ends_somewhere [] h = absurd (h refl)
ends_somewhere (c ∷ []) h = (c.1, refl)
ends_somewhere (c ∷ d ∷ rs) h = ends_somewhere (d ∷ rs) (λ e. absurd cc)

append-nil : (rs : List MarkedByte) → rs ++ [] ≡ rs
append-nil [] = refl
append-nil (c ∷ rs) = ap (λ ts. c ∷ ts) (append-nil rs)

-- a position that is first, or follows another
abbrev pub Occurs : Quad → ℕ → Type 0
Occurs x p = x.first p ⊎ ((q : ℕ) × x.follow q p)

-- an automaton of a language, each of whose positions finishes
module _ (x : Quad) (L : Readings) (lo hi : ℕ) (d : Describes x L lo hi) (fin : (p : ℕ) → Occurs x p → Finishes x p) where
  pub occurs : (rs : List MarkedByte) (p : ℕ) → Arrives x rs p → Occurs x p
  occurs [] p a = absurd a
  occurs (c ∷ rs) p a = along c.1 rs p (inl a.0) a.2
    where
      along : (q : ℕ) (rs : List MarkedByte) (p : ℕ) → Occurs x q → Path x q rs p → Occurs x p
      along q [] p h e = subst (λ (n : ℕ). Occurs x n) e h
      along q (c ∷ rs) p h e = along c.1 rs p (inr (q, e.0)) e.2

  pub last_to_path : (w : List ℕ) (p : ℕ) → IsLast L w p → (rs : List MarkedByte) × (bytes_of rs ≡ w) × Arrives x rs p
  last_to_path w p (us, zs, b, e, h) = (
    us ++ (b, p) ∷ [],
    bytes-append us ((b, p) ∷ []) ∙ e,
    (cut_reading x (us ++ (b, p) ∷ []) zs p (ends_at us b p) (subst (Whole x) (sym (one_more us (b, p) zs)) (d.complete (us ++ (b, p) ∷ zs) h))).0,
  )

  pub path_to_last : (w : List ℕ) (p : ℕ) (rs : List MarkedByte) → bytes_of rs ≡ w → Arrives x rs p → IsLast L w p
  path_to_last w p rs e a =
      let f = fin p (occurs rs p a) in
      let (us, b, is) = last_cell rs p (arrives_end x rs p a) in (
        us,
        f.0,
        b,
        sym (bytes-append us ((b, p) ∷ [])) ∙ ap bytes_of (sym is) ∙ e,
        subst L (ap (λ ts. ts ++ f.0) is ∙ one_more us (b, p) f.0) (d.sound (rs ++ f.0) (join_reading x rs f.0 p a f.1)),
      )

  -- after one byte
  pub begin_is : (b q : ℕ) → IsLast L (b ∷ []) q ↔ (x.first q × x.letter (b, q))
  begin_is b q = (to, λ h. path_to_last (b ∷ []) q ((b, q) ∷ []) refl (h.0, h.1, refl))
    where
      one_cell : (rs : List MarkedByte) → bytes_of rs ≡ b ∷ [] → Arrives x rs q → x.first q × x.letter (b, q)
      one_cell [] e a = absurd a
      one_cell (c ∷ []) e a =
          let h : c.0 ≡ b = cc in
          (subst x.first a.2 a.0, subst (λ (s : MarkedByte). x.letter s) (let g : c.1 ≡ q = a.2 in let k : (c.0, c.1) ≡ (b, q) = rw (h, g) refl in k) a.1)
      one_cell (c ∷ e2 ∷ rs) e a = absurd cc

      to : IsLast L (b ∷ []) q → x.first q × x.letter (b, q)
      to l = let r = last_to_path (b ∷ []) q l in one_cell r.0 r.1 r.2

  -- after one byte more
  pub step_is : (w : List ℕ) (b q : ℕ) → w ≢ [] → IsLast L (w ++ b ∷ []) q ↔ (x.letter (b, q) × ((p : ℕ) × IsLast L w p × x.follow p q))
  step_is w b q ne = (to, back)
    where
      cells : (us : List MarkedByte) (p : ℕ) → bytes_of us ≡ w → Arrives x (us ++ (b, p) ∷ []) q → x.letter (b, q) × ((p : ℕ) × IsLast L w p × x.follow p q)
      cells [] p e a = absurd (ne (sym e))
      cells (c ∷ us) p e a =
          let more = shorter_path x c.1 us (b, p) q a.2 in
          (subst (λ (n : ℕ). x.letter (b, n)) more.4 more.3, (more.0, path_to_last w more.0 (c ∷ us) e (a.0, a.1, more.1), subst (λ (n : ℕ). x.follow more.0 n) more.4 more.2))

      to : IsLast L (w ++ b ∷ []) q → x.letter (b, q) × ((p : ℕ) × IsLast L w p × x.follow p q)
      to l =
          let r = last_to_path (w ++ b ∷ []) q l in
          let s = snoc r.0 w b r.1 in
          cells s.0 s.1 s.3 (rw s.2 at r.2)

      back : x.letter (b, q) × ((p : ℕ) × IsLast L w p × x.follow p q) → IsLast L (w ++ b ∷ []) q
      back h =
          let r = last_to_path w (h.1).0 (h.1).1 in
          path_to_last (w ++ b ∷ []) q (r.0 ++ (b, q) ∷ []) (bytes-append r.0 ((b, q) ∷ []) ∙ ap (λ ts. ts ++ b ∷ []) r.1) (longer x r.0 (h.1).0 (b, q) r.2 (h.1).2 h.0)

  -- a nonempty word is read where a last position is left
  pub accepts_is : (w : List ℕ) → w ≢ [] → ReadsWord L w ↔ ((p : ℕ) × IsLast L w p × x.last p)
  accepts_is w ne = (to, back)
    where
      to : ReadsWord L w → (p : ℕ) × IsLast L w p × x.last p
      to r =
          let whole : Whole x (r.0 ++ []) = rw append-nil (d.complete r.0 r.2) in
          let e = ends_somewhere r.0 (λ e. ne (sym r.1 ∙ ap bytes_of e)) in
          let c = cut_reading x r.0 [] e.0 e.1 whole in
          (e.0, path_to_last w e.0 r.0 r.1 c.0, c.1)

      back : (p : ℕ) × IsLast L w p × x.last p → ReadsWord L w
      back h =
          let r = last_to_path w h.0 h.1 in
          (r.0, r.1, d.sound r.0 (rw append-nil at (join_reading x r.0 [] h.0 r.2 h.2)))

  -- some nonempty word goes on from a nonempty one just where a position follows
  pub goes_on_is : (w : List ℕ) → w ≢ [] → GoesOn L w ↔ ((p q : ℕ) × IsLast L w p × x.follow p q)
  goes_on_is w ne = (to, back)
    where
      behind : (p : ℕ) (vs : List MarkedByte) (z : List ℕ) → z ≢ [] → bytes_of vs ≡ z → From x (0, p) vs → (q : ℕ) × x.follow p q
      behind p [] z nz e f = absurd (nz (sym e))
      behind p (c ∷ vs) z nz e f = (c.1, f.0)

      to : GoesOn L w → (p q : ℕ) × IsLast L w p × x.follow p q
      to g =
          let r = g.2 in
          let c = cut_word r.0 w g.0 r.1 in
          let whole : Whole x (c.0 ++ c.1) = rw c.2 at (d.complete r.0 r.2) in
          let e = ends_somewhere c.0 (λ e. ne (sym c.3 ∙ ap bytes_of e)) in
          let k = cut_reading x c.0 c.1 e.0 e.1 whole in
          let b = behind e.0 c.1 g.0 g.1 c.4 k.1 in
          (e.0, b.0, path_to_last w e.0 c.0 c.3 k.0, b.1)

      back : (p q : ℕ) × IsLast L w p × x.follow p q → GoesOn L w
      back h =
          let r = last_to_path w h.0 h.2 in
          let f = fin h.1 (inr (h.0, h.3)) in
          let b = (f.2).0 in (
            b ∷ bytes_of f.0,
            (λ e. absurd cc),
            (
              r.0 ++ (b, h.1) ∷ f.0,
              bytes-append r.0 ((b, h.1) ∷ f.0) ∙ ap (λ ts. ts ++ b ∷ bytes_of f.0) r.1,
              d.sound (r.0 ++ (b, h.1) ∷ f.0) (join_reading x r.0 ((b, h.1) ∷ f.0) h.0 r.2 (h.3, (f.2).1, from_any x (0, h.1) (b, h.1) refl f.0 f.1)),
            ),
          )

  -- some nonempty word is read just where a position is first
  pub starts_is : GoesOn L [] ↔ ((q : ℕ) × x.first q)
  starts_is = (to, back)
    where
      first_of_cells : (rs : List MarkedByte) (z : List ℕ) → z ≢ [] → bytes_of rs ≡ z → Whole x rs → (q : ℕ) × x.first q
      first_of_cells [] z nz e w = absurd (nz (sym e))
      first_of_cells (c ∷ rs) z nz e w = (c.1, w.0)

      to : GoesOn L [] → (q : ℕ) × x.first q
      to g = let r = g.2 in first_of_cells r.0 g.0 g.1 r.1 (d.complete r.0 r.2)

      back : (q : ℕ) × x.first q → GoesOn L []
      back h =
          let f = fin h.0 (inl h.1) in
          let b = (f.2).0 in
          (b ∷ bytes_of f.0, (λ e. absurd cc), ((b, h.0) ∷ f.0, refl, d.sound ((b, h.0) ∷ f.0) (h.1, (f.2).1, from_any x (0, h.0) (b, h.0) refl f.0 f.1)))
