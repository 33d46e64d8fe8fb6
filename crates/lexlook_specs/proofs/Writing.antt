-- Lines that are written one after another.
use Rattle.std.proofs.Common.{◌≡◌, ℕ, zero, suc, ◌+◌, ◌<◌, List, ◌++◌, refl, sym, ap, subst, ◌∙◌, append_assoc, arith, flat_map}
use Rattle.std.specs.List.{range_with_len}
use Rattle.lex_semantics.specs.Text.{BeginsWith}
use Rattle.lexlook_specs.proofs.Joining.{flat_map-range_more}

-- a front of the bytes was written
abbrev pub Begun : (List ℕ → Type 0) → List ℕ → Type 0
Begun P bytes = (front : List ℕ) × BeginsWith bytes front × P front

-- the first numbers of some, and the next one
pub split_range : (f : ℕ → List ℕ) (a n k : ℕ) → k < n → BeginsWith (flat_map f (range_with_len a n)) (flat_map f (range_with_len a k) ++ f (a + k))
split_range f a zero k h = absurd (omega (arith, h))
split_range f a (suc n) zero h =
    let e : a ≡ a + 0 = omega arith in
    (flat_map f (range_with_len (a + 1) n), ap (λ (x : ℕ). f x ++ flat_map f (range_with_len (a + 1) n)) e)
split_range f a (suc n) (suc k) h =
    let rest = split_range f (a + 1) n k (omega (arith, h)) in
    let e : a + 1 + k ≡ a + suc k = omega arith in
    let front = flat_map f (range_with_len (a + 1) k) in (
      rest.0,
      ap (λ l. f a ++ l) rest.1 ∙ ap (λ (x : ℕ). f a ++ ((front ++ f x) ++ rest.0)) e ∙ sym (append_assoc (f a) (front ++ f (a + suc k)) rest.0)
          ∙ ap (λ l. l ++ rest.0) (sym (append_assoc (f a) front (f (a + suc k)))),
    )

-- what has a front has the front of that
pub front_of_front : (whole part front : List ℕ) → BeginsWith whole part → BeginsWith part front → BeginsWith whole front
front_of_front whole part front (more, e) (rest, d) = (rest ++ more, e ∙ ap (λ l. l ++ more) d ∙ append_assoc front rest more)

pub begun_front : (P : List ℕ → Type 0) (whole part : List ℕ) → BeginsWith whole part → Begun P part → Begun P whole
begun_front P whole part b (front, begins, wrote) = (front, front_of_front whole part front b begins, wrote)

-- the first of two was not written whole
pub begun_first : (P : List ℕ → Type 0) (a b : List ℕ) → Begun P a → Begun P (a ++ b)
begun_first P a b h = begun_front P (a ++ b) a (b, refl) h

module _ {S : Type 0} (wrote : S → List ℕ → S → Type 0) (more : (s t u : S) (xs ys : List ℕ) → wrote s xs t → wrote t ys u → wrote s (xs ++ ys) u) where
  -- the second of two was not written whole
  pub begun_then : (s t u : S) (a b : List ℕ) → wrote s a t → Begun (λ xs. wrote t xs u) b → Begun (λ xs. wrote s xs u) (a ++ b)
  begun_then s t u a b h k = (a ++ k.0, (k.1.0, ap (λ l. a ++ l) k.1.1 ∙ sym (append_assoc a k.0 k.1.0)), more s t u a k.0 h k.2)

  -- nothing more was written
  pub stopped : (s t : S) (whole done : List ℕ) → BeginsWith whole done → wrote s done t → Begun (λ xs. wrote s xs t) whole
  stopped s t whole done b h = (done, b, h)

  module _ (f : ℕ → List ℕ) (a n k : ℕ) (h : k < n) where
    -- a loop over numbers stopped before one
    pub loop_stopped : (s t : S) → wrote s (flat_map f (range_with_len a k)) t → Begun (λ xs. wrote s xs t) (flat_map f (range_with_len a n))
    loop_stopped s t w = stopped s t _ _ (front_of_front _ _ _ (split_range f a n k h) (f (a + k), refl)) w

    -- a loop over numbers stopped within one
    pub loop_fails : (s t u : S) (j : ℕ) (bytes : List ℕ) → j ≡ a + k → bytes ≡ f j → wrote s (flat_map f (range_with_len a k)) t → Begun (λ xs. wrote t xs u) bytes → Begun (λ xs. wrote s xs u) (flat_map f (range_with_len a n))
    loop_fails s t u j bytes e d w b =
        let same : bytes ≡ f (a + k) = d ∙ ap f e in
        begun_front (λ xs. wrote s xs u) _ _ (split_range f a n k h)
        (begun_then s t u _ _ w (subst (λ (l : List ℕ). Begun (λ xs. wrote t xs u) l) same b))

  -- a loop over numbers wrote one more
  pub loop_more : (f : ℕ → List ℕ) (a k j m : ℕ) (s t u : S) (bytes : List ℕ) → j ≡ a + k → m ≡ k + 1 → bytes ≡ f j → wrote s (flat_map f (range_with_len a k)) t → wrote t bytes u → wrote s (flat_map f (range_with_len a m)) u
  loop_more f a k j m s t u bytes e i d w b =
      let same : flat_map f (range_with_len a k) ++ bytes ≡ flat_map f (range_with_len a m) =
      ap (λ l. flat_map f (range_with_len a k) ++ l) (d ∙ ap f e) ∙ sym (flat_map-range_more f a k) ∙ ap (λ (x : ℕ). flat_map f (range_with_len a x)) (sym i) in
      subst (λ (l : List ℕ). wrote s l u) same (more s t u _ _ w b)
