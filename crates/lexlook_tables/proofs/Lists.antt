-- Two lists that are gone over side by side.
use Rattle.std.proofs.Common.{◌≡◌, ℕ, zero, suc, ◌+◌, ◌<◌, ◌⊎◌, inl, inr, Some, List, [], ◌∷◌, ◌++◌, length, take, get_or, refl, sym, ◌∙◌, ap, arith}
use Rattle.std.specs.Prelude.{map, slice_get}
use Rattle.std.proofs.lemmas.List.{take_more, get_or-map, length-map}

module _ {X Y Z : Type 0} (f : X → Z) (g : Y → Z) (xs : List X) (ys : List Y) (i : ℕ) (d : X) (e : Y) (in_xs : i < length xs) (in_ys : i < length ys) where
  -- the fronts of two lists, and one more of each
  pub one_more : take i (map f xs) ≡ take i (map g ys) → f (get_or xs i d) ≡ g (get_or ys i e) → take (i + 1) (map f xs) ≡ take (i + 1) (map g ys)
  one_more same one =
      take_more (map f xs) i (f d) (omega (arith, in_xs, length-map xs f)) ∙ ap (λ z. take i (map f xs) ++ z ∷ []) (get_or-map f xs i d (f d) in_xs ∙ one ∙ sym (get_or-map g ys i e (g e) in_ys))
      ∙ ap (λ l. l ++ get_or (map g ys) i (g e) ∷ []) same ∙ sym (take_more (map g ys) i (g e) (omega (arith, in_ys, length-map ys g)))

  -- equal lists have equal elements
  pub same_at : map f xs ≡ map g ys → f (get_or xs i d) ≡ g (get_or ys i e)
  same_at same = sym (get_or-map f xs i d (f d) in_xs) ∙ ap (λ l. get_or l i (f d)) same ∙ get_or-map g ys i e (f d) in_ys

-- an element of a list that has grown by one
pub before_last : {X : Type 0} (xs : List X) (y : X) (i : ℕ) (x : X) → slice_get xs i ≡ Some x → slice_get (xs ++ y ∷ []) i ≡ Some x
before_last [] y i x at = absurd cc
before_last (z ∷ xs) y zero x at = at
before_last (z ∷ xs) y (suc i) x at = before_last xs y i x at

pub at_last : {X : Type 0} (xs : List X) (y : X) → slice_get (xs ++ y ∷ []) (length xs) ≡ Some y
at_last [] y = refl
at_last (z ∷ xs) y = at_last xs y

pub last_or_before : {X : Type 0} (xs : List X) (y : X) (i : ℕ) (x : X) → slice_get (xs ++ y ∷ []) i ≡ Some x → (slice_get xs i ≡ Some x) ⊎ ((i ≡ length xs) × (x ≡ y))
last_or_before [] y zero x at = inr (refl, cc)
last_or_before [] y (suc i) x at = absurd cc
last_or_before (z ∷ xs) y zero x at = inl at
last_or_before (z ∷ xs) y (suc i) x at = elim (last_or_before xs y i x at) [ inl a ↦ inl a | inr b ↦ inr (ap suc b.0, b.1) ]

-- one element at a place
pub one_at : {X : Type 0} (xs : List X) (i : ℕ) (x y : X) → slice_get xs i ≡ Some x → slice_get xs i ≡ Some y → x ≡ y
one_at xs i x y p q = some_same (sym p ∙ q)
  where
    some_same : Some x ≡ Some y → x ≡ y
    some_same e = cc

-- inside of a list no default is used
pub any_default : {X : Type 0} (xs : List X) (i : ℕ) (d e : X) → i < length xs → get_or xs i d ≡ get_or xs i e
any_default [] i d e lt = absurd (omega (arith, lt))
any_default (x ∷ xs) zero d e lt = refl
any_default (x ∷ xs) (suc i) d e lt = any_default xs i d e (omega (arith, lt))

-- an element by its place
pub at_place : {X : Type 0} (xs : List X) (i : ℕ) (d : X) → i < length xs → slice_get xs i ≡ Some (get_or xs i d)
at_place [] i d lt = absurd (omega (arith, lt))
at_place (x ∷ xs) zero d lt = refl
at_place (x ∷ xs) (suc i) d lt = at_place xs i d (omega (arith, lt))

-- an element of a list that is gone over
pub in_map : {X Y : Type 0} (f : X → Y) (xs : List X) (i : ℕ) (x : X) → slice_get xs i ≡ Some x → slice_get (map f xs) i ≡ Some (f x)
in_map f [] i x at = absurd cc
in_map f (y ∷ xs) zero x at = (let e : y ≡ x = cc in ap (λ z. Some (f z)) e)
in_map f (y ∷ xs) (suc i) x at = in_map f xs i x at

pub from_map : {X Y : Type 0} (f : X → Y) (xs : List X) (i : ℕ) (y : Y) → slice_get (map f xs) i ≡ Some y → (x : X) × (slice_get xs i ≡ Some x) × (y ≡ f x)
from_map f [] i y at = absurd cc
from_map f (x ∷ xs) zero y at = (x, refl, cc)
from_map f (x ∷ xs) (suc i) y at = from_map f xs i y at

-- each place below the length has an element
pub some_at : {X : Type 0} (xs : List X) (i : ℕ) → i < length xs → (x : X) × (slice_get xs i ≡ Some x)
some_at [] i lt = absurd (omega (arith, lt))
some_at (x ∷ xs) zero lt = (x, refl)
some_at (x ∷ xs) (suc i) lt = some_at xs i (omega (arith, lt))
