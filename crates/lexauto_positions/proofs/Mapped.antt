-- Lists whose items are each changed by a map.
use Rattle.std.specs.Prelude.{◌≡◌, ℕ, zero, suc, ◌<◌, List, [], ◌∷◌, length, map, slice_get, Some}
use Rattle.std.proofs.Common.{refl, ap, sym, arith, get_or}

pub length_map : {A B : Type 0} (f : A → B) (xs : List A) → length (map f xs) ≡ length xs
length_map f [] = refl
length_map f (x ∷ xs) = ap suc (length_map f xs)

pub item_at : {A B : Type 0} (f : A → B) (xs : List A) (i : ℕ) (x : A) → i < length xs → x ≡ get_or xs i x → slice_get (map f xs) i ≡ Some (f x)
item_at f [] i x h e = absurd (omega arith)
item_at f (y ∷ xs) zero x h e = ap (λ z. Some (f z)) (sym e)
item_at f (y ∷ xs) (suc i) x h e = item_at f xs i x (omega arith) e
