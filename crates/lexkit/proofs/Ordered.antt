-- Lists that are determined by their members or columns.
use Rattle.std.proofs.Common.{◌≡◌, ℕ, ◌<◌, List, [], ◌∷◌, map, inl, inr, refl, sym, ◌∙◌, ◌↔◌, ◌⊎◌, arith}
use Rattle.lex_semantics.specs.Text.{Among, Ascending}
use Rattle.lextab_packed.specs.Table.{Slot}

above : (x y : ℕ) (ys : List ℕ) → ((j : ℕ) → Among ys j → y < j) → Among (y ∷ ys) x → (x ≡ y) ⊎ (y < x)
above x y ys low (inl e) = inl e
above x y ys low (inr a) = inr (low x a)

-- a member of the rest is none of the first
not_first : (x z : ℕ) (xs : List ℕ) → ((j : ℕ) → Among xs j → x < j) → Among xs z → z ≡ x → ⊥
not_first x z xs low a e = (let h = low z a in omega (arith, h, e))

first_same : (x y : ℕ) (xs ys : List ℕ) → ((j : ℕ) → Among xs j → x < j) → ((j : ℕ) → Among ys j → y < j)
    → Among (y ∷ ys) x → Among (x ∷ xs) y → x ≡ y
first_same x y xs ys low_x low_y a b = from (above x y ys low_y a) (above y x xs low_x b)
  where
    from : (x ≡ y) ⊎ (y < x) → (y ≡ x) ⊎ (x < y) → x ≡ y
    from (inl e) q = e
    from (inr h) (inl e) = sym e
    from (inr h) (inr g) = absurd (omega (arith, h, g))

in_rest : (x y z : ℕ) (xs ys : List ℕ) → ((j : ℕ) → Among xs j → x < j) → x ≡ y → Among xs z → Among (y ∷ ys) z → Among ys z
in_rest x y z xs ys low e a (inl g) = absurd (not_first x z xs low a (g ∙ sym e))
in_rest x y z xs ys low e a (inr b) = b

-- ascending lists with the same members are the same
pub one_order : (xs ys : List ℕ) → Ascending xs → Ascending ys → ((i : ℕ) → Among xs i ↔ Among ys i) → xs ≡ ys
one_order [] [] a b h = refl
one_order [] (y ∷ ys) a b h = absurd ((h y).1 (inl refl))
one_order (x ∷ xs) [] a b h = absurd ((h x).0 (inl refl))
one_order (x ∷ xs) (y ∷ ys) a b h =
    let head : x ≡ y = first_same x y xs ys a.0 b.0 ((h x).0 (inl refl)) ((h y).1 (inl refl)) in
    let rest : xs ≡ ys = one_order xs ys a.1 b.1 (λ i. (
      λ k. in_rest x y i xs ys a.0 head k ((h i).0 (inr k)),
      λ k. in_rest y x i ys xs b.0 (sym head) k ((h i).1 (inr k)),
    )) in
    rw (head, rest) refl

head_same : (x y : ℕ) (xs ys : List ℕ) → ◌≡◌ {A = List ℕ} (x ∷ xs) (y ∷ ys) → x ≡ y
head_same x y xs ys e = cc

rest_same : (x y : ℕ) (xs ys : List ℕ) → ◌≡◌ {A = List ℕ} (x ∷ xs) (y ∷ ys) → xs ≡ ys
rest_same x y xs ys e = cc

-- slots with the same columns are the same
pub one_slots : (xs ys : List Slot) → map (λ (s : Slot). s.check) xs ≡ map (λ (s : Slot). s.check) ys → map (λ (s : Slot). s.next) xs ≡ map (λ (s : Slot). s.next) ys → xs ≡ ys
one_slots [] [] h k = refl
one_slots [] (y ∷ ys) h k = absurd cc
one_slots (x ∷ xs) [] h k = absurd cc
one_slots (x ∷ xs) (y ∷ ys) h k =
    let check : x.check ≡ y.check = head_same x.check y.check (map (λ (s : Slot). s.check) xs) (map (λ (s : Slot). s.check) ys) h in
    let next : x.next ≡ y.next = head_same x.next y.next (map (λ (s : Slot). s.next) xs) (map (λ (s : Slot). s.next) ys) k in
    let rest : xs ≡ ys = one_slots xs ys (rest_same x.check y.check (map (λ (s : Slot). s.check) xs) (map (λ (s : Slot). s.check) ys) h)
    (rest_same x.next y.next (map (λ (s : Slot). s.next) xs) (map (λ (s : Slot). s.next) ys) k) in
    let head : x ≡ y = λ i. record { check = check i; next = next i } in
    rw (head, rest) refl
