-- From the mask of a load to the bytes of a slice.
use Rattle.std.proofs.Common.{◌≡◌, ℕ, ◌+◌, ◌%◌, ◌^◌, ◌≤◌, eqb, Bool, true, false, not, ◌||◌, cond, List, [], ◌∷◌, map, length, get_or, replicate, refl, sym, ap, ap₂, ◌∙◌, arith}
use Rattle.std.proofs.lemmas.Bool.{eq-eqb, ne_eqb, cond-true, cond-false}
use Rattle.std.proofs.lemmas.List.{length-map}
use Rattle.std.proofs.lemmas.Simd.{zip2_splat, mask_l-mod, first_set_mask_l, run_in_chunk_fails, run_in_chunk_le, length-chunk}
use Rattle.std.specs.List.{prefix_len}
use lib.Bits.{bit_or}
use lib.Count.{count_trailing_zeros}
use lib.Lanes.{zip2, mask_l, top, chunk}
use Rattle.lextab_packed.specs.declared.leaps.Leavers.{Leavers}
use Rattle.lextab_packed.specs.Leaps.{is_leaver, IsOther, AllOthers}

abbrev hit : ℕ → ℕ → ℕ
hit x y = cond (eqb x y) 255 0

zip2_or : (f g : ℕ → ℕ) (v : List ℕ) → zip2 bit_or (map f v) (map g v) ≡ map (λ x. bit_or (f x) (g x)) v
zip2_or f g [] = refl
zip2_or f g (x ∷ xs) = ap (λ r. bit_or (f x) (g x) ∷ r) (zip2_or f g xs)

-- the top bit of a lane that is full where one of three tests holds
top_of : (p q r : Bool) → top 7 (bit_or (bit_or (cond p 255 0) (cond q 255 0)) (cond r 255 0)) ≡ (p || q || r)
top_of true true true = refl
top_of true true false = refl
top_of true false true = refl
top_of true false false = refl
top_of false true true = refl
top_of false true false = refl
top_of false false true = refl
top_of false false false = refl

tops : (l : Leavers) (v : List ℕ) → map (top 7) (map (λ x. bit_or (bit_or (hit x l.a) (hit x l.b)) (hit x l.c)) v) ≡ map (is_leaver l) v
tops l [] = refl
tops l (x ∷ xs) = ap₂ (λ a b. a ∷ b) (top_of (eqb x l.a) (eqb x l.b) (eqb x l.c)) (tops l xs)

-- the mask of lanes that are compared with three bytes
pub three_masked : (l : Leavers) (v : List ℕ) → length v ≡ 16 →
    mask_l (map (top 7) (zip2 bit_or (zip2 bit_or (zip2 hit v (replicate 16 l.a)) (zip2 hit v (replicate 16 l.b))) (zip2 hit v (replicate 16 l.c)))) % 2 ^ 64 ≡ mask_l (map (is_leaver l) v)
three_masked l v long =
    let two = ap₂ (zip2 bit_or) (zip2_splat hit v 16 l.a long) (zip2_splat hit v 16 l.b long) ∙ zip2_or (λ x. hit x l.a) (λ x. hit x l.b) v in
    let three = ap₂ (zip2 bit_or) two (zip2_splat hit v 16 l.c long) ∙ zip2_or (λ x. bit_or (hit x l.a) (hit x l.b)) (λ x. hit x l.c) v in
    ap (λ z. mask_l (map (top 7) z) % 2 ^ 64) three ∙ ap (λ ms. mask_l ms % 2 ^ 64) (tops l v) ∙ mask_l-mod (map (is_leaver l) v) 64 (omega (arith, long, length-map v (is_leaver l)))

other : (l : Leavers) (x : ℕ) → is_leaver l x ≡ false → IsOther l x
other l x none = (λ e. clash (sym (ap (λ b. b || eqb x l.b || eqb x l.c) (eq-eqb x l.a e)) ∙ none), λ e. second (eqb x l.a) (eqb x l.c) (ap (λ b. eqb x l.a || b || eqb x l.c) (sym (eq-eqb x l.b e)) ∙ none), λ e. third (eqb x l.a) (eqb x l.b) (ap (λ b. eqb x l.a || eqb x l.b || b) (sym (eq-eqb x l.c e)) ∙ none))
  where
    clash : true ≡ false → ⊥
    clash e = cc

    second : (p r : Bool) → (p || true || r) ≡ false → ⊥
    second true r e = cc
    second false r e = cc

    third : (p q : Bool) → (p || q || true) ≡ false → ⊥
    third true q e = cc
    third false true e = cc
    third false false e = cc

-- the bytes of a load that come before its first leaver
pub others_in : (l : Leavers) (bytes : List ℕ) (start n : ℕ) → start + 16 ≤ length bytes → n ≡ prefix_len (λ x. not (is_leaver l x)) (chunk start 16 bytes) → AllOthers l bytes start (start + n)
others_in l bytes start n room counted = record {
  order = omega arith;
  inside = omega (arith, room, run_in_chunk_le (is_leaver l) bytes start 16 n 0 room counted);
  others = λ i low high. other l (get_or bytes i 0) (run_in_chunk_fails (is_leaver l) bytes start 16 n 0 room counted i low high);
}

counted : (l : Leavers) (bytes : List ℕ) (start m : ℕ) → start + 16 ≤ length bytes → m ≡ mask_l (map (is_leaver l) (chunk start 16 bytes)) →
    cond (eqb m 0) 16 (count_trailing_zeros 64 m) ≡ prefix_len (λ x. not (is_leaver l x)) (chunk start 16 bytes)
counted l bytes start m room is =
    ap (λ k. cond (eqb k 0) 16 (count_trailing_zeros 64 k)) is ∙ first_set_mask_l (is_leaver l) (chunk start 16 bytes) 16 (length-chunk start 16 bytes room) (omega arith)

-- where the mask is empty, all of the load are others
pub none_found : (l : Leavers) (bytes : List ℕ) (start m : ℕ) → start + 16 ≤ length bytes → m ≡ mask_l (map (is_leaver l) (chunk start 16 bytes)) → m ≡ 0 → AllOthers l bytes start (start + 16)
none_found l bytes start m room is none = others_in l bytes start 16 room (sym (cond-true _ _ _ (eq-eqb m 0 none)) ∙ counted l bytes start m room is)

-- and else those before its lowest bit
pub some_found : (l : Leavers) (bytes : List ℕ) (start m : ℕ) → start + 16 ≤ length bytes → m ≡ mask_l (map (is_leaver l) (chunk start 16 bytes)) → (m ≡ 0 → ⊥) →
    (count_trailing_zeros 64 m ≤ 16) × AllOthers l bytes start (start + count_trailing_zeros 64 m)
some_found l bytes start m room is some =
    let n = sym (cond-false _ _ _ (ne_eqb m 0 some)) ∙ counted l bytes start m room is in
    (run_in_chunk_le (is_leaver l) bytes start 16 (count_trailing_zeros 64 m) 0 room n, others_in l bytes start (count_trailing_zeros 64 m) room n)
