-- A block is cut into its marked and its other states.
use Rattle.std.proofs.Common.{◌≡◌, ◌≢◌, ◌↔◌, ℕ, ◌+◌, ◌<◌, ◌≤◌, ◌⊎◌, true, refl, ap, sym, ◌∙◌, inl, inr, arith, Vec, Global}
use Rattle.std.specs.Prelude.{slice_index}
use Rattle.lexauto_dfa.specs.declared.least.blocks.Blocks.{Blocks}
use Rattle.lexauto_dfa.specs.Arranged.{Arranged, ArePieces, IsCut, IsMarked, IsTouched, block_of, count, place_of, states}

less_or_not : (i j : ℕ) → (i < j) ⊎ (j ≤ i)
less_or_not i j = grind arith

-- the smaller piece is a new block
module _ (old new : Blocks) (a : Arranged old) (c kept kept_end piece piece_end : ℕ) (low : c < count old)
    (p : ArePieces (slice_index old.first.items c) (slice_index old.middle.items c) (slice_index old.end.items c) kept kept_end piece piece_end)
    (place : new.place ≡ old.place) (same_states : states new ≡ states old) (grown : count new ≡ count old + 1)
    (moved : (x : ℕ) → x < states old → piece ≤ place_of old x → place_of old x < piece_end → block_of new x ≡ count old)
    (rest : (x : ℕ) → ((piece ≤ place_of old x) × (place_of old x < piece_end) → ⊥) → block_of new x ≡ block_of old x)
    (others : (d : ℕ) → d < count old → d ≢ c → (slice_index new.first.items d ≡ slice_index old.first.items d) × (slice_index new.middle.items d ≡ slice_index old.middle.items d))
    (touched : (d : ℕ) → d < count new → IsTouched new d → (d < count old) × (d ≢ c) × IsTouched old d) where
  abbrev IsIn : ℕ → Type 0
  IsIn x = (piece ≤ place_of old x) × (place_of old x < piece_end)

  in_or_not : (x : ℕ) → IsIn x ⊎ (IsIn x → ⊥)
  in_or_not x = elim (less_or_not (place_of old x) piece) [
    | inl h ↦ inr (λ e. let k = e.0 in omega (arith, h, k))
    | inr h ↦ elim (less_or_not (place_of old x) piece_end) [ inl g ↦ inl (h, g) | inr g ↦ inr (λ e. let k = e.1 in omega (arith, g, k)) ]
  ]

  was : (x : ℕ) → x < states old → IsIn x → block_of old x ≡ c
  was x h e = ap (λ (y : ℕ). block_of old y) (sym (a.back x h))
      ∙ a.own c (place_of old x) low (let f = p.divided.piece_from in let k = e.0 in omega (arith, f, k)) (let t = p.divided.piece_to in let k = e.1 in omega (arith, t, k))

  in_moved : (x : ℕ) → x < states old → IsIn x → block_of new x ≡ count old
  in_moved x h e = moved x h e.0 e.1

  middle_at : (x : ℕ) → block_of old x ≡ c → slice_index old.middle.items (block_of old x) ≡ slice_index old.middle.items c
  middle_at x e = ap (λ (d : ℕ). slice_index old.middle.items d) e

  first_at : (x : ℕ) → x < states old → block_of old x ≡ c → slice_index old.first.items c ≤ place_of old x
  first_at x h e = let l = a.after x h in let f : slice_index old.first.items (block_of old x) ≡ slice_index old.first.items c = ap (λ (d : ℕ). slice_index old.first.items d) e in omega (arith, l, f)

  end_at : (x : ℕ) → x < states old → block_of old x ≡ c → place_of old x < slice_index old.end.items c
  end_at x h e = let l = a.before x h in let f : slice_index old.end.items (block_of old x) ≡ slice_index old.end.items c = ap (λ (d : ℕ). slice_index old.end.items d) e in omega (arith, l, f)

  same_side : (x y : ℕ) → x < states old → y < states old → block_of old x ≡ c → block_of old y ≡ c → IsMarked old x ↔ IsMarked old y → IsIn x → IsIn y
  same_side x y h k e g w i =
      let mx = middle_at x e in
      let my = middle_at y g in
      let i0 = i.0 in
      let i1 = i.1 in
      elim p.either [
        | inl q ↦ (let q0 = q.0 in let q1 = q.1 in let f = first_at y k g in let m : IsMarked old y = w.0 (omega (arith, mx, i1, q1)) in (omega (arith, q0, f), omega (arith, q1, my, m)))
        | inr q ↦ (let q0 = q.0 in let q1 = q.1 in let t = end_at y k g in elim (less_or_not (place_of old y) piece) [
          | inl l ↦ absurd (let m : IsMarked old x = w.1 (omega (arith, my, l, q0)) in omega (arith, m, mx, q0, i0))
          | inr l ↦ (l, omega (arith, t, q1))
        ])
      ]

  marked_too : (x y : ℕ) → x < states old → y < states old → block_of old x ≡ c → block_of old y ≡ c → IsIn x ↔ IsIn y → IsMarked old x → IsMarked old y
  marked_too x y h k e g w m =
      let mx = middle_at x e in
      let my = middle_at y g in
      elim p.either [
        | inl q ↦ (let q0 = q.0 in let q1 = q.1 in let f = first_at x h e in let i = w.0 (omega (arith, q0, f), omega (arith, q1, mx, m)) in let i1 = i.1 in omega (arith, i1, q1, my))
        | inr q ↦ (let q0 = q.0 in let q1 = q.1 in let t = end_at y k g in elim (less_or_not (place_of old y) piece) [
          | inl l ↦ omega (arith, l, q0, my)
          | inr l ↦ absurd (let i = w.1 (l, omega (arith, t, q1)) in let i0 = i.0 in omega (arith, i0, q0, mx, m))
        ])
      ]

  both_in : (x y : ℕ) → x < states old → y < states old → block_of old y ≡ c → block_of new x ≡ block_of new y → IsIn x → IsIn y
  both_in x y h k g w i = elim (in_or_not y) [
    | inl j ↦ j
    | inr n ↦ absurd (let s = in_moved x h i in let r = rest y n in omega (arith, s, r, g, w, low))
  ]

  stays : (x : ℕ) → x < states old → block_of old x ≢ c → IsIn x → ⊥
  stays x h n i = n (was x h i)

  pub pieces_cut : IsCut old c new true
  pieces_cut = record {
    same_states = same_states;
    grown = grown;
    kept = λ x h n. rest x (stays x h n);
    marks = λ x h n.
        let q : place_of new x ≡ place_of old x = ap (λ (v : Vec ℕ Global). slice_index v.items x) place in
        let m : slice_index new.middle.items (block_of new x) ≡ slice_index old.middle.items (block_of old x) =
        ap (λ (d : ℕ). slice_index new.middle.items d) (rest x (stays x h n)) ∙ (others (block_of old x) (a.numbered x h) n).1 in
        ((λ w. omega (arith, q, m, w)), (λ w. omega (arith, q, m, w)));
    either = λ x h e. elim (in_or_not x) [ inl i ↦ inr (refl, in_moved x h i) | inr n ↦ inl (rest x n ∙ e) ];
    together = λ x y h k e g w. elim (in_or_not x) [
      | inl i ↦ in_moved x h i ∙ sym (in_moved y k (same_side x y h k e g w i))
      | inr n ↦ rest x n ∙ e ∙ sym g ∙ sym (rest y (λ j. n (same_side y x k h g e (w.1, w.0) j)))
    ];
    apart = λ x y h k e g w.
        let there = both_in x y h k g w in
        let back = both_in y x k h e (sym w) in
        (marked_too x y h k e g (there, back), marked_too y x k h g e (back, there));
    touched = touched;
    remains = λ d h n t. let o = others d h n in let o0 = o.0 in let o1 = o.1 in omega (arith, o0, o1, t);
  }
