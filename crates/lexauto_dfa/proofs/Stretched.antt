-- A block's stretch as a list.
use Rattle.std.proofs.Common.{◌≡◌, ◌↔◌, ℕ, ◌+◌, ◌-◌, ◌<◌, ◌≤◌, List, length, take, drop, get_or, ap, sym, subst, ◌∙◌, arith, length-drop}
use Rattle.std.proofs.lemmas.List.{get_or-take, get_or-drop, length-take-le}
use Rattle.std.specs.Prelude.{slice_index}
use Rattle.lexauto_dfa.specs.declared.least.blocks.Blocks.{Blocks}
use Rattle.lexauto_dfa.specs.Arranged.{Arranged, states, count, block_of, place_of}
use Rattle.lexauto_dfa.specs.Sources.{Has}

module _ (b : Blocks) (a : Arranged b) (c : ℕ) (low : c < count b) (xs : List ℕ)
    (is : xs ≡ take (slice_index b.end.items c - slice_index b.first.items c) (drop (slice_index b.first.items c) b.order.items)) where
  from : ℕ
  from = slice_index b.first.items c

  to : ℕ
  to = slice_index b.end.items c

  len : length xs ≡ to - from
  unfolding from to
  len = ap (λ (ys : List ℕ). length ys) is ∙ length-take-le (slice_index b.end.items c - slice_index b.first.items c) (drop (slice_index b.first.items c) b.order.items)
      (let d = length-drop (slice_index b.first.items c) b.order.items in let w = a.within c low in let o = a.orders in let s = a.some c low in omega (arith, d, w, o, s))

  at : (i : ℕ) → i < to - from → slice_index xs i ≡ slice_index b.order.items (from + i)
  unfolding from to
  at i h = ap (λ (ys : List ℕ). get_or ys i 0) is ∙ get_or-take (slice_index b.end.items c - slice_index b.first.items c) (drop (slice_index b.first.items c) b.order.items) i 0 h
      ∙ get_or-drop (slice_index b.first.items c) b.order.items i 0

  pub members_of : (x : ℕ) → x < states b → Has xs x ↔ (block_of b x ≡ c)
  unfolding from to
  members_of x h = (to_block, to_list)
    where
      to_block : Has xs x → block_of b x ≡ c
      to_block (i, g, e) =
          let l = len in
          let k : i < to - from = omega (arith, g, l) in
          let o = at i k in
          ap (λ (y : ℕ). block_of b y) (sym e ∙ o) ∙ a.own c (from + i) low (omega arith) (omega (arith, k))

      to_list : block_of b x ≡ c → Has xs x
      to_list e =
          let f : from ≤ place_of b x = subst (λ (d : ℕ). slice_index b.first.items d ≤ place_of b x) e (a.after x h) in
          let t : place_of b x < to = subst (λ (d : ℕ). place_of b x < slice_index b.end.items d) e (a.before x h) in
          let l = len in
          let k : place_of b x - from < to - from = omega (arith, f, t) in
          let o = at (place_of b x - from) k in
          (place_of b x - from, omega (arith, k, l), o ∙ ap (λ (i : ℕ). slice_index b.order.items i) (let q : from + (place_of b x - from) ≡ place_of b x = omega (arith, f) in q) ∙ a.back x h)
