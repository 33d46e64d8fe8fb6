-- Chains of the states that go to one state.
use Rattle.std.proofs.Common.{◌≡◌, ◌≢◌, ℕ, suc, ◌+◌, ◌<◌, ◌≤◌, ◌⊎◌, List, length, set, ap, sym, ◌∙◌, inl, inr, arith, get_or-set_other, get_or-set_same, length-set}
use Rattle.std.specs.Prelude.{slice_index}
use Rattle.lexauto_dfa.specs.declared.least.blocks.Blocks.{Blocks}
use Rattle.lexauto_dfa.specs.Marked.{Marks}
use Rattle.lexauto_dfa.specs.Sources.{AreChains}
use Rattle.lexauto_dfa.proofs.Noting.{marks_then}
use Rattle.lexauto_dfa.proofs.Swapped.{same_or_not}

-- the state i is put before the chain of its target y
module _ (row last before : List ℕ) (i y : ℕ) (c : AreChains row last before i) (low : y < length row) (is : slice_index row i ≡ y) (inside : i < length row) where
  at_y : slice_index (set last y (i + 1)) y ≡ i + 1
  at_y = get_or-set_same last y (i + 1) 0 (let l = c.lasts in omega (arith, l, low))

  at_other : (t : ℕ) → t ≢ y → slice_index (set last y (i + 1)) t ≡ slice_index last t
  at_other t n = get_or-set_other last y t (i + 1) 0 n

  at_i : slice_index (set before i (slice_index last y)) i ≡ slice_index last y
  at_i = get_or-set_same before i (slice_index last y) 0 (let l = c.befores in omega (arith, l, inside))

  at_before : (x : ℕ) → x < i → slice_index (set before i (slice_index last y)) x ≡ slice_index before x
  at_before x h = get_or-set_other before i x (slice_index last y) 0 (λ e. omega (arith, e, h))

  last_of : (x : ℕ) → slice_index row x ≡ y → slice_index last (slice_index row x) ≡ slice_index last y
  last_of x e = ap (λ (t : ℕ). slice_index last t) e

  pub one_more_chained : AreChains row (set last y (i + 1)) (set before i (slice_index last y)) (i + 1)
  one_more_chained = record {
    lasts = length-set last y (i + 1) ∙ c.lasts;
    befores = length-set before i (slice_index last y) ∙ c.befores;
    last_low = λ t h. elim (same_or_not t y) [
      | inl q ↦ rw q (let e = at_y in omega (arith, e))
      | inr n ↦ (let e = at_other t n in let o = c.last_low t h in omega (arith, e, o))
    ];
    last_is = λ t z h e. elim (same_or_not t y) [
      | inl q ↦ (let s : slice_index (set last y (i + 1)) y ≡ suc z = rw q at e in let z_is : z ≡ i = (let f = at_y in omega (arith, f, s)) in ap (λ (x : ℕ). slice_index row x) z_is ∙ is ∙ sym q)
      | inr n ↦ c.last_is t z h (sym (at_other t n) ∙ e)
    ];
    last_all = λ x h. elim (same_or_not (slice_index row x) y) [
      | inl q ↦ (let e : slice_index (set last y (i + 1)) (slice_index row x) ≡ i + 1 = ap (λ (t : ℕ). slice_index (set last y (i + 1)) t) q ∙ at_y in omega (arith, e, h))
      | inr n ↦ (let e = at_other (slice_index row x) n in let d : x ≢ i = λ q. n (ap (λ (j : ℕ). slice_index row j) q ∙ is) in let o = c.last_all x (omega (arith, h, d)) in omega (arith, e, o))
    ];
    before_low = λ x h. elim (same_or_not x i) [
      | inl q ↦ rw q (let e = at_i in let o = c.last_low y low in omega (arith, e, o))
      | inr n ↦ (let e = at_before x (omega (arith, h, n)) in let o = c.before_low x (omega (arith, h, n)) in omega (arith, e, o))
    ];
    before_is = λ x z h e. elim (same_or_not x i) [
      | inl q ↦ (let s : slice_index (set before i (slice_index last y)) i ≡ suc z = rw q at e in c.last_is y z low (sym at_i ∙ s) ∙ sym is ∙ ap (λ (j : ℕ). slice_index row j) (sym q))
      | inr n ↦ c.before_is x z (omega (arith, h, n)) (sym (at_before x (omega (arith, h, n))) ∙ e)
    ];
    before_all = λ x z h less e. elim (same_or_not x i) [
      | inl q ↦ (let same : slice_index row z ≡ y = e ∙ ap (λ (j : ℕ). slice_index row j) q ∙ is in
          let o = c.last_all z (omega (arith, less, q)) in let l = last_of z same in
          let b : slice_index (set before i (slice_index last y)) x ≡ slice_index last y = ap (λ (j : ℕ). slice_index (set before i (slice_index last y)) j) q ∙ at_i in
          omega (arith, o, l, b))
      | inr n ↦ (let b = at_before x (omega (arith, h, n)) in let o = c.before_all x z (omega (arith, h, n)) less e in omega (arith, b, o))
    ];
  }

-- from a state to the one before it in its chain
module _ (row last before : List ℕ) (chains : AreChains row last before (length row)) (target next z e : ℕ) (at : next ≡ suc z) (inside : z < length row)
    (here : slice_index row z ≡ target) (is : e ≡ slice_index before z) where
  lower : e ≤ z
  lower = let l = chains.before_low z inside in omega (arith, l, is)

  pub goes_before : (w : ℕ) → e ≡ suc w → slice_index row w ≡ target
  goes_before w f = chains.before_is z w inside (sym is ∙ f) ∙ here

  pub marks_before : (old mid new : Blocks) → Marks old (λ x. (slice_index row x ≡ target) × (next ≤ x)) mid → Marks mid (λ x. x ≡ z) new
      → Marks old (λ x. (slice_index row x ≡ target) × (e ≤ x)) new
  marks_before old mid new f g = marks_then old mid new (λ x. (slice_index row x ≡ target) × (next ≤ x)) (λ x. x ≡ z) (λ x. (slice_index row x ≡ target) × (e ≤ x)) f g
      (λ x (r, from). elim (order x z) [
        | inl less ↦ absurd (let b = chains.before_all z x inside less (r ∙ sym here) in omega (arith, b, from, is))
        | inr (inl same) ↦ inr same
        | inr (inr more) ↦ inl (r, omega (arith, at, more))
      ])
      (λ x (r, from). (r, let l = lower in omega (arith, l, from, at)))
      (λ x same. (ap (λ (j : ℕ). slice_index row j) same ∙ here, let l = lower in omega (arith, l, same)))
    where
      order : (i j : ℕ) → (i < j) ⊎ (i ≡ j) ⊎ (j < i)
      order i j = grind arith
