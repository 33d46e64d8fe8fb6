-- Setting bits.
use Rattle.std.specs.Prelude.{◌≡◌, ◌≢◌, ℕ, ◌+◌, ◌*◌, ◌/◌, ◌%◌, ◌^◌, ◌<◌, List, length, slice_index, bit_or}
use Rattle.std.proofs.Common.{inl, inr, sym, ◌∙◌, ap, arith, set, w64, get_or-set_other, get_or-set_same}
use Rattle.std.specs.Int.{bit_at}
use Rattle.std.proofs.lemmas.Nat.Bits.{bit_at_set_same, bit_at_set_other}
use Rattle.lextab.specs.Searching.{slot_bit, IsMarked}
use Rattle.lextab.proofs.Orders.{same_or_not}

-- the words with the bit `at` set
abbrev pub with_slot : List ℕ → ℕ → List ℕ
with_slot ws at = set ws (at / 64) (bit_or (slice_index ws (at / 64)) (1 * 2 ^ (at % 64) % 2 ^ 64))

pub slot_same : (ws : List ℕ) (at : ℕ) → at / 64 < length ws → slot_bit (with_slot ws at) at ≡ 1
slot_same ws at h = ap (λ (m : ℕ). bit_at m (at % 64)) (get_or-set_same ws (at / 64) (bit_or (slice_index ws (at / 64)) (1 * 2 ^ (at % 64) % 2 ^ 64)) 0 h)
    ∙ bit_at_set_same w64 (slice_index ws (at / 64)) (at % 64) (omega arith)

pub slot_other : (ws : List ℕ) (at i : ℕ) → at / 64 < length ws → i ≢ at → slot_bit (with_slot ws at) i ≡ slot_bit ws i
slot_other ws at i h ne = elim (same_or_not (i / 64) (at / 64)) [
  | inl e ↦ (let d : i % 64 ≢ at % 64 = (λ q. ne (omega arith)) in
      ap (λ (q : ℕ). bit_at (slice_index (with_slot ws at) q) (i % 64)) e
      ∙ ap (λ (m : ℕ). bit_at m (i % 64)) (get_or-set_same ws (at / 64) (bit_or (slice_index ws (at / 64)) (1 * 2 ^ (at % 64) % 2 ^ 64)) 0 h)
      ∙ bit_at_set_other w64 (slice_index ws (at / 64)) (at % 64) (omega arith) (i % 64) d
      ∙ ap (λ (q : ℕ). bit_at (slice_index ws q) (i % 64)) (sym e))
  | inr d ↦ ap (λ (m : ℕ). bit_at m (i % 64)) (get_or-set_other ws (at / 64) (i / 64) (bit_or (slice_index ws (at / 64)) (1 * 2 ^ (at % 64) % 2 ^ 64)) 0 d)
]

pub one_more_marked : (old ks new : List ℕ) (b n at : ℕ) → IsMarked old ks b n new → at ≡ b + slice_index ks n → at / 64 < length new
    → IsMarked old ks b (n + 1) (with_slot new at)
one_more_marked old ks new b n at m e low = record {
  kept = λ i h. stays i (m.kept i h);
  set = λ j h. elim (same_or_not j n) [
    | inl q ↦ (let s : b + slice_index ks j ≡ at = (let t = ap (λ (k : ℕ). slice_index ks k) q in omega arith) in
        ap (λ (i : ℕ). slot_bit (with_slot new at) i) s ∙ slot_same new at low)
    | inr d ↦ stays (b + slice_index ks j) (m.set j (omega arith))
  ];
  only = λ i h. elim (same_or_not i at) [
    | inl q ↦ inr (n, omega arith, sym e ∙ sym q)
    | inr d ↦ elim (m.only i (sym (slot_other new at i low d) ∙ h)) [
      | inl o ↦ inl o
      | inr w ↦ inr (w.0, (let l = w.1 in omega arith), w.2)
    ]
  ];
}
  where
    stays : (i : ℕ) → slot_bit new i ≡ 1 → slot_bit (with_slot new at) i ≡ 1
    stays i h = elim (same_or_not i at) [
      | inl q ↦ ap (λ (j : ℕ). slot_bit (with_slot new at) j) q ∙ slot_same new at low
      | inr d ↦ slot_other new at i low d ∙ h
    ]
