-- Placing one state after another.
use Rattle.std.specs.Prelude.{◌≡◌, ◌≢◌, ℕ, zero, suc, ◌+◌, ◌-◌, ◌*◌, ◌/◌, ◌%◌, ◌<◌, ◌≤◌, ◌⊎◌, List, [], ◌∷◌, ◌++◌, length, slice_index}
use Rattle.std.proofs.Common.{inl, inr, refl, sym, ◌∙◌, ap, subst, arith, take, drop, replicate}
use Rattle.std.proofs.lemmas.List.{length-replicate}
use Rattle.std.specs.Int.{bit_at}
use Rattle.std.proofs.lemmas.Nat.Bits.{bit_at-lt}
use Rattle.std.proofs.lemmas.List.{get_or_push, get_or_append_left, get_or-append_right, get_or-replicate, get_or_past, take-append-le, take_all}
use Rattle.lextab.specs.Columns.{IsEntry, IsTaken, IsBase}
use Rattle.lextab.specs.Searching.{AreEntries, slot_bit, Hits, IsFirstFit, IsFreeAtEnd, IsMarked, IsEarlier, ArePlaced}
use Rattle.lextab.proofs.Orders.{same_or_not, less_or_not}
use Rattle.lextab.proofs.Counts.{length_append_one}
use Rattle.lextab.proofs.Unique.{moved}

pub written_back : (xs ys : List ℕ) (n : ℕ) → length xs ≡ n → length ys ≡ n → take n (xs ++ drop (length xs) ys) ≡ xs
written_back xs ys n e f = take-append-le n xs (drop (length xs) ys) (omega arith) ∙ take_all n xs (omega arith)

get_or_zeros : (k q : ℕ) → slice_index (replicate k 0) q ≡ 0
get_or_zeros k q = elim (less_or_not q k) [
  | inl lt ↦ get_or-replicate k q 0 0 lt
  | inr ge ↦ get_or_past (replicate k 0) q 0 (omega (arith, length-replicate {A = ℕ} k 0))
]

word_grown : (ws : List ℕ) (k q : ℕ) → slice_index (ws ++ replicate k 0) q ≡ slice_index ws q
word_grown ws k q = elim (less_or_not q (length ws)) [
  | inl lt ↦ get_or_append_left ws (replicate k 0) 0 q lt
  | inr ge ↦ get_or-append_right ws (replicate k 0) (length ws) q 0 refl ge ∙ get_or_zeros k (q - length ws) ∙ sym (get_or_past ws q 0 ge)
]

-- words of zeros at the end change no bit
pub bit_grown : (ws new : List ℕ) (k : ℕ) → new ≡ ws ++ replicate k 0 → (i : ℕ) → slot_bit new i ≡ slot_bit ws i
bit_grown ws new k e i = ap (λ (l : List ℕ). slot_bit l i) e ∙ ap (λ (m : ℕ). bit_at m (i % 64)) (word_grown ws k (i / 64))

pub bit_resized : (ws new : List ℕ) (n k : ℕ) → length ws ≤ n → new ≡ take n ws ++ replicate k 0 → (i : ℕ) → slot_bit new i ≡ slot_bit ws i
bit_resized ws new n k h e = bit_grown ws new k (e ∙ ap (λ (l : List ℕ). l ++ replicate k 0) (take_all n ws h))

pub marked_from : (old mid new ks : List ℕ) (b n : ℕ) → ((i : ℕ) → slot_bit mid i ≡ slot_bit old i) → IsMarked mid ks b n new → IsMarked old ks b n new
marked_from old mid new ks b n e m = record {
  kept = λ i h. m.kept i (e i ∙ h);
  set = m.set;
  only = λ i h. elim (m.only i h) [ inl o ↦ inl (sym (e i) ∙ o) | inr w ↦ inr w ];
}

zero_if : (n : ℕ) → n < 2 → (n ≡ 1 → ⊥) → n ≡ 0
zero_if n h f = omega arith

-- the last words stay free where there are ten more than the place of the entries needs
pub free_after : (old new ks : List ℕ) (b : ℕ) → IsFreeAtEnd old → length old ≤ length new → b / 64 + 10 ≤ length new
    → ((j : ℕ) → j < length ks → slice_index ks j < 256) → IsMarked old ks b (length ks) new → IsFreeAtEnd new
free_after old new ks b free more need small m i h = zero_if (slot_bit new i) (bit_at-lt (slice_index new (i / 64)) (i % 64)) (λ one. elim (m.only i one) [
  | inl o ↦ (let z = free i (omega arith) in omega (arith, z, o))
  | inr w ↦ (let l = small w.0 w.1 in let e = w.2 in omega arith)
])

pub base_moved : (to : ℕ → ℕ → ℕ) (count : ℕ) (ds bs cs : List ℕ) (s b : ℕ) → ((r : ℕ) → r < s → slice_index bs r ≡ slice_index cs r)
    → IsBase to count ds bs s b → IsBase to count ds cs s b
base_moved to count ds bs cs s b same x = record {
  fits = λ k e t. x.fits k e (moved to count ds cs bs s (b + k) (λ r h. sym (same r h)) t);
  least = λ c h f. x.least c h (λ k e t. f k e (moved to count ds bs cs s (c + k) same t));
}

pub later : (to : ℕ → ℕ → ℕ) (count : ℕ) (ds bs : List ℕ) (s i : ℕ) → IsTaken to count ds bs s i → IsTaken to count ds bs (s + 1) i
later to count ds bs s i t = record { state = t.state; class = t.class; before = (let b = t.before in omega arith); entry = t.entry; here = t.here }

zero_one : (n : ℕ) → n ≡ 0 → n ≡ 1 → ⊥
zero_one n e f = omega arith

pub one_more_placed : (to : ℕ → ℕ → ℕ) (count : ℕ) (ds bases words : List ℕ) (full s : ℕ) (row ks : List ℕ) (b : ℕ) (new : List ℕ) (full2 : ℕ)
    → ArePlaced to count ds bases words full s → length row ≡ count → ((k : ℕ) → k < count → slice_index row k ≡ to s k)
    → AreEntries row (slice_index ds s) (length row) ks → IsFirstFit words ks b → b ≤ 64 * (length words - 5) → IsMarked words ks b (length ks) new
    → length new ≤ length words - 5 + 10 → full2 ≤ length new → ((i : ℕ) → i < 64 * full2 → slot_bit new i ≡ 1) → IsFreeAtEnd new
    → ArePlaced to count ds (bases ++ b ∷ []) new full2 (s + 1)
one_more_placed to count ds bases words full s row ks b new full2 x len is ents fit low marked most within2 all2 free2 = record {
  len = omega (arith, length_append_one bases b, x.len);
  base = λ r h. elim (same_or_not r s) [
    | inl q ↦ subst (λ (n : ℕ). IsBase to count ds after n (slice_index after n)) (sym q) (subst (λ (n : ℕ). IsBase to count ds after s n) (sym at) here)
    | inr d ↦ (let g : r < s = omega arith in subst (λ (n : ℕ). IsBase to count ds after r n) (same r g) (base_moved to count ds bases after r (slice_index bases r) (λ m l. same m (omega arith)) (x.base r g)))
  ];
  small = λ r h. elim (same_or_not r s) [
    | inl q ↦ (let f = x.few in let e = ap (λ (n : ℕ). slice_index after n) q in omega (arith, e, at))
    | inr d ↦ (let g : r < s = omega arith in let m = x.small r g in omega (arith, same r g))
  ];
  bits = λ i h. elim (marked.only i h) [
    | inl o ↦ later to count ds after s i (moved to count ds bases after s i same (x.bits i o))
    | inr w ↦ record { state = s; class = slice_index ks w.0; before = omega arith; entry = entry_is w.0 w.1; here = ap (λ (n : ℕ). n + slice_index ks w.0) at ∙ w.2 }
  ];
  taken = λ i t. elim (same_or_not t.state s) [
    | inl q ↦ (
        let e : IsEntry to count ds s t.class = subst (λ (n : ℕ). IsEntry to count ds n t.class) q t.entry in
        let j = entry_of t.class e in
        let there : b + slice_index ks j.0 ≡ i = (let v = ap (λ (n : ℕ). slice_index after n) q in let h = t.here in let w = j.2 in omega (arith, at)) in
        subst (λ (n : ℕ). slot_bit new n ≡ 1) there (marked.set j.0 j.1))
    | inr d ↦ (let g : t.state < s = (let w = t.before in omega arith) in
        marked.kept i (x.taken i (record { state = t.state; class = t.class; before = g; entry = t.entry; here = ap (λ (n : ℕ). n + t.class) (same t.state g) ∙ t.here })))
  ];
  room = record { within = within2; taken = all2; free = free2 };
  few = (let f = x.few in omega arith);
}
  where
    after : List ℕ
    after = bases ++ b ∷ []

    same : (r : ℕ) → r < s → slice_index bases r ≡ slice_index (bases ++ b ∷ []) r
    same r h = sym (get_or_append_left bases (b ∷ []) 0 r (let n = x.len in omega arith))

    at : slice_index (bases ++ b ∷ []) s ≡ b
    at = get_or_push bases b 0 s x.len

    entry_of : (k : ℕ) → IsEntry to count ds s k → (j : ℕ) × (j < length ks) × (slice_index ks j ≡ k)
    entry_of k e = ents.all k (let l = e.class in omega arith) (λ z. e.other (sym (is k e.class) ∙ z))

    entry_is : (j : ℕ) → j < length ks → IsEntry to count ds s (slice_index ks j)
    entry_is j h = let o = ents.only j h in let o0 = o.0 in let l : slice_index ks j < count = omega arith in
        record { class = l; other = λ z. o.1 (is (slice_index ks j) l ∙ z) }

    here : IsBase to count ds (bases ++ b ∷ []) s b
    here = base_moved to count ds bases (bases ++ b ∷ []) s b same (record {
      fits = λ k e t. (let j = entry_of k e in
          zero_one (slot_bit words (b + k)) (ap (λ (n : ℕ). slot_bit words (b + n)) (sym j.2) ∙ fit.fits j.0 j.1) (x.taken (b + k) t));
      least = λ c h f. (let w = fit.first c h in
          f (slice_index ks w.0) (entry_is w.0 w.1) (x.bits (c + slice_index ks w.0) w.2));
    })

-- whether one of the first n entries placed from c falls on a bit that is set
hits_or_not : (ws ks : List ℕ) (c n : ℕ) → ((j : ℕ) × (j < n) × (slot_bit ws (c + slice_index ks j) ≡ 1))
    ⊎ ((j : ℕ) → j < n → slot_bit ws (c + slice_index ks j) ≢ 1)
hits_or_not ws ks c zero = inr (λ j h. absurd (omega arith))
hits_or_not ws ks c (suc n) = elim (hits_or_not ws ks c n) [
  | inl w ↦ inl (w.0, (let l = w.1 in omega arith), w.2)
  | inr none ↦ elim (same_or_not (slot_bit ws (c + slice_index ks n)) 1) [
    | inl e ↦ inl (n, omega arith, e)
    | inr d ↦ inr (λ j h. elim (same_or_not j n) [
      | inl q ↦ (λ e. d (ap (λ (m : ℕ). slot_bit ws (c + slice_index ks m)) (sym q) ∙ e))
      | inr o ↦ none j (omega arith)
    ])
  ]
]

-- where an earlier state fitted nowhere before its base, a row with all of its entries does not fit either
pub starts_late : (to : ℕ → ℕ → ℕ) (count : ℕ) (ds bases words : List ℕ) (full s : ℕ) (row ks : List ℕ) (d b : ℕ)
    → ArePlaced to count ds bases words full s → AreEntries row d (length row) ks → length row ≡ count
    → IsEarlier to count ds bases row d b → (c : ℕ) → c < b → Hits words ks c
starts_late to count ds bases words full s row ks d b x ents len earlier c h = elim earlier [
  | inl z ↦ absurd (omega arith)
  | inr w ↦ (
      let r = w.0 in
      let low : r < s = (let l = w.1 in let n = x.len in omega arith) in
      let lt : c < slice_index bases r = (let e = w.2 in omega arith) in
      elim (hits_or_not words ks c (length ks)) [
        | inl hit ↦ hit
        | inr none ↦ absurd ((x.base r low).least c lt (λ k e t.
            (let j = ents.all k (let l = e.class in omega arith) (w.3 k e) in
            let set = x.taken (c + k) (record { state = t.state; class = t.class; before = (let l = t.before in omega arith); entry = t.entry; here = t.here }) in
            none j.0 j.1 (ap (λ (n : ℕ). slot_bit words (c + n)) j.2 ∙ set))))
      ])
]
