-- A packed table goes as the automaton does.
use Rattle.std.specs.Prelude.{◌≡◌, ◌≢◌, ℕ, zero, suc, ◌+◌, ◌<◌, ◌==◌, cond, List, [], ◌∷◌, length, slice_index}
use Rattle.std.proofs.Common.{inl, inr, refl, sym, ◌∙◌, ap, subst, arith}
use Rattle.std.specs.List.{position_or_len}
use Rattle.std.proofs.lemmas.List.Recursion.{is_position_or_len}
use Rattle.lextab.specs.Classes.{IsClassMap}
use Rattle.lextab.specs.Columns.{Packing, AreRows, by_class, IsPacking, packed_step}
use Rattle.lextab.proofs.Counts.{there_is}
use Rattle.lextab.proofs.Orders.{same_or_not, test_same, test_other}

-- the first byte of the class k
abbrev first_byte_of : ℕ → List ℕ → ℕ
first_byte_of k [] = 0
first_byte_of k (c ∷ cs) = cond (c == k) 0 (suc (first_byte_of k cs))

found : (cs : List ℕ) (k b : ℕ) → b < length cs → slice_index cs b ≡ k → (first_byte_of k cs < length cs) × (slice_index cs (first_byte_of k cs) ≡ k)
found [] k b h e = absurd (omega arith)
found (c ∷ cs) k zero h e = let t = test_same c k e in rw t (omega arith, e)
found (c ∷ cs) k (suc b) h e = elim (same_or_not c k) [
  | inl q ↦ (let t = test_same c k q in rw t (omega arith, q))
  | inr n ↦ (let t = test_other c k n in let r = found cs k b (omega arith) e in let r0 = r.0 in rw t (omega arith, r.1))
]

pub first_is : (cs : List ℕ) (k b : ℕ) → b < length cs → slice_index cs b ≡ k
    → (position_or_len (λ c. c == k) cs < length cs) × (slice_index cs (position_or_len (λ c. c == k) cs) ≡ k)
first_is cs k b h e = subst (λ i. (i < length cs) × (slice_index cs i ≡ k)) (is_position_or_len (first_byte_of k) (λ c. c == k) refl (λ c rest. ap (λ n. cond (c == k) 0 n) (omega arith)) cs) (found cs k b h e)

-- the target of the class of a byte is the byte's
pub class_target : (n : ℕ) (go : ℕ → ℕ → ℕ) (cs : List ℕ) (count : ℕ) → IsClassMap n go cs count
    → (s k b : ℕ) → s < n → b < 256 → slice_index cs b ≡ k → by_class go cs s k ≡ go s b
class_target n go cs count m s k b hs hb e =
    let f = first_is cs k b (let l = m.bytes in omega arith) e in
    let f0 = f.0 in
    m.apart (position_or_len (λ c. c == k) cs) b (let l = m.bytes in omega arith) hb (f.1 ∙ sym e) s hs

chosen : (a b c d : ℕ) → a ≡ b → cond (a == b) c d ≡ c
chosen a b c d e = rw (test_same a b e) refl

other_chosen : (a b c d : ℕ) → a ≢ b → cond (a == b) c d ≡ d
other_chosen a b c d e = rw (test_other a b e) refl

rows_step : (n : ℕ) (to : ℕ → ℕ → ℕ) (count : ℕ) (ds bs cs xs : List ℕ) → AreRows n to count ds bs cs xs → slice_index ds 0 ≡ 0
    → (s k : ℕ) → s < n → k < count
    → cond (slice_index cs (slice_index bs s + k) == s) (slice_index xs (slice_index bs s + k)) (slice_index ds s) ≡ to s k
rows_step n to count ds bs cs xs a dead s k h g = elim (same_or_not (to s k) (slice_index ds s)) [
  | inr m ↦ (let u = (a.slots).used s k h (record { class = g; other = m }) in
      chosen (slice_index cs i) s (slice_index xs i) (slice_index ds s) u.0 ∙ u.1)
  | inl e ↦ elim ((a.slots).rest i (let l = (a.check_len).all s h in omega arith)) [
    | inl t ↦ (let u = (a.slots).used t.state t.class t.before t.entry in
        let there : slice_index cs i ≡ t.state = sym (ap (λ (j : ℕ). slice_index cs j) t.here) ∙ u.0 in
        elim (same_or_not t.state s) [
          | inl q ↦ absurd (let w = t.here in let v : slice_index bs t.state ≡ slice_index bs s = ap (λ (j : ℕ). slice_index bs j) q in let same : t.class ≡ k = omega arith in
              (t.entry).other (rw (q, same) e))
          | inr m ↦ other_chosen (slice_index cs i) s (slice_index xs i) (slice_index ds s) (λ x. m (sym there ∙ x)) ∙ sym e
        ])
    | inr f ↦ elim (same_or_not s 0) [
      | inl q ↦ (let z : slice_index ds s ≡ 0 = rw q dead in
          chosen (slice_index cs i) s (slice_index xs i) (slice_index ds s) (f.0 ∙ sym q) ∙ f.1 ∙ sym z ∙ sym e)
      | inr m ↦ other_chosen (slice_index cs i) s (slice_index xs i) (slice_index ds s) (λ x. m (sym x ∙ f.0)) ∙ sym e
    ]
  ]
]
  where
    i : ℕ
    i = slice_index bs s + k

pub goes_as : (n : ℕ) (go : ℕ → ℕ → ℕ) (p : Packing) → IsPacking n go p → ((b : ℕ) → b < 256 → go 0 b ≡ 0)
    → (s b : ℕ) → s < n → b < 256 → packed_step p s b ≡ go s b
goes_as n go p x dead s b h g =
    let some : 0 < n = omega arith in
    let t = there_is (by_class go p.class_of 0) p.class_count (slice_index p.defaults 0) ((x.rows).default 0 some) (let l = (x.classes).below 0 (omega arith) in omega (arith, l)) in
    let u = (x.classes).used t.0 t.1 in
    let zero_default : slice_index p.defaults 0 ≡ 0 =
    sym t.2 ∙ class_target n go p.class_of p.class_count x.classes 0 t.0 u.0 some u.1 u.2 ∙ dead u.0 u.1 in
    rows_step n (by_class go p.class_of) p.class_count p.defaults p.bases p.check p.next x.rows zero_default s (slice_index p.class_of b) h ((x.classes).below b g)
    ∙ class_target n go p.class_of p.class_count x.classes s (slice_index p.class_of b) b h g refl
