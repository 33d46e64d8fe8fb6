-- How great the numbers of a packing are.
use Rattle.std.specs.Prelude.{◌≡◌, ◌≢◌, ℕ, ◌+◌, ◌*◌, ◌<◌, ◌≤◌, List, length, slice_index}
use Rattle.std.proofs.Common.{inl, inr, sym, ◌∙◌, ap, subst, arith}
use Rattle.std.proofs.lemmas.Nat.{row_fits, mul-le}
use Rattle.lextab.specs.Classes.{IsClassMap}
use Rattle.lextab.specs.Columns.{Packing, IsEntry, IsTaken, IsBase, IsSize, by_class, IsPacking, HasRanges}
use Rattle.lextab.proofs.Counts.{there_is}
use Rattle.lextab.proofs.Orders.{strongly}
use Rattle.lextab.proofs.Steps.{class_target}

not_below : (a b : ℕ) → (a < b → ⊥) → b ≤ a
not_below a b f = omega arith

-- a byte's class is no greater than the byte
class_low : (n : ℕ) (go : ℕ → ℕ → ℕ) (cs : List ℕ) (count : ℕ) → IsClassMap n go cs count → (b : ℕ) → b < 256 → slice_index cs b ≤ b
class_low n go cs count x = strongly (λ (b : ℕ). b < 256 → slice_index cs b ≤ b)
    (λ b prior h. not_below b (slice_index cs b) (λ less.
    let w = x.order b b h less in let w1 = w.1 in let w2 = w.2 in let p = prior w.0 w1 (omega arith) in omega arith))

pub class_count_low : (n : ℕ) (go : ℕ → ℕ → ℕ) (cs : List ℕ) (count : ℕ) → IsClassMap n go cs count → count ≤ 256
class_count_low n go cs count x = not_below 256 count (λ less.
    let u = x.used 256 less in let u1 = u.1 in let u2 = u.2 in let l = class_low n go cs count x u.0 u1 in omega arith)

-- the state r stands no higher than after r rows of all classes
base_low : (n : ℕ) (to : ℕ → ℕ → ℕ) (count : ℕ) (ds bs : List ℕ) → ((s : ℕ) → s < n → IsBase to count ds bs s (slice_index bs s))
    → (r : ℕ) → r < n → slice_index bs r ≤ r * count
base_low n to count ds bs x = strongly (λ (r : ℕ). r < n → slice_index bs r ≤ r * count)
    (λ r prior h. not_below (r * count) (slice_index bs r) (λ less. (x r h).least (r * count) less
    (λ k e t. let b = t.before in let c = (t.entry).class in let at = t.here in
    let p = prior t.state b (omega arith) in let m = row_fits t.state count r count b (omega arith) in omega arith)))

pub size_low : (n : ℕ) (to : ℕ → ℕ → ℕ) (count : ℕ) (ds bs : List ℕ) (size : ℕ) → ((s : ℕ) → s < n → IsBase to count ds bs s (slice_index bs s))
    → IsSize n count bs size → count ≤ 256 → size ≤ n * 256
size_low n to count ds bs size x y few =
    let o = y.one in
    let at = o.2 in
    let p = base_low n to count ds bs x o.0 o.1 in
    let m = row_fits o.0 count n count o.1 (omega arith) in
    let l = mul-le n count n 256 (omega arith) few in
    omega arith

default_low : (n : ℕ) (go : ℕ → ℕ → ℕ) (p : Packing) → IsPacking n go p → ((s b : ℕ) → s < n → b < 256 → go s b < n)
    → (s : ℕ) → s < n → slice_index p.defaults s < n
default_low n go p x below s h =
    let t = there_is (by_class go p.class_of s) p.class_count (slice_index p.defaults s) ((x.rows).default s h) (let l = (x.classes).below 0 (omega arith) in omega (arith, l)) in
    let u = (x.classes).used t.0 t.1 in
    let e = class_target n go p.class_of p.class_count x.classes s t.0 u.0 h u.1 u.2 in
    let b = below s u.0 h u.1 in
    let d = t.2 in
    omega arith

default_zero : (n : ℕ) (go : ℕ → ℕ → ℕ) (p : Packing) → IsPacking n go p → 0 < n → ((b : ℕ) → b < 256 → go 0 b ≡ 0) → slice_index p.defaults 0 ≡ 0
default_zero n go p x some dead =
    let t = there_is (by_class go p.class_of 0) p.class_count (slice_index p.defaults 0) ((x.rows).default 0 some) (let l = (x.classes).below 0 (omega arith) in omega (arith, l)) in
    let u = (x.classes).used t.0 t.1 in
    sym t.2 ∙ class_target n go p.class_of p.class_count x.classes 0 t.0 u.0 some u.1 u.2 ∙ dead u.0 u.1

no_dead_entry : (n : ℕ) (go : ℕ → ℕ → ℕ) (p : Packing) → IsPacking n go p → 0 < n → ((b : ℕ) → b < 256 → go 0 b ≡ 0)
    → (k : ℕ) → IsEntry (by_class go p.class_of) p.class_count p.defaults 0 k → ⊥
no_dead_entry n go p x some dead k e =
    let u = (x.classes).used k e.class in
    e.other (class_target n go p.class_of p.class_count x.classes 0 k u.0 some u.1 u.2 ∙ dead u.0 u.1 ∙ sym (default_zero n go p x some dead))

pub ranges_of : (n : ℕ) (go : ℕ → ℕ → ℕ) (p : Packing) → IsPacking n go p → 0 < n → ((b : ℕ) → b < 256 → go 0 b ≡ 0)
    → ((s b : ℕ) → s < n → b < 256 → go s b < n) → HasRanges n p
ranges_of n go p x some dead below = record {
  some_class = (let b = (x.classes).below 0 (omega arith) in omega arith);
  classes = few;
  slots = (let a = ((x.rows).check_len).all 0 some in omega arith);
  few_slots = size_low n to p.class_count p.defaults p.bases (length p.check) (x.rows).base (x.rows).check_len few;
  default = default_low n go p x below;
  dead_default = default_zero n go p x some dead;
  dead_base = (let b = base_low n to p.class_count p.defaults p.bases (x.rows).base 0 some in omega arith);
  base = ((x.rows).check_len).all;
  slot = λ i h. elim (((x.rows).slots).rest i h) [
    | inl t ↦ inr (taken i t)
    | inr z ↦ inl z
  ];
}
  where
    to : ℕ → ℕ → ℕ
    to = by_class go p.class_of

    few : p.class_count ≤ 256
    few = class_count_low n go p.class_of p.class_count x.classes

    taken : (i : ℕ) → IsTaken (by_class go p.class_of) p.class_count p.defaults p.bases n i
        → (1 ≤ slice_index p.check i) × (slice_index p.check i < n) × (slice_index p.bases (slice_index p.check i) ≤ i)
        × (i < slice_index p.bases (slice_index p.check i) + p.class_count) × (slice_index p.next i < n)
    taken i t =
        let u = ((x.rows).slots).used t.state t.class t.before t.entry in
        let at : slice_index p.check i ≡ t.state = subst (λ (j : ℕ). slice_index p.check j ≡ t.state) t.here u.0 in
        let go_is : slice_index p.next i ≡ by_class go p.class_of t.state t.class = subst (λ (j : ℕ). slice_index p.next j ≡ by_class go p.class_of t.state t.class) t.here u.1 in
        let some_state : t.state ≢ 0 = (λ q. no_dead_entry n go p x some dead t.class (subst (λ (m : ℕ). IsEntry (by_class go p.class_of) p.class_count p.defaults m t.class) q t.entry)) in
        let l = t.before in let here = t.here in let c = (t.entry).class in
        let v = (x.classes).used t.class c in
        let e = class_target n go p.class_of p.class_count x.classes t.state t.class v.0 l v.1 v.2 in
        let low = below t.state v.0 l v.1 in
        let base_at : slice_index p.bases (slice_index p.check i) ≡ slice_index p.bases t.state = ap (λ (j : ℕ). slice_index p.bases j) at in
        (omega arith, omega arith, omega arith, omega arith, omega arith)
