-- An automaton has at most one packing.
use Rattle.std.specs.Prelude.{◌≡◌, ℕ, ◌+◌, ◌<◌, List, length, slice_index}
use Rattle.std.proofs.Common.{inl, inr, refl, sym, ◌∙◌, subst, arith}
use Rattle.std.proofs.lemmas.List.{ext_get_or}
use Rattle.lextab.specs.Classes.{IsClassMap}
use Rattle.lextab.specs.Columns.{Packing, IsDefault, IsTaken, IsBase, IsSize, AreSlots, AreRows, by_class, IsPacking}
use Rattle.lextab.proofs.Orders.{strongly, neither_less}

class_not_less : (n : ℕ) (go : ℕ → ℕ → ℕ) (cs ds : List ℕ) (i j : ℕ) → IsClassMap n go cs i → IsClassMap n go ds j
    → (b : ℕ) → b < 256 → ((c : ℕ) → c < b → slice_index cs c ≡ slice_index ds c) → slice_index cs b < slice_index ds b → ⊥
class_not_less n go cs ds i j x y b h prior less =
    let w = y.order b (slice_index cs b) h less in
    let low : w.0 < 256 = (let lt = w.1 in omega arith) in
    let before = prior w.0 w.1 in
    let same : slice_index cs w.0 ≡ slice_index cs b = before ∙ w.2 in
    let one = y.alike w.0 b low h (x.apart w.0 b low h same) in
    let at = w.2 in
    omega arith

pub same_class : (n : ℕ) (go : ℕ → ℕ → ℕ) (cs ds : List ℕ) (i j : ℕ) → IsClassMap n go cs i → IsClassMap n go ds j
    → (b : ℕ) → b < 256 → slice_index cs b ≡ slice_index ds b
same_class n go cs ds i j x y = strongly (λ (b : ℕ). b < 256 → slice_index cs b ≡ slice_index ds b)
    (λ b prior h. neither_less (slice_index cs b) (slice_index ds b)
    (class_not_less n go cs ds i j x y b h (λ c g. prior c g (omega arith)))
    (class_not_less n go ds cs j i y x b h (λ c g. sym (prior c g (omega arith)))))

count_not_less : (n : ℕ) (go : ℕ → ℕ → ℕ) (cs ds : List ℕ) (i j : ℕ) → IsClassMap n go cs i → IsClassMap n go ds j → i < j → ⊥
count_not_less n go cs ds i j x y less =
    let u = y.used i less in
    let a = x.below u.0 u.1 in
    let b = same_class n go cs ds i j x y u.0 u.1 in
    let at = u.2 in
    omega arith

same_class_map : (n : ℕ) (go : ℕ → ℕ → ℕ) (cs ds : List ℕ) (i j : ℕ) → IsClassMap n go cs i → IsClassMap n go ds j → (cs ≡ ds) × (i ≡ j)
same_class_map n go cs ds i j x y = (
  ext_get_or 0 cs ds (x.bytes ∙ sym y.bytes) (λ b h. same_class n go cs ds i j x y b (let e = x.bytes in omega arith)),
  neither_less i j (count_not_less n go cs ds i j x y) (count_not_less n go ds cs j i y x),
)

pub same_default : (row : ℕ → ℕ) (count d e : ℕ) → IsDefault row count d → IsDefault row count e → d ≡ e
same_default row count d e x y =
    let a = x.most e in
    let b = y.most d in
    let f = x.least e (omega arith) in
    let g = y.least d (omega arith) in
    omega arith

pub moved : (to : ℕ → ℕ → ℕ) (count : ℕ) (ds bs cs : List ℕ) (s i : ℕ) → ((r : ℕ) → r < s → slice_index bs r ≡ slice_index cs r)
    → IsTaken to count ds bs s i → IsTaken to count ds cs s i
moved to count ds bs cs s i same t = record {
  state = t.state;
  class = t.class;
  before = t.before;
  entry = t.entry;
  here = (let e = same t.state t.before in let h = t.here in omega arith);
}

base_not_less : (to : ℕ → ℕ → ℕ) (count : ℕ) (ds bs cs : List ℕ) (s b c : ℕ) → ((r : ℕ) → r < s → slice_index bs r ≡ slice_index cs r)
    → IsBase to count ds bs s b → IsBase to count ds cs s c → b < c → ⊥
base_not_less to count ds bs cs s b c same x y less =
    y.least b less (λ k e t. x.fits k e (moved to count ds cs bs s (b + k) (λ r h. sym (same r h)) t))

same_base : (n : ℕ) (to : ℕ → ℕ → ℕ) (count : ℕ) (ds bs cs : List ℕ)
    → ((s : ℕ) → s < n → IsBase to count ds bs s (slice_index bs s)) → ((s : ℕ) → s < n → IsBase to count ds cs s (slice_index cs s))
    → (s : ℕ) → s < n → slice_index bs s ≡ slice_index cs s
same_base n to count ds bs cs x y = strongly (λ (s : ℕ). s < n → slice_index bs s ≡ slice_index cs s)
    (λ s prior h. neither_less (slice_index bs s) (slice_index cs s)
    (base_not_less to count ds bs cs s (slice_index bs s) (slice_index cs s) (λ r g. prior r g (omega arith)) (x s h) (y s h))
    (base_not_less to count ds cs bs s (slice_index cs s) (slice_index bs s) (λ r g. sym (prior r g (omega arith))) (y s h) (x s h)))

pub same_size : (n count : ℕ) (bs : List ℕ) (i j : ℕ) → IsSize n count bs i → IsSize n count bs j → i ≡ j
same_size n count bs i j x y =
    let a = x.all (y.one).0 (y.one).1 in
    let b = y.all (x.one).0 (x.one).1 in
    let f = (x.one).2 in
    let g = (y.one).2 in
    omega arith

same_slot : (n : ℕ) (to : ℕ → ℕ → ℕ) (count : ℕ) (ds bs cs xs es ys : List ℕ)
    → AreSlots n to count ds bs cs xs → AreSlots n to count ds bs es ys → length cs ≡ length es → (i : ℕ) → i < length cs
    → (slice_index cs i ≡ slice_index es i) × (slice_index xs i ≡ slice_index ys i)
same_slot n to count ds bs cs xs es ys x y len i h = elim (x.rest i h) [
  | inl t ↦ both t
  | inr z ↦ elim (y.rest i (omega arith)) [ inl t ↦ both t | inr w ↦ (z.0 ∙ sym w.0, z.1 ∙ sym w.1) ]
]
  where
    both : IsTaken to count ds bs n i → (slice_index cs i ≡ slice_index es i) × (slice_index xs i ≡ slice_index ys i)
    both t = let u = x.used t.state t.class t.before t.entry in
        let v = y.used t.state t.class t.before t.entry in
        subst (λ (j : ℕ). (slice_index cs j ≡ slice_index es j) × (slice_index xs j ≡ slice_index ys j)) t.here (u.0 ∙ sym v.0, u.1 ∙ sym v.1)

same_defaults : (n : ℕ) (to : ℕ → ℕ → ℕ) (count : ℕ) (ds es bs cs xs ys us vs : List ℕ)
    → AreRows n to count ds bs xs us → AreRows n to count es cs ys vs → ds ≡ es
same_defaults n to count ds es bs cs xs ys us vs x y = ext_get_or 0 ds es (x.defaults_len ∙ sym y.defaults_len)
    (λ s h. same_default (to s) count (slice_index ds s) (slice_index es s) (x.default s (let e = x.defaults_len in omega arith)) (y.default s (let e = x.defaults_len in omega arith)))

same_bases : (n : ℕ) (to : ℕ → ℕ → ℕ) (count : ℕ) (ds bs cs xs ys us vs : List ℕ)
    → AreRows n to count ds bs xs us → AreRows n to count ds cs ys vs → bs ≡ cs
same_bases n to count ds bs cs xs ys us vs x y = ext_get_or 0 bs cs (x.bases_len ∙ sym y.bases_len)
    (λ s h. same_base n to count ds bs cs x.base y.base s (let e = x.bases_len in omega arith))

same_checks : (n : ℕ) (to : ℕ → ℕ → ℕ) (count : ℕ) (ds bs xs ys us vs : List ℕ)
    → AreRows n to count ds bs xs us → AreRows n to count ds bs ys vs → (xs ≡ ys) × (us ≡ vs)
same_checks n to count ds bs xs ys us vs x y =
    let len : length xs ≡ length ys = same_size n count bs (length xs) (length ys) x.check_len y.check_len in
    let len2 : length us ≡ length vs = same_size n count bs (length us) (length vs) x.next_len y.next_len in
    let len3 : length xs ≡ length us = same_size n count bs (length xs) (length us) x.check_len x.next_len in (
      ext_get_or 0 xs ys len (λ i h. (same_slot n to count ds bs xs us ys vs x.slots y.slots len i h).0),
      ext_get_or 0 us vs len2 (λ i h. (same_slot n to count ds bs xs us ys vs x.slots y.slots len i (omega arith)).1),
    )

pub one_packing_is : (n : ℕ) (go : ℕ → ℕ → ℕ) (p q : Packing) → IsPacking n go p → IsPacking n go q → p ≡ q
one_packing_is n go p q x y =
    let m = same_class_map n go p.class_of q.class_of p.class_count q.class_count x.classes y.classes in
    let to = by_class go p.class_of in
    let y1 : AreRows n to q.class_count q.defaults q.bases q.check q.next =
    subst (λ (cs : List ℕ). AreRows n (by_class go cs) q.class_count q.defaults q.bases q.check q.next) (sym m.0) y.rows in
    let y2 : AreRows n to p.class_count q.defaults q.bases q.check q.next =
    subst (λ (k : ℕ). AreRows n to k q.defaults q.bases q.check q.next) (sym m.1) y1 in
    let d = same_defaults n to p.class_count p.defaults q.defaults p.bases q.bases p.check q.check p.next q.next x.rows y2 in
    let y3 : AreRows n to p.class_count p.defaults q.bases q.check q.next =
    subst (λ (l : List ℕ). AreRows n to p.class_count l q.bases q.check q.next) (sym d) y2 in
    let b = same_bases n to p.class_count p.defaults p.bases q.bases p.check q.check p.next q.next x.rows y3 in
    let y4 : AreRows n to p.class_count p.defaults p.bases q.check q.next =
    subst (λ (l : List ℕ). AreRows n to p.class_count p.defaults l q.check q.next) (sym b) y3 in
    let s = same_checks n to p.class_count p.defaults p.bases p.check q.check p.next q.next x.rows y4 in
    let e0 = m.0 in
    let e1 = m.1 in
    let e2 = s.0 in
    let e3 = s.1 in
    same p.class_of q.class_of p.class_count q.class_count p.defaults q.defaults p.bases q.bases p.check q.check p.next q.next e0 e1 d b e2 e3
  where
    same : (a a' : List ℕ) (b b' : ℕ) (c c' d d' e e' f f' : List ℕ) → a ≡ a' → b ≡ b' → c ≡ c' → d ≡ d' → e ≡ e' → f ≡ f'
        → ◌≡◌ {A = Packing} (record { class_of = a; class_count = b; defaults = c; bases = d; check = e; next = f }) (record { class_of = a'; class_count = b'; defaults = c'; bases = d'; check = e'; next = f' })
    same a a' b b' c c' d d' e e' f f' p1 p2 p3 p4 p5 p6 = rw (p1, p2, p3, p4, p5, p6) refl
