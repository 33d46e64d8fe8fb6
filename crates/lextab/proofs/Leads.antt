-- Leads and classes.
use Rattle.std.specs.Prelude.{◌≡◌, ℕ, ◌+◌, ◌<◌, ◌≤◌, List, [], ◌∷◌, ◌++◌, length, slice_index}
use Rattle.std.proofs.Common.{inl, inr, refl, sym, ◌∙◌, ap, arith}
use Rattle.std.proofs.lemmas.List.{get_or_push, get_or_append_left}
use Rattle.lexauto_dfa.specs.Alike.{AreLeads}
use Rattle.lexauto_dfa.proofs.Leads.{same_lead}
use Rattle.lextab.specs.Classes.{IsClassMap}
use Rattle.lextab.specs.Searching.{AreNumbered}
use Rattle.lextab.proofs.Orders.{same_or_not}
use Rattle.lextab.proofs.Counts.{length_append_one}

pub class_map : (n : ℕ) (go : ℕ → ℕ → ℕ) (leads class_of heads : List ℕ) → AreLeads n go leads → AreNumbered leads class_of heads 256
    → IsClassMap n go class_of (length heads)
class_map n go leads class_of heads x y = record {
  bytes = y.len;
  alike = λ b c h g e. y.same b h ∙ ap (λ (l : ℕ). slice_index class_of l) (same_lead n go b c (slice_index leads b) (slice_index leads c) (x b h) (x c g) e) ∙ sym (y.same c g);
  apart = λ b c h g e s t. (
      let l : slice_index leads b ≡ slice_index leads c = sym (y.head b h) ∙ ap (λ (k : ℕ). slice_index heads k) e ∙ y.head c g in
      sym ((x b h).alike s t) ∙ ap (go s) l ∙ (x c g).alike s t);
  order = y.order;
  below = y.below;
  used = λ k h. (let f = y.first k h in (slice_index heads k, f.0, f.1));
}

-- a byte whose lead comes before it
pub joins : (leads cs hs : List ℕ) (i : ℕ) → AreNumbered leads cs hs i → ((b : ℕ) → b < 256 → (slice_index leads b ≤ b) × (slice_index leads (slice_index leads b) ≡ slice_index leads b)) → i < 256
    → slice_index leads i < i → AreNumbered leads (cs ++ slice_index cs (slice_index leads i) ∷ []) hs (i + 1)
joins leads cs hs i x low within less = record {
  len = omega (arith, length_append_one cs (slice_index cs (slice_index leads i)), x.len);
  few = (let f = x.few in omega arith);
  below = λ b h. elim (same_or_not b i) [
    | inl q ↦ (let p = x.below l less in omega (arith, ap at q, new, p))
    | inr d ↦ (let p = x.below b (omega arith) in omega (arith, old b (omega arith), p))
  ];
  head = λ b h. elim (same_or_not b i) [
    | inl q ↦ ap (λ (k : ℕ). slice_index hs k) (ap at q ∙ new) ∙ x.head l less ∙ own ∙ ap (λ (k : ℕ). slice_index leads k) (sym q)
    | inr d ↦ ap (λ (k : ℕ). slice_index hs k) (old b (omega arith)) ∙ x.head b (omega arith)
  ];
  same = λ b h. elim (same_or_not b i) [
    | inl q ↦ ap at q ∙ new ∙ sym (old l less) ∙ ap at (ap (λ (k : ℕ). slice_index leads k) (sym q))
    | inr d ↦ (let lb = (low b (omega arith)).0 in old b (omega arith) ∙ x.same b (omega arith) ∙ sym (old (slice_index leads b) (omega arith)))
  ];
  first = λ k h. (let f = x.first k h in let f0 = f.0 in (omega arith, old (slice_index hs k) f0 ∙ f.1));
  order = λ b k h less2. elim (same_or_not b i) [
    | inl q ↦ (let w = x.order l k less (omega (arith, ap at q, new)) in let w1 = w.1 in (w.0, omega arith, old w.0 (omega arith) ∙ w.2))
    | inr d ↦ (let w = x.order b k (omega arith) (omega (arith, old b (omega arith))) in let w1 = w.1 in (w.0, w1, old w.0 (omega arith) ∙ w.2))
  ];
  all = λ e k h. absurd (let f = x.few in omega (arith, e, f));
}
  where
    l : ℕ
    l = slice_index leads i

    at : ℕ → ℕ
    at j = slice_index (cs ++ slice_index cs (slice_index leads i) ∷ []) j

    new : slice_index (cs ++ slice_index cs (slice_index leads i) ∷ []) i ≡ slice_index cs (slice_index leads i)
    new = get_or_push cs (slice_index cs (slice_index leads i)) 0 i x.len

    old : (j : ℕ) → j < i → slice_index (cs ++ slice_index cs (slice_index leads i) ∷ []) j ≡ slice_index cs j
    old j h = get_or_append_left cs (slice_index cs (slice_index leads i) ∷ []) 0 j (let n = x.len in omega arith)

    own : slice_index leads l ≡ slice_index leads i
    own = (low i within).1

-- a byte that is its own lead
pub begins : (leads cs hs : List ℕ) (i : ℕ) → AreNumbered leads cs hs i → ((b : ℕ) → b < 256 → (slice_index leads b ≤ b) × (slice_index leads (slice_index leads b) ≡ slice_index leads b)) → i < 256
    → slice_index leads i ≡ i → AreNumbered leads (cs ++ length hs ∷ []) (hs ++ i ∷ []) (i + 1)
begins leads cs hs i x low within self = record {
  len = omega (arith, length_append_one cs (length hs), x.len);
  few = (let f = x.few in omega (arith, length_append_one hs i));
  below = λ b h. elim (same_or_not b i) [
    | inl q ↦ omega (arith, ap at q, new, length_append_one hs i)
    | inr d ↦ (let p = x.below b (omega arith) in omega (arith, old b (omega arith), p, length_append_one hs i))
  ];
  head = λ b h. elim (same_or_not b i) [
    | inl q ↦ ap (λ (k : ℕ). slice_index (hs ++ i ∷ []) k) (ap at q ∙ new) ∙ get_or_push hs i 0 (length hs) refl ∙ sym self ∙ ap (λ (k : ℕ). slice_index leads k) (sym q)
    | inr d ↦ (let p = x.below b (omega arith) in ap (λ (k : ℕ). slice_index (hs ++ i ∷ []) k) (old b (omega arith)) ∙ get_or_append_left hs (i ∷ []) 0 (slice_index cs b) p ∙ x.head b (omega arith))
  ];
  same = λ b h. elim (same_or_not b i) [
    | inl q ↦ ap at (q ∙ sym self ∙ ap (λ (k : ℕ). slice_index leads k) (sym q))
    | inr d ↦ (let lb = (low b (omega arith)).0 in old b (omega arith) ∙ x.same b (omega arith) ∙ sym (old (slice_index leads b) (omega arith)))
  ];
  first = λ k h. elim (same_or_not k (length hs)) [
    | inl q ↦ (let e : slice_index (hs ++ i ∷ []) k ≡ i = get_or_push hs i 0 k (sym q) in (omega (arith, e), ap at e ∙ new ∙ sym q))
    | inr d ↦ (let g : k < length hs = omega (arith, length_append_one hs i) in
        let f = x.first k g in let f0 = f.0 in
        let e : slice_index (hs ++ i ∷ []) k ≡ slice_index hs k = get_or_append_left hs (i ∷ []) 0 k g in
        (omega (arith, e), ap at e ∙ old (slice_index hs k) f0 ∙ f.1))
  ];
  order = λ b k h less2. elim (same_or_not b i) [
    | inl q ↦ (let f = x.first k (omega (arith, ap at q, new)) in let f0 = f.0 in (slice_index hs k, omega arith, old (slice_index hs k) f0 ∙ f.1))
    | inr d ↦ (let w = x.order b k (omega arith) (omega (arith, old b (omega arith))) in let w1 = w.1 in (w.0, w1, old w.0 (omega arith) ∙ w.2))
  ];
  all = λ e k h. (let same : length hs ≡ i = omega (arith, e, length_append_one hs i) in elim (same_or_not k i) [
    | inl q ↦ get_or_push hs i 0 k (same ∙ sym q) ∙ sym q
    | inr d ↦ (let g : k < i = omega arith in get_or_append_left hs (i ∷ []) 0 k (omega (arith, same, g)) ∙ x.all same k g)
  ]);
}
  where
    at : ℕ → ℕ
    at j = slice_index (cs ++ length hs ∷ []) j

    new : slice_index (cs ++ length hs ∷ []) i ≡ length hs
    new = get_or_push cs (length hs) 0 i x.len

    old : (j : ℕ) → j < i → slice_index (cs ++ length hs ∷ []) j ≡ slice_index cs j
    old j h = get_or_append_left cs (length hs ∷ []) 0 j (let n = x.len in omega arith)
