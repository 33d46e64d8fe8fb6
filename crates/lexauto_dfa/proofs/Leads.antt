-- The first bytes that no state tells apart, row by row.
use Rattle.std.specs.Prelude.{◌≡◌, ◌≢◌, ℕ, ◌+◌, ◌-◌, ◌<◌, ◌≤◌, ◌⊎◌, List, slice_index}
use Rattle.std.proofs.Common.{inl, inr, sym, ◌∙◌, ap, arith, take, drop}
use Rattle.std.proofs.lemmas.List.{get_or-take, get_or-drop}
use Rattle.lexauto_dfa.specs.Alike.{Alike, IsLead, AreLeads, IsSplit}

neither_less : (a b : ℕ) → (a < b → ⊥) → (b < a → ⊥) → a ≡ b
neither_less a b f g = omega arith

same_or_not : (a b : ℕ) → (a ≡ b) ⊎ (a ≢ b)
same_or_not a b = grind arith

lead_not_less : (n : ℕ) (go : ℕ → ℕ → ℕ) (b c l m : ℕ) → IsLead n go b l → IsLead n go c m → Alike n go b c → l < m → ⊥
lead_not_less n go b c l m x y e less = y.least l less (λ s h. x.alike s h ∙ e s h)

-- alike bytes have one lead
pub same_lead : (n : ℕ) (go : ℕ → ℕ → ℕ) (b c l m : ℕ) → IsLead n go b l → IsLead n go c m → Alike n go b c → l ≡ m
same_lead n go b c l m x y e = neither_less l m (lead_not_less n go b c l m x y e) (lead_not_less n go c b m l y x (λ s h. sym (e s h)))

pub lead_heads : (n : ℕ) (go : ℕ → ℕ → ℕ) (leads : List ℕ) → AreLeads n go leads
    → (b : ℕ) → b < 256 → (slice_index leads b ≤ b) × (slice_index leads (slice_index leads b) ≡ slice_index leads b)
lead_heads n go leads x b h =
    let y = x b h in
    let low = y.at_most in
    (low, same_lead n go (slice_index leads b) b (slice_index leads (slice_index leads b)) (slice_index leads b) (x (slice_index leads b) (omega arith)) y y.alike)

up_to : (n : ℕ) (go : ℕ → ℕ → ℕ) (b c : ℕ) → Alike n go b c → go n b ≡ go n c → Alike (n + 1) go b c
up_to n go b c e f s h = elim (same_or_not s n) [
  | inl q ↦ ap (λ (t : ℕ). go t b) q ∙ f ∙ ap (λ (t : ℕ). go t c) (sym q)
  | inr d ↦ e s (omega arith)
]

one_more_lead : (n : ℕ) (go : ℕ → ℕ → ℕ) (old row : List ℕ) → AreLeads n go old → ((b : ℕ) → b < 256 → slice_index row b ≡ go n b)
    → (b l : ℕ) → b < 256 → IsSplit old row b l → IsLead (n + 1) go b l
one_more_lead n go old row x is b l h y =
    let le = y.at_most in
    let xl = x l (omega arith) in
    let xb = x b h in
    record {
      at_most = le;
      alike = up_to n go l b
          (λ s g. sym (xl.alike s g) ∙ ap (go s) y.lead ∙ xb.alike s g)
          (sym (is l (omega arith)) ∙ y.target ∙ is b h);
      least = λ c less e. (
          let low : c < 256 = omega arith in
          y.least c less (same_lead n go c b (slice_index old c) (slice_index old b) (x c low) xb (λ s g. e s (omega arith)))
          (is c low ∙ e n (omega arith) ∙ sym (is b h)));
    }

pub more_leads : (n : ℕ) (go : ℕ → ℕ → ℕ) (old row new : List ℕ) → AreLeads n go old → ((b : ℕ) → b < 256 → slice_index row b ≡ go n b)
    → ((b : ℕ) → b < 256 → IsSplit old row b (slice_index new b)) → AreLeads (n + 1) go new
more_leads n go old row new x is y b h = one_more_lead n go old row x is b (slice_index new b) h (y b h)

-- a row that has one target for each byte and its lead splits nothing
pub split_none : (leads row : List ℕ) → ((b : ℕ) → b < 256 → (slice_index leads b ≤ b) × (slice_index leads (slice_index leads b) ≡ slice_index leads b))
    → ((b : ℕ) → b < 256 → slice_index row (slice_index leads b) ≡ slice_index row b)
    → (b : ℕ) → b < 256 → IsSplit leads row b (slice_index leads b)
split_none leads row heads same b h = record {
  at_most = (heads b h).0;
  lead = (heads b h).1;
  target = same b h;
  least = λ c less e f. (let low = (heads b h).0 in let x = (heads c (omega arith)).0 in omega arith);
}

-- bytes that are each their own lead stay so
pub still_alone : (n m : ℕ) (go : ℕ → ℕ → ℕ) (leads : List ℕ) → n ≤ m → AreLeads n go leads → ((b : ℕ) → b < 256 → slice_index leads b ≡ b) → AreLeads m go leads
still_alone n m go leads le x own b h = record {
  at_most = (x b h).at_most;
  alike = λ s g. ap (go s) (own b h);
  least = λ c less e. (x b h).least c less (λ s g. e s (omega (arith, g, le)));
}

-- the byte b of the block at k
pub block_at : (xs : List ℕ) (k b : ℕ) → b < 256 → slice_index (take (k + 256 - k) (drop k xs)) b ≡ slice_index xs (k + b)
block_at xs k b h = let n : b < k + 256 - k = omega arith in get_or-take (k + 256 - k) (drop k xs) b 0 n ∙ get_or-drop k xs b 0
