-- The columns of an automaton go as it does.
use Rattle.std.specs.Prelude.{◌≡◌, ℕ, ◌+◌, ◌*◌, ◌<◌, length, nat_lt, slice_index}
use Rattle.std.proofs.Common.{List, sym, ap, subst, ◌∙◌, arith}
use Rattle.std.proofs.lemmas.Bool.{cond-true, lt-ltb}
use Rattle.lexauto_dfa.specs.Alike.{moves}
use Rattle.lexauto_dfa.specs.Invariant.{IsAutomaton}
use Rattle.lexauto_dfa.specs.Parts.{states, next}
use Rattle.lexauto_dfa.specs.declared.dfa.Parts.{Parts}
use Rattle.lextab.specs.Columns.{Packing, IsPacking, GoesAs}
use Rattle.lextab.proofs.Unique.{same_size}
use Rattle.lextab.proofs.Steps.{goes_as}
use Rattle.lextab.proofs.Lifted.{packed_to}
use Rattle.lextab.proofs.Bounds.{ranges_of}

-- a packing goes as what it packs
pub packing_goes : (n : ℕ) (go : ℕ → ℕ → ℕ) (q : Packing) → IsPacking n go q → 0 < n → ((b : ℕ) → b < 256 → go 0 b ≡ 0) → ((s b : ℕ) → s < n → b < 256 → go s b < n) → GoesAs n go q
packing_goes n go q x some dead below = record {
  ranges = ranges_of n go q x some dead below;
  bytes = x.classes.bytes;
  class_of = x.classes.below;
  defaults_len = x.rows.defaults_len;
  bases_len = x.rows.bases_len;
  next_len = same_size n q.class_count q.bases (length q.next) (length q.check) x.rows.next_len x.rows.check_len;
  steps = goes_as n go q x dead;
}

-- what holds of the lists that were read holds of the automaton's
pub of_lists : (P : ℕ → List ℕ → Type 0) (p r : Parts) (n : ℕ) (next : List ℕ) → r ≡ p → n ≡ states r → next ≡ r.next.items → P n next → P (states p) p.next.items
of_lists P p r n next same len is h =
    let a = subst (λ (m : ℕ). P m next) (len ∙ ap (λ (x : Parts). states x) same) h in
    subst (λ (l : List ℕ). P (states p) l) (is ∙ ap (λ (x : Parts). x.next.items) same) a

module _ (p : Parts) (a : IsAutomaton p) where
  moves_are : (s b : ℕ) → s < states p → b < 256 → moves p.next.items s b ≡ next p s b
  moves_are s b h k =
      let e : 256 * s + b ≡ s * 256 + b = omega arith in
      ap (λ (i : ℕ). slice_index p.next.items i) e ∙ sym (cond-true (nat_lt b 256) (slice_index p.next.items (s * 256 + b)) 0 (lt-ltb b 256 k))

  next_low : (s b : ℕ) → s < states p → b < 256 → next p s b < states p
  next_low s b h k = let m = moves_are s b h k in let l = a.next_known (256 * s + b) (let r = a.rows in omega (arith, h, k, r)) in omega (arith, m, l)

  pub dead_row : (b : ℕ) → b < 256 → slice_index p.next.items b ≡ 0
  dead_row b k = let e : 256 * 0 + b ≡ b = omega arith in let some = a.some in
      ap (λ (i : ℕ). slice_index p.next.items i) (sym e) ∙ moves_are 0 b (omega (arith, some)) k ∙ a.dead_stays b

  -- by its lists
  pub goes_by_lists : (q : Packing) → GoesAs (states p) (moves p.next.items) q → GoesAs (states p) (next p) q
  goes_by_lists q g = record {
    ranges = g.ranges;
    bytes = g.bytes;
    class_of = g.class_of;
    defaults_len = g.defaults_len;
    bases_len = g.bases_len;
    next_len = g.next_len;
    steps = λ s b h k. g.steps s b h k ∙ moves_are s b h k;
  }

  pub packed_as : (q : Packing) → IsPacking (states p) (moves p.next.items) q → IsPacking (states p) (next p) q
  packed_as q x = packed_to (states p) (moves p.next.items) (next p) q moves_are x

  pub packed_goes : (q : Packing) → IsPacking (states p) (moves p.next.items) q → GoesAs (states p) (next p) q
  packed_goes q x = packing_goes (states p) (next p) q (packed_as q x) a.some (λ b h. a.dead_stays b) next_low
