-- The rule of each position, as far as the rules are gone over.
use Rattle.std.proofs.Common.{◌≡◌, ℕ, suc, ◌+◌, ◌<◌, ◌≤◌, ◌⊎◌, List, [], Some, length, get_or, inl, inr, refl, sym, ap, ◌∙◌, arith}
use Rattle.std.specs.Prelude.{slice_get}
use Rattle.std.proofs.lemmas.Bool.{cases_lt}
use Rattle.std.proofs.lemmas.Option.{slice_get_within, slice_get_read, get_or_from_slice_get}
use Rattle.lex_semantics.specs.Spec.{Rule}
use Rattle.lex_semantics.specs.Subsets.{positions_of_rule, base_of}
use Rattle.lexauto_positions.specs.Owners.{AreOwners}
use Rattle.lexauto_positions.specs.declared.owners.Owner.{Owner}
use Rattle.lexauto_positions.proofs.Bases.{base_next}

pub none_owned : (rules : List Rule) → AreOwners rules []
none_owned rules = record {
  number = λ p o e. absurd cc;
  base = λ p o e. absurd cc;
  low = λ p o e. absurd cc;
  high = λ p o e. absurd cc;
}

module _ (rules : List Rule) (old new : List Owner) (i base : ℕ) (r : Rule) (at : slice_get rules i ≡ Some r) (begins : base ≡ base_of rules 0 i)
    (before : length old ≡ base) (size : length new ≡ base + positions_of_rule r) (o : Owner) (number : o.rule ≡ i) (first : o.base ≡ base)
    (same : (k : ℕ) (d : Owner) → k < length new → k < length old → get_or new k d ≡ get_or old k d)
    (added : (k : ℕ) (d : Owner) → length old ≤ k → k < length new → get_or new k d ≡ o) (are : AreOwners rules old) where
  found : (p : ℕ) (q : Owner) → slice_get new p ≡ Some q → (slice_get old p ≡ Some q) ⊎ ((q ≡ o) × (base ≤ p) × (p < base + positions_of_rule r))
  found p q e =
      let low : p < length new = slice_get_within new p q e in
      let here : get_or new p q ≡ q = get_or_from_slice_get new p q q e in
      elim (cases_lt p (length old)) [
        | inl h ↦ inl (slice_get_read old (length old) p q refl h (sym here ∙ same p q low h))
        | inr h ↦ inr (sym here ∙ added p q h low, omega (arith, h, before), omega (arith, low, size))
      ]

  pub owners_more : AreOwners rules new
  owners_more = record {
    number = λ p q e. elim (found p q e) [
      | inl h ↦ are.number p q h
      | inr h ↦ (let low = slice_get_within rules i r at in let k : q.rule ≡ o.rule = ap (λ (x : Owner). x.rule) h.0 in omega (arith, low, k, number))
    ];
    base = λ p q e. elim (found p q e) [
      | inl h ↦ are.base p q h
      | inr h ↦ ap (λ (x : Owner). x.base) h.0 ∙ first ∙ begins ∙ ap (base_of rules 0) (sym number ∙ sym (ap (λ (x : Owner). x.rule) h.0))
    ];
    low = λ p q e. elim (found p q e) [
      | inl h ↦ are.low p q h
      | inr h ↦ (let k : q.base ≡ o.base = ap (λ (x : Owner). x.base) h.0 in let m = h.1 in omega (arith, k, first, m))
    ];
    high = λ p q e. elim (found p q e) [
      | inl h ↦ are.high p q h
      | inr h ↦ (let k : base_of rules 0 (suc q.rule) ≡ base + positions_of_rule r =
          ap (λ (n : ℕ). base_of rules 0 (suc n)) (ap (λ (x : Owner). x.rule) h.0 ∙ number) ∙ base_next rules 0 i r at ∙ ap (λ (n : ℕ). n + positions_of_rule r) (sym begins) in
          let m = h.2 in omega (arith, k, m))
    ];
  }
