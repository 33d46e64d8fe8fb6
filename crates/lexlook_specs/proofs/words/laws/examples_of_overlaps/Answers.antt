use Rattle.std.proofs.Common.{◌≡◌, ◌⊎◌, ◌<◌, ℕ, zero, suc, Bool, true, false, List, get_or, inl, inr, refl, sym, ap, subst, arith}
use Rattle.lexauto_reports.specs.BackWords.{NotAfter, Precedes}
use Rattle.lexlook_specs.specs.Matches.{TakesText}
use Rattle.lexlook_specs.specs.Overlaps.{IsShared}
use Rattle.lexlook_specs.specs.OverlapExamples.{a_text, b_text, four_rules}
use Rattle.lexlook_specs.proofs.words.laws.examples_of_overlaps.Goals as goal

abbrev Fits : ℕ → Bool → List ℕ → ℕ → Type 0
Fits = four_rules.fits

-- which rule fits, by its number
by_zero : (line : Bool) (w : List ℕ) → Fits 0 line w 0 → line ≡ true
by_zero line w (inl t) = t.1
by_zero line w (inr (inl t)) = let e = t.0 in absurd (omega (arith, e))
by_zero line w (inr (inr (inl e, s))) = absurd (omega (arith, e))
by_zero line w (inr (inr (inr e, s))) = absurd (omega (arith, e))

by_one : (line : Bool) (w : List ℕ) → Fits 0 line w 1 → w ≡ a_text
by_one line w (inl t) = let e = t.0 in absurd (omega (arith, e))
by_one line w (inr (inl t)) = t.1
by_one line w (inr (inr (inl e, s))) = absurd (omega (arith, e))
by_one line w (inr (inr (inr e, s))) = absurd (omega (arith, e))

by_two : (c : ℕ) (line : Bool) (w : List ℕ) → Fits c line w 2 → (w ≡ a_text) ⊎ (w ≡ b_text)
by_two c line w (inl t) = let e = t.0 in absurd (omega (arith, e))
by_two c line w (inr (inl t)) = let e = t.0 in absurd (omega (arith, e))
by_two c line w (inr (inr t)) = t.1

a_not_b : b_text ≡ a_text → ⊥
a_not_b e = let h : 98 ≡ 97 = ap (λ (l : List ℕ). get_or l 0 0) e in omega (arith, h)

off : false ≡ true → ⊥
off e = absurd cc

below_one : (j : ℕ) → j < 1 → j ≡ 0
below_one j low = omega (arith, low)

takes_second : TakesText four_rules 0 false a_text 1
takes_second = (inr (inl (refl, refl)), λ j low f. absurd (off (by_zero false a_text (subst (Fits 0 false a_text) (below_one j low) f))))

below_two : (j : ℕ) → j < 2 → (j ≡ 0) ⊎ (j ≡ 1)
below_two zero low = inl refl
below_two (suc zero) low = inr refl
below_two (suc (suc j)) low = absurd (omega (arith, low))

takes_third : (w : List ℕ) → (w ≡ a_text) ⊎ (w ≡ b_text) → TakesText four_rules 0 false w 2
takes_third w s = (
  inr (inr (inl refl, s)),
  λ j low f. elim (below_two j low) [
    | inl e ↦ absurd (off (by_zero false w (subst (Fits 0 false w) e f)))
    | inr e ↦ subst (λ (k : ℕ). four_rules.gives_up k ≡ true) (sym e) refl
  ],
)

a_first : (v : List ℕ) → (v ≡ a_text) ⊎ (v ≡ b_text) → NotAfter a_text v
a_first v (inl e) = inl (sym e)
a_first v (inr e) = inr (subst (λ (w : List ℕ). Precedes a_text w) (sym e) (inr (refl, inl (omega arith))))

a_shared : IsShared four_rules 2 3 a_text
a_shared = (0, false, record { condition = omega arith; text = ((omega arith), tt); some = omega arith }, (takes_third a_text (inl refl), inr (inr (inr refl, inl refl))))

pub returns : goal.returns
returns c = record {
  within = (takes_second, inr (inr (inl refl, inl refl)));
  kept = λ t. (let g : false ≡ true = t.0.1 0 (omega arith) (inl (refl, refl, refl)) in off g);
  given_up = (takes_third a_text (inl refl), inr (inr (inr refl, inl refl)));
  first = record { shared = a_shared; first = λ v shared. a_first v (by_two shared.0 shared.1 v shared.3.0.0) };
  not_first = λ t. elim (t.first a_text a_shared) [
    | inl e ↦ a_not_b e
    | inr (inl lt) ↦ omega (arith, lt)
    | inr (inr (e, inl lt)) ↦ omega (arith, lt)
    | inr (inr (e, inr (same, n))) ↦ n
  ];
  starts = ((((inl (refl, refl, refl)), λ j low f. absurd (omega (arith, low))), inr (inl (refl, refl))), λ t. off (by_zero false a_text t.0.0));
  not_within = λ t. off (by_zero false a_text t.0.0);
  anywhere = (takes_second, inr (inr (inl refl, inl refl)));
  not_start = λ t. t.1 (takes_third b_text (inr refl), inr (inr (inr refl, inr refl)));
  nowhere = λ line t. a_not_b (by_one line b_text t.0.0);
  somewhere = λ none. none false (takes_second, inr (inr (inl refl, inl refl)));
  order = (inl (omega arith), inr (refl, omega arith));
  not_before = λ t. elim t [ inl lt ↦ omega (arith, lt) | inr r ↦ (let e = r.0 in omega (arith, e)) ];
}
