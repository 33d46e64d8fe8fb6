-- Walks over bytes, one more at a time.
use Rattle.std.proofs.Common.{◌≡◌, ℕ, zero, suc, ◌+◌, ◌-◌, ◌≤◌, ◌<◌, true, List, [], ◌∷◌, length, take, get_or, inl, inr, Some, None, ap, subst, ◌∙◌, arith}
use Rattle.std.proofs.Math.Seq.{take-suc}
use Rattle.std.proofs.lemmas.Bool.{cases_lt}
use Rattle.std.specs.Prelude.{slice_get}
use Rattle.lex_semantics.specs.Text.{Among}
use Rattle.lex_semantics.proofs.Once.{some_inj}
use Rattle.lex_semantics.specs.Machine.{Machine, walk}
use Rattle.lex_semantics.proofs.MachineLaws.{walk-append}
use Rattle.lextab_packed.specs.Runs.{IsRun}

pub walk_more : (M : Machine) (first : ℕ) (bytes : List ℕ) (n : ℕ) → n < length bytes → walk M first (take (n + 1) bytes) ≡ M.next (walk M first (take n bytes)) (get_or bytes n 0)
walk_more M first bytes n lt =
    let e : n + 1 ≡ suc n = omega arith in
    ap (walk M first) (ap (λ k. take k bytes) e ∙ take-suc bytes n 0 lt) ∙ walk-append M first (take n bytes) (get_or bytes n 0 ∷ [])

-- The machine goes on after each of the first bytes.
abbrev pub Asked : Machine → ℕ → List ℕ → ℕ → Type 0
Asked M first bytes n = (i : ℕ) → 1 ≤ i → i ≤ n → M.goes_on (walk M first (take i bytes)) ≡ true

pub asked_more : (M : Machine) (first : ℕ) (bytes : List ℕ) (n : ℕ) → Asked M first bytes n → M.goes_on (walk M first (take (n + 1) bytes)) ≡ true → Asked M first bytes (n + 1)
asked_more M first bytes n h last i some le = elim (cases_lt i (n + 1)) [
  | inl lt ↦ h i some (omega (arith, lt))
  | inr not ↦ (let e : n + 1 ≡ i = omega (arith, le, not) in subst (λ k. M.goes_on (walk M first (take k bytes)) ≡ true) e last)
]

-- the state after a run is the one before it
run_walk : (M : Machine) (first : ℕ) (bytes : List ℕ) (n k : ℕ) → n + k ≤ length bytes → ((i : ℕ) → n ≤ i → i < n + k → M.next (walk M first (take n bytes)) (get_or bytes i 0) ≡ walk M first (take n bytes)) →
    walk M first (take (n + k) bytes) ≡ walk M first (take n bytes)
run_walk M first bytes n zero inside stays = let e : n + 0 ≡ n = omega arith in ap (λ j. walk M first (take j bytes)) e
run_walk M first bytes n (suc k) inside stays =
    let e : n + suc k ≡ n + k + 1 = omega arith in
    ap (λ j. walk M first (take j bytes)) e ∙ walk_more M first bytes (n + k) (omega (arith, inside))
    ∙ ap (λ s. M.next s (get_or bytes (n + k) 0)) (run_walk M first bytes n k (omega (arith, inside)) (λ i low less. stays i low (omega (arith, less)))) ∙ stays (n + k) (omega arith) (omega arith)

module _ (M : Machine) (first : ℕ) (bytes : List ℕ) (n m : ℕ) (run : IsRun M (walk M first (take n bytes)) bytes n m) where
  pub run_within : (i : ℕ) → n ≤ i → i ≤ m → walk M first (take i bytes) ≡ walk M first (take n bytes)
  run_within i low high =
      let e : i ≡ n + (i - n) = omega (arith, low) in
      ap (λ j. walk M first (take j bytes)) e ∙ run_walk M first bytes n (i - n) (omega (arith, low, high, run.inside)) (λ j from less. run.stays j from (omega (arith, low, high, less)))

  pub asked_run : Asked M first bytes n → Asked M first bytes m
  asked_run h i some high = elim (cases_lt n i) [
    | inl more ↦ ap M.goes_on (run_within i (omega (arith, more)) high) ∙ run.goes_on (omega (arith, more, high))
    | inr not ↦ h i some (omega (arith, not))
  ]

-- the first element is among all
pub among_first : (l : List ℕ) (x : ℕ) → Some x ≡ slice_get l 0 → Among l x
among_first [] x e = absurd (no e)
  where
    no : Some x ≡ None → ⊥
    no p = cc
among_first (y ∷ l) x e = inl (some_inj x y e)
