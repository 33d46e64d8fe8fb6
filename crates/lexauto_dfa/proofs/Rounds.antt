-- Rounds of cutting.
use Rattle.std.proofs.Common.{◌≡◌, ◌≢◌, ◌↔◌, ℕ, zero, suc, ◌+◌, ◌<◌, ◌≤◌, ◌⊎◌, Bool, true, ◌==◌, List, [], ◌∷◌, ◌++◌, length, length-append, get_or, refl, ap, sym, subst, ◌∙◌, inl, inr, arith}
use Rattle.std.specs.Prelude.{slice_index}
use Rattle.std.proofs.lemmas.List.{get_or_append_left, get_or-append-add, get_or_push}
use Rattle.std.proofs.lemmas.Bool.Decides.{nat_tests}
use Rattle.lexauto_dfa.specs.declared.least.sources.Letter.{Letter}
use Rattle.lexauto_dfa.specs.Futures.{IsClosed, IsCoarsest}
use Rattle.lexauto_dfa.specs.Splits.{Cuts, Using, Refining}
use Rattle.lexauto_dfa.proofs.Refines.{taken, by_letter, used, finished}
use Rattle.lexauto_dfa.specs.Letters.{row_of, machine, AreLetters, IsMembership}
use Rattle.lexauto_dfa.specs.Sources.{Has}

pub row_is : (letters : List Letter) (k : ℕ) (l : Letter) → k < length letters → l ≡ get_or letters k l → row_of letters k ≡ l.row.items
row_is [] k l h e = absurd (omega arith)
row_is (x ∷ letters) zero l h e = ap (λ (u : Letter). u.row.items) (sym e)
row_is (x ∷ letters) (suc k) l h e = row_is letters k l (omega arith) e

row_low : (letters : List Letter) (k x : ℕ) → k < length letters → x < length (row_of letters k) → slice_index (row_of letters k) x < length (row_of letters k)
row_low [] k x h l = absurd (omega arith)
row_low (u ∷ letters) zero x h l = u.row_known x l
row_low (u ∷ letters) (suc k) x h l = row_low letters k x (omega arith) l

pub closed : (letters : List Letter) (labels : List ℕ) → AreLetters letters (length labels) → IsClosed (machine letters labels)
closed letters labels f = λ x a h l. let e = f a l in let r = row_low letters a x l (omega (arith, e, h)) in omega (arith, e, r)

without_last : (xs : List ℕ) (d c : ℕ) → c ≢ d → Has (xs ++ d ∷ []) c → Has xs c
without_last xs d c ne (i, h, e) = elim (before i) [
  | inl g ↦ (i, g, sym (get_or_append_left xs (d ∷ []) 0 i g) ∙ e)
  | inr q ↦ absurd (ne (sym e ∙ ap (λ (j : ℕ). get_or (xs ++ d ∷ []) j 0) (let l = length-append xs (d ∷ []) in let z : i ≡ length xs + 0 = omega (arith, h, l, q) in z) ∙ get_or-append-add xs (d ∷ []) 0 0))
]
  where
    before : (i : ℕ) → (i < length xs) ⊎ (length xs ≤ i)
    before i = grind arith

module _ (letters : List Letter) (labels : List ℕ) (n : ℕ) (len : length labels ≡ n) (fit : AreLetters letters n) where
  fits : AreLetters letters (length labels)
  fits = λ a h. fit a h ∙ sym len

  pub letter_step : (coarse : ℕ → ℕ) (inside : ℕ → Bool) (block new : ℕ → ℕ) (waiting after : ℕ → Type 0) (targets : List ℕ) (k : ℕ)
      → k < length letters → IsMembership inside targets n
      → ((m : ℕ → Bool) → ((x : ℕ) → x < n → (m x ≡ true) ↔ Has targets (slice_index (row_of letters k) x)) → Cuts n block new m waiting after)
      → Using (machine letters labels) block waiting coarse inside k
      → Using (machine letters labels) new after coarse inside (k + 1)
  letter_step coarse inside block new waiting after targets k low tells cuts u =
      let cut = cuts (λ x. inside (slice_index (row_of letters k) x)) (λ x h. tells (slice_index (row_of letters k) x) (let r = closed letters labels fits x k (omega (arith, len, h)) low in omega (arith, r, len))) in
      let done = by_letter (machine letters labels) (closed letters labels fits) block waiting coarse inside k new after u low
      (subst (λ (i : ℕ). Cuts i block new (λ x. inside (slice_index (row_of letters k) x)) waiting after) (sym len) cut) in
      subst (λ (i : ℕ). Using (machine letters labels) new after coarse inside i) (let e : suc k ≡ k + 1 = omega arith in e) done

  same_test : (a b : ℕ) → (a == b) ≡ true → a ≡ b
  same_test a b h = grind (arith, nat_tests)

  test_same : (a b : ℕ) → a ≡ b → (a == b) ≡ true
  test_same a b h = grind (arith, nat_tests)

  -- the last that waits is used
  pub round : (block new : ℕ → ℕ) (waited left after targets : List ℕ) (number : ℕ)
      → waited ≡ left ++ number ∷ [] → ((x : ℕ) → x < n → Has targets x ↔ (block x ≡ number))
      → ((coarse : ℕ → ℕ) (inside : ℕ → Bool) → IsMembership inside targets n → Using (machine letters labels) block (Has left) coarse inside 0 → Using (machine letters labels) new (Has after) coarse inside (length letters))
      → (coarse : ℕ → ℕ) × Refining (machine letters labels) block (Has waited) coarse
      → (coarse : ℕ → ℕ) × Refining (machine letters labels) new (Has after) coarse
  round block new waited left after targets number is of step (coarse, r) =
      let inner = closed letters labels fits in
      let inside = λ (x : ℕ). block x == number in
      let start = taken (machine letters labels) inner block (Has waited) coarse number inside (Has left) r
      (λ x h t. same_test (block x) number t)
      (λ x h e. test_same (block x) number e)
      (λ c ne w. without_last left number c ne (subst (λ (xs : List ℕ). Has xs c) is w)) in
      used (machine letters labels) inner new (Has after) coarse inside
      (step coarse inside (λ x h. (λ t. (of x h).1 (same_test (block x) number t), λ k. test_same (block x) number ((of x h).0 k))) start)

  -- none waits any more
  pub settled : (block : ℕ → ℕ) (waiting : List ℕ) → length waiting ≡ 0
      → (coarse : ℕ → ℕ) × Refining (machine letters labels) block (Has waiting) coarse → IsCoarsest (machine letters labels) block
  settled block waiting none (coarse, r) = finished (machine letters labels) (closed letters labels fits) block (Has waiting) coarse r (λ x h (i, low, e). omega (arith, low, none))

-- what holds of the numbers that wait holds of the last and of those before it
pub last_known : (waited left : List ℕ) (number n : ℕ) → waited ≡ left ++ number ∷ [] → ((i : ℕ) → i < length waited → slice_index waited i < n) → number < n
last_known waited left number n is known =
    let last : slice_index waited (length left) ≡ number = ap (λ (xs : List ℕ). slice_index xs (length left)) is ∙ get_or_push left number 0 (length left) refl in
    let longer : length waited ≡ length left + 1 = ap (λ (xs : List ℕ). length xs) is ∙ length-append left (number ∷ []) in
    let low = known (length left) (omega (arith, longer)) in
    omega (arith, last, low)

pub left_known : (waited left : List ℕ) (number n : ℕ) → waited ≡ left ++ number ∷ [] → ((i : ℕ) → i < length waited → slice_index waited i < n)
    → (i : ℕ) → i < length left → slice_index left i < n
left_known waited left number n is known i h =
    let same : slice_index waited i ≡ slice_index left i = ap (λ (xs : List ℕ). slice_index xs i) is ∙ get_or_append_left left (number ∷ []) 0 i h in
    let longer : length waited ≡ length left + 1 = ap (λ (xs : List ℕ). length xs) is ∙ length-append left (number ∷ []) in
    let low = known i (omega (arith, longer, h)) in
    omega (arith, same, low)
