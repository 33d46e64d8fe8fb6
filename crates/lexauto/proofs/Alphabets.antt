-- What positions read, by their letters.
use Rattle.std.proofs.Common.{◌≡◌, ℕ, zero, suc, ◌+◌, ◌-◌, ◌<◌, ◌≤◌, Bool, true, false, ◌&&◌, ◌||◌, List, [], ◌∷◌, length, refl, sym, ap, ◌∙◌, inl, inr, arith}
use Rattle.std.specs.Prelude.{◌==◌, slice_index, slice_index_or}
use Rattle.std.proofs.lemmas.Bool.{eq-eqb, ne_eqb, cases_lt}
use Rattle.std.proofs.lemmas.List.{get_or_past, get_or_default}
use Rattle.lex_semantics.specs.ByteSets.{ByteSet, has, empty_set}
use Rattle.lex_semantics.specs.Text.{flag}
use Rattle.lexauto_positions.specs.Letters.{reads_at}
use Rattle.lexauto.specs.Sets.{marked_by}
use Rattle.lexauto.specs.Moving.{AreChanges, AreChangesBy, AreLetters, place_at}
use Rattle.lexauto.proofs.ChangeLaws.{has_nothing}

and_false : (x : Bool) → (x && false) ≡ false
and_false true = refl
and_false false = refl

and_true : (x : Bool) → (x && true) ≡ x
and_true true = refl
and_true false = refl

or_false : (x : Bool) → (x || false) ≡ x
or_false true = refl
or_false false = refl

reads_before : (letters : List ByteSet) (b q base : ℕ) → q < base → reads_at letters b q base ≡ false
reads_before [] b q base h = refl
reads_before (s ∷ letters) b q base h =
    let here : (q == base) ≡ false = ne_eqb q base (λ e. omega (arith, e, h)) in
    ap (λ x. (has s b && x) || reads_at letters b q (base + 1)) here ∙ ap (λ x. x || reads_at letters b q (base + 1)) (and_false (has s b))
    ∙ reads_before letters b q (base + 1) (omega (arith, h))

reads_from : (letters : List ByteSet) (b k q base : ℕ) → b < 256 → q ≡ base + k → reads_at letters b q base ≡ has (slice_index_or letters k empty_set) b
reads_from [] b k q base low e = sym (has_nothing b low)
reads_from (s ∷ letters) b zero q base low e =
    let here : (q == base) ≡ true = eq-eqb q base (omega (arith, e)) in
    ap (λ x. (has s b && x) || reads_at letters b q (base + 1)) here ∙ ap (λ x. x || reads_at letters b q (base + 1)) (and_true (has s b))
    ∙ ap (λ x. has s b || x) (reads_before letters b q (base + 1) (omega (arith, e))) ∙ or_false (has s b)
reads_from (s ∷ letters) b (suc k) q base low e =
    let here : (q == base) ≡ false = ne_eqb q base (λ is. omega (arith, is, e)) in
    ap (λ x. (has s b && x) || reads_at letters b q (base + 1)) here ∙ ap (λ x. x || reads_at letters b q (base + 1)) (and_false (has s b))
    ∙ reads_from letters b k q (base + 1) low (omega (arith, e))

-- a position reads a byte if it is in its letter
pub reads_is : (letters : List ByteSet) (b q : ℕ) → b < 256 → reads_at letters b q 0 ≡ has (slice_index_or letters q empty_set) b
reads_is letters b q low = reads_from letters b q q 0 low (omega arith)

module _ (all letters : List ByteSet) (places : List ℕ) (are : AreLetters all letters places) where
  -- a place past the end has no letter
  letter_at : (n q : ℕ) → length letters ≤ n → slice_index_or letters (place_at places n q) empty_set ≡ slice_index_or all q empty_set
  letter_at n q past = elim (cases_lt q (length all)) [
    | inl h ↦ ap (λ k. slice_index_or letters k empty_set) (get_or_default places q n 0 (let l = are.len in omega (arith, l, h))) ∙ are.same q h
    | inr h ↦ ap (λ k. slice_index_or letters k empty_set) (get_or_past places q n (let l = are.len in omega (arith, l, h)))
        ∙ get_or_past letters n empty_set past ∙ sym (get_or_past all q empty_set h)
  ]

  -- what is marked of the letters is so of the positions
  pub reads_by_place : (b : ℕ) (mask : List Bool) → b < 256 → ((k : ℕ) → flag mask k ≡ reads_at letters b k 0) → (q : ℕ) → marked_by places mask q ≡ reads_at all b q 0
  reads_by_place b mask low told q = elim (cases_lt q (length all)) [
    | inl h ↦
        (let inside : slice_index_or places q (length mask) ≡ slice_index places q = get_or_default places q (length mask) 0 (let l = are.len in omega (arith, l, h)) in
        ap (flag mask) inside ∙ told (slice_index places q) ∙ reads_is letters b (slice_index places q) low ∙ ap (λ s. has s b) (are.same q h) ∙ sym (reads_is all b q low))
    | inr h ↦
        (let outside : slice_index_or places q (length mask) ≡ length mask = get_or_past places q (length mask) (let l = are.len in omega (arith, l, h)) in
        ap (flag mask) outside ∙ get_or_past mask (length mask) false (omega arith)
        ∙ sym (reads_is all b q low ∙ ap (λ s. has s b) (get_or_past all q empty_set h) ∙ has_nothing b low))
  ]

  pub changes_by_place : (changes : List ByteSet) → length changes ≡ length letters → AreChanges (λ b k. reads_at letters b k 0) changes → AreChangesBy (λ b q. reads_at all b q 0) places changes
  changes_by_place changes size are_changes q b some low not =
      let k = place_at places (length changes) q in
      let is : slice_index_or letters k empty_set ≡ slice_index_or all q empty_set = letter_at (length changes) q (omega (arith, size)) in
      let one : (c : ℕ) → c < 256 → reads_at letters c k 0 ≡ reads_at all c q 0 = λ c byte. reads_is letters c k byte ∙ ap (λ s. has s c) is ∙ sym (reads_is all c q byte) in
      sym (one (b - 1) (omega (arith, low))) ∙ are_changes k b some low not ∙ one b low
