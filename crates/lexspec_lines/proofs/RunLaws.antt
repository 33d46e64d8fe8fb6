-- Runs of bytes: lines, blanks and words.
use Rattle.std.proofs.Common.{◌≡◌, ℕ, zero, suc, ◌<◌, ◌≤◌, ◌==◌, Bool, true, false, not, if◌then◌else◌, cond, List, [], ◌∷◌, length, get_or, take, drop, refl, sym, ap, subst, ◌∙◌, arith}
use Rattle.std.specs.Prelude.{Option, Some, None, unwrap_or, filter}
use Rattle.std.specs.List.{slice_split, onto_first}
use Rattle.bstr.specs.Find.{IsFirstByte, is_byte}
use Rattle.lex_semantics.specs.Reading.{take_up_to, take_run, is_empty, after_blanks}
use Rattle.lex_semantics.specs.ByteSets.{is_blank}
use Rattle.lexre_bytes.proofs.QuoteLaws.{take_up_to_within}
use Rattle.lexspec_lines.specs.Lines.{line_in, blanks, before_blank, words}
use Rattle.lexspec_lines.specs.Runs.{split_before}

abbrev Split : Type 0
Split = List ℕ × List ℕ

abbrev with_first : ℕ → Split → Split
with_first c s = (c ∷ s.0, s.1)

-- the first i bytes do not pass, and the next one, if there is one, does
pub splits_at : (p : ℕ → Bool) (t : List ℕ) (i : ℕ) → i ≤ length t → ((k : ℕ) → k < i → p (get_or t k 0) ≡ false)
    → (i < length t → p (get_or t i 0) ≡ true) → ◌≡◌ {A = Split} (take_up_to (length t) (λ c. not (p c)) t) (take i t, drop i t)
unfolding take_up_to
splits_at p [] zero within none last = refl
splits_at p [] (suc i) within none last = absurd (omega arith)
splits_at p (c ∷ t) zero within none last = rw (last (omega arith)) refl
splits_at p (c ∷ t) (suc i) within none last =
    let here : p c ≡ false = none 0 (omega arith) in
    let rest = splits_at p t i (omega arith) (λ k h. none (suc k) (omega arith)) (λ h. last (omega arith)) in
    rw (here, rest) refl

-- a line ends before the first newline
abbrev line_of : Split → Split
line_of s = (s.0, drop 1 s.1)

abbrev choose : Bool → Split → Split → Split
choose b x y = if b then x else y

lines_split : (t : List ℕ) → ◌≡◌ {A = Split} (line_in t) (line_of (split_before (λ c. c == 10) t))
unfolding take_up_to
lines_split [] = refl
lines_split (c ∷ t) =
    elim (c == 10) as (λ b. choose b ([], t) (with_first c (line_in t)) ≡ line_of (choose (not b) (with_first c (split_before (λ c. c == 10) t)) ([], c ∷ t))) [
      | true ↦ refl
      | false ↦ ap (with_first c) (lines_split t)
    ]

-- where the first newline was looked for
not_so : (b : Bool) → (b ≡ true → ⊥) → b ≡ false
not_so true h = absurd (h refl)
not_so false h = refl

found_split : (t : List ℕ) (r : Option ℕ) → IsFirstByte (is_byte 10) t r → ◌≡◌ {A = Split} (split_before (λ c. c == 10) t) (take (unwrap_or r (length t)) t, drop (unwrap_or r (length t)) t)
found_split t None h = splits_at (λ c. c == 10) t (length t) (omega arith) (λ k lt. not_so (get_or t k 0 == 10) (h k (omega arith) lt)) (λ lt. absurd (omega arith))
found_split t (Some i) h =
    let below = h.0.high in
    splits_at (λ c. c == 10) t i (omega arith) (λ k lt. not_so (get_or t k 0 == 10) (h.0.before k (omega arith) lt)) (λ lt. h.1)

pub line_found : (t a b : List ℕ) (r : Option ℕ) (i : ℕ) → IsFirstByte (is_byte 10) t r → i ≡ unwrap_or r (length t) → a ≡ take i t → b ≡ drop i t → ◌≡◌ {A = Split} (line_in t) (a, drop 1 b)
line_found t a b r i h is front back =
    lines_split t ∙ ap line_of (found_split t r h) ∙ ap (λ (z : ℕ). (let s : Split = (take z t, drop 1 (drop z t)) in s)) (sym is) ∙ ap (λ z. (let s : Split = (z, drop 1 (drop i t)) in s)) (sym front)
    ∙ ap (λ z. (let s : Split = (a, drop 1 z) in s)) (sym back)

-- tests that answer alike take the same run
same_tests : (n : ℕ) (p q : ℕ → Bool) → ((c : ℕ) → p c ≡ q c) → (t : List ℕ) → ◌≡◌ {A = Split} (take_up_to n p t) (take_up_to n q t)
unfolding take_up_to
same_tests zero p q h t = refl
same_tests (suc n) p q h [] = refl
same_tests (suc n) p q h (c ∷ t) = rw (h c, same_tests n p q h t) refl

not_not : (b : Bool) → b ≡ not (not b)
not_not true = refl
not_not false = refl

-- a run of bytes that pass ends before the first that does not
pub run_split : (test : ℕ → Bool) (t a b : List ℕ) → ◌≡◌ {A = Split} (split_before (λ c. not (test c)) t) (a, b) → ◌≡◌ {A = Split} (take_run test t) (a, b)
run_split test t a b e = same_tests (length t) test (λ c. not (not (test c))) (λ c. not_not (test c)) t ∙ e

-- blanks end before the first byte that is none
pub blanks_split : (t a b : List ℕ) → ◌≡◌ {A = Split} (split_before (λ c. not (is_blank c)) t) (a, b) → ◌≡◌ {A = Split} (blanks t) (a, b)
blanks_split t a b e = run_split is_blank t a b e

-- a word ends before the first blank
pub word_split : (t a b : List ℕ) → ◌≡◌ {A = Split} (split_before is_blank t) (a, b) → ◌≡◌ {A = Split} (before_blank t) (a, b)
word_split t a b e = e

-- Words.

blanks_shorter : (t : List ℕ) → length (after_blanks t) ≤ length t
blanks_shorter t = take_up_to_within (length t) is_blank t

-- what follows blanks begins with none
no_blank_first : (t u : List ℕ) (c : ℕ) → after_blanks t ≡ c ∷ u → is_blank c ≡ false
unfolding take_up_to
no_blank_first [] u c e = absurd (none u c e)
  where
    none : (u : List ℕ) (c : ℕ) → ◌≡◌ {A = List ℕ} [] (c ∷ u) → ⊥
    none u c e = cc
no_blank_first (d ∷ t) u c e = from (is_blank d) refl (λ k. no_blank_first t u c k) e
  where
    first : (x y : ℕ) (xs ys : List ℕ) → x ∷ xs ≡ y ∷ ys → x ≡ y
    first x y xs ys e = cc

    from : (b : Bool) → is_blank d ≡ b → (after_blanks t ≡ c ∷ u → is_blank c ≡ false) → (choose b (with_first d (blanks t)) ([], d ∷ t)).1 ≡ c ∷ u → is_blank c ≡ false
    from true h later k = later k
    from false h later k = ap is_blank (sym (first d c t u k)) ∙ h

word_shorter : (c : ℕ) (u : List ℕ) → is_blank c ≡ false → length (before_blank (c ∷ u)).1 ≤ length u
unfolding take_up_to
word_shorter c u h =
    subst (λ b. length (choose (not b) (with_first c (before_blank u)) ([], c ∷ u)).1 ≤ length u) (sym h) (take_up_to_within (length u) (λ d. not (is_blank d)) u)

-- the words of a text are what stands before its first blank, and the words behind

abbrev IsWords : List ℕ → Type 0
IsWords t = (behind : List (List ℕ)) × (slice_split is_blank t ≡ (before_blank t).0 ∷ behind) × (filter (λ word. not (is_empty word)) behind ≡ words (before_blank t).1)

words_cut : (t : List ℕ) → IsWords t
unfolding take_up_to
words_cut [] = ([], refl, refl)
words_cut (c ∷ t) = from (is_blank c) refl (words_cut t)
  where
    from : (b : Bool) → is_blank c ≡ b → IsWords t → IsWords (c ∷ t)
    from true h later = (
      slice_split is_blank t,
      ap (λ z. cond z ([] ∷ slice_split is_blank t) (onto_first c (slice_split is_blank t))) h
          ∙ ap (λ z. (choose (not z) (with_first c (before_blank t)) ([], c ∷ t)).0 ∷ slice_split is_blank t) (sym h),
      ap (λ z. filter (λ word. not (is_empty word)) (cond z ([] ∷ slice_split is_blank t) (onto_first c (slice_split is_blank t)))) (sym h)
          ∙ ap (λ z. words (choose (not z) (with_first c (before_blank t)) ([], c ∷ t)).1) (sym h),
    )
    from false h (behind, split, same) = (
      behind,
      ap (λ z. cond z ([] ∷ slice_split is_blank t) (onto_first c (slice_split is_blank t))) h ∙ ap (onto_first c) split
          ∙ ap (λ z. (choose (not z) (with_first c (before_blank t)) ([], c ∷ t)).0 ∷ behind) (sym h),
      same ∙ ap (λ z. words (choose (not z) (with_first c (before_blank t)) ([], c ∷ t)).1) (sym h),
    )

-- blanks at the front count for nothing
words_after : (t : List ℕ) → words t ≡ words (after_blanks t)
unfolding take_up_to
words_after [] = refl
words_after (c ∷ t) = from (is_blank c) refl (words_after t)
  where
    from : (b : Bool) → is_blank c ≡ b → words t ≡ words (after_blanks t) → words (c ∷ t) ≡ words (after_blanks (c ∷ t))
    from true h later =
        ap (λ z. filter (λ word. not (is_empty word)) (cond z ([] ∷ slice_split is_blank t) (onto_first c (slice_split is_blank t)))) h ∙ later
        ∙ ap (λ z. words (choose z (with_first c (blanks t)) ([], c ∷ t)).1) (sym h)
    from false h later = ap (λ z. words (choose z (with_first c (blanks t)) ([], c ∷ t)).1) (sym h)

pub no_word : (t after : List ℕ) → after ≡ after_blanks t → length after ≡ 0 → words t ≡ []
no_word t [] e h = words_after t ∙ ap words (sym e)
no_word t (c ∷ u) e h = absurd (omega arith)

first_word : (c : ℕ) (u a b : List ℕ) → is_blank c ≡ false → ◌≡◌ {A = Split} (before_blank (c ∷ u)) (a, b) → words (c ∷ u) ≡ a ∷ words b
unfolding take_up_to
first_word c u a b h k =
    let (behind, split, same) = words_cut u in
    ap (λ z. filter (λ word. not (is_empty word)) (cond z ([] ∷ slice_split is_blank u) (onto_first c (slice_split is_blank u)))) h
    ∙ ap (λ z. filter (λ word. not (is_empty word)) (onto_first c z)) split
    ∙ ap (λ z. (c ∷ (before_blank u).0) ∷ z) same
    ∙ ap (λ z. (choose (not z) (with_first c (before_blank u)) ([], c ∷ u)).0 ∷ words (choose (not z) (with_first c (before_blank u)) ([], c ∷ u)).1) (sym h)
    ∙ ap (λ (s : Split). s.0 ∷ words s.1) k

pub one_word : (t after a b : List ℕ) → after ≡ after_blanks t → (length after ≡ 0 → ⊥) → ◌≡◌ {A = Split} (before_blank after) (a, b) → words t ≡ a ∷ words b
one_word t [] a b e h k = absurd (h refl)
one_word t (c ∷ u) a b e h k = words_after t ∙ ap words (sym e) ∙ first_word c u a b (no_blank_first t u c (sym e)) k

pub word_goes : (t after a b : List ℕ) → after ≡ after_blanks t → (length after ≡ 0 → ⊥) → ◌≡◌ {A = Split} (before_blank after) (a, b) → length b < length t
word_goes t [] a b e h k = absurd (h refl)
word_goes t (c ∷ u) a b e h k =
    let short : length (before_blank (c ∷ u)).1 ≤ length u = word_shorter c u (no_blank_first t u c (sym e)) in
    let same : length (before_blank (c ∷ u)).1 ≡ length b = ap (λ (s : Split). length s.1) k in
    omega (arith, blanks_shorter t, ap length (sym e))
