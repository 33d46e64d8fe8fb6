-- The ends of substitutes.
use Rattle.std.proofs.Common.{◌≡◌, ℕ, zero, suc, ◌-◌, ◌<◌, ◌≤◌, ◌==◌, ◌&&◌, Bool, true, false, not, if◌then◌else◌, List, [], ◌∷◌, length, get_or, take, drop, Option, Some, None, ◌⊎◌, inl, inr, codes, refl, sym, ap, subst, ◌∙◌, arith}
use Rattle.std.specs.Prelude.{nat_eq}
use Rattle.std.proofs.lemmas.Bool.{ne_eqb, eq-eqb, eqb-true, eqb-false, cases_lt}
use Rattle.lex_semantics.specs.Reading.{is_empty, take_run, after_run, take_up_to}
use Rattle.lex_semantics.specs.ByteSets.{is_blank}
use Rattle.std.specs.List.{list_all, ends_with, suffix_len}
use Rattle.lexspec_lines.specs.Lines.{blanks, is_all_blank}
use Rattle.lexspec_lines.specs.DefinitionLines.{trimmed}
use Rattle.lexspec_lines.specs.DefinitionViews.{ends_anchored}
use Rattle.lexspec_lines.specs.Lines.{line_in, after_comment}
use Rattle.std.proofs.lemmas.List.{length-take-le, take_all}
use Rattle.std.proofs.lemmas.List.Sums.{suffix_len_is}
use lib.Pointwise.{pointwise}

abbrev Split : Type 0
Split = List ℕ × List ℕ

abbrev choose : Bool → Split → Split → Split
choose b x y = if b then x else y

blank_step : (c : ℕ) (t : List ℕ) (b : Bool) → is_blank c ≡ b → is_all_blank (c ∷ t) ≡ is_empty (choose b (c ∷ (blanks t).0, (blanks t).1) ([], c ∷ t)).1
unfolding take_up_to
blank_step c t b h = ap (λ z. is_empty (choose z (c ∷ (blanks t).0, (blanks t).1) ([], c ∷ t)).1) h

-- where each byte is blank, all is
pub all_blank : (t : List ℕ) → ((k : ℕ) → k < length t → is_blank (get_or t k 0) ≡ true) → is_all_blank t ≡ true
unfolding take_up_to
all_blank [] h = refl
all_blank (c ∷ t) h = blank_step c t true (h 0 (omega arith)) ∙ all_blank t (λ k i. h (suc k) (omega arith))

-- where some byte is none, not all is
not_blank : (t : List ℕ) (k : ℕ) → k < length t → is_blank (get_or t k 0) ≡ false → is_all_blank t ≡ false
not_blank [] k h e = absurd (omega arith)
not_blank (c ∷ t) zero h e = blank_step c t false e
not_blank (c ∷ t) (suc k) h e = from (is_blank c) refl (not_blank t k (omega arith) e)
  where
    from : (b : Bool) → is_blank c ≡ b → is_all_blank t ≡ false → is_all_blank (c ∷ t) ≡ false
    from true e later = blank_step c t true e ∙ later
    from false e later = blank_step c t false e

-- from the place `stop` on all is blank, and before it stands no blank
pub record IsTrimmedAt (t : List ℕ) (stop : ℕ) : Type 0 where
  pub within : stop ≤ length t
  pub blank : (k : ℕ) → stop ≤ k → k < length t → is_blank (get_or t k 0) ≡ true
  pub sign : (i : ℕ) → stop ≡ suc i → is_blank (get_or t i 0) ≡ false

later : (c : ℕ) (t : List ℕ) (i : ℕ) → 0 < i → IsTrimmedAt (c ∷ t) (suc i) → IsTrimmedAt t i
later c t (suc i) h s = record {
  within = (let w = s.within in omega arith);
  blank = (λ k a b. s.blank (suc k) (omega arith) (omega arith));
  sign = (λ k e. s.sign (suc k) (omega arith));
}
later c t zero h s = absurd (omega arith)

and_true : (b : Bool) → (b && true) ≡ b
and_true true = refl
and_true false = refl

-- a byte in front changes no end
ends_more : (c : ℕ) (xs w : List ℕ) → length w ≤ length xs → ends_with nat_eq (c ∷ xs) w ≡ ends_with nat_eq xs w
ends_more c xs w h = let same : length (c ∷ xs) - length w ≡ suc (length xs - length w) = omega arith in ap (λ n. pointwise nat_eq w (drop n (c ∷ xs))) same

last_sign : (t : List ℕ) (i : ℕ) → i < length t → ends_with nat_eq (take (suc i) t) (92 ∷ []) ≡ nat_eq 92 (get_or t i 0)
last_sign [] i h = absurd (omega arith)
last_sign (c ∷ t) zero h = and_true (nat_eq 92 c)
last_sign (c ∷ t) (suc j) h = ends_more c (take (suc j) t) (92 ∷ []) (omega (arith, length-take-le (suc j) t (omega arith))) ∙ last_sign t j (omega arith)

-- the text without the blanks at its end
kept_text : (t : List ℕ) (stop : ℕ) → IsTrimmedAt t stop → length t - suffix_len is_blank t ≡ stop
kept_text t stop s = let w = s.within in omega (arith, suffix_len_is is_blank t stop 0 s.within s.blank (λ h. s.sign (stop - 1) (omega arith)))

abbrev trim_at : List ℕ → List ℕ → Bool → List ℕ
trim_at t kept ends = if ends then take (suc (length kept)) t else kept

trimmed_at : (t : List ℕ) (stop : ℕ) → IsTrimmedAt t stop → trimmed t ≡ trim_at t (take stop t) (ends_with nat_eq (take stop t) (92 ∷ []))
trimmed_at t stop s = ap (λ n. trim_at t (take n t) (ends_with nat_eq (take n t) (92 ∷ []))) (kept_text t stop s)

-- all up to there is kept, but for a backslash there
pub trim_plain : (t : List ℕ) (stop : ℕ) → IsTrimmedAt t stop → ((i : ℕ) → stop ≡ suc i → stop < length t → get_or t i 0 ≡ 92 → ⊥) → trimmed t ≡ take stop t
trim_plain t zero s off = trimmed_at t zero s
trim_plain t (suc i) s off = trimmed_at t (suc i) s ∙ from (ends_with nat_eq (take (suc i) t) (92 ∷ [])) refl
  where
    within : suc i ≤ length t
    within = s.within

    long : length (take (suc i) t) ≡ suc i
    long = length-take-le (suc i) t within

    from : (b : Bool) → ends_with nat_eq (take (suc i) t) (92 ∷ []) ≡ b → trim_at t (take (suc i) t) b ≡ take (suc i) t
    from false e = refl
    from true e = elim (cases_lt (suc i) (length t)) [
      | inl h ↦ absurd (off i refl h (sym (eqb-true 92 (get_or t i 0) (sym (last_sign t i within) ∙ e))))
      | inr h ↦
          take_all (suc (length (take (suc i) t))) t (omega (arith, long)) ∙ sym (take_all (suc i) t h)
    ]

-- a blank directly after a backslash is kept
pub trim_escaped : (t : List ℕ) (stop i : ℕ) → IsTrimmedAt t stop → stop ≡ suc i → stop < length t → get_or t i 0 ≡ 92 → trimmed t ≡ take (suc stop) t
trim_escaped t stop i s is below on =
    let within : i < length t = omega arith in
    let sign : ends_with nat_eq (take stop t) (92 ∷ []) ≡ true =
    ap (λ n. ends_with nat_eq (take n t) (92 ∷ [])) is ∙ last_sign t i within ∙ eq-eqb 92 (get_or t i 0) (sym on) in
    trimmed_at t stop s ∙ ap (trim_at t (take stop t)) sign ∙ ap (λ n. take (suc n) t) (length-take-le stop t s.within)

-- what stands before a place other than 0
pub before : (P : ℕ → Type 0) (stop : ℕ) → (0 < stop → P (stop - 1)) → (i : ℕ) → stop ≡ suc i → P i
before P stop h i e = let same : stop - 1 ≡ i = omega arith in subst P same (h (omega arith))

-- the last two bytes tell whether a `$` ends the text
pub ends_by_two : (t : List ℕ) (n : ℕ) → length t ≡ suc (suc n) → ends_anchored t ≡ (get_or t (suc n) 0 == 36 && not (get_or t n 0 == 92))
ends_by_two [] n h = absurd (omega arith)
ends_by_two (c ∷ []) n h = absurd (omega arith)
ends_by_two (c ∷ d ∷ []) zero h = refl
ends_by_two (c ∷ d ∷ []) (suc n) h = absurd (omega arith)
ends_by_two (c ∷ d ∷ e ∷ t) zero h = absurd (omega arith)
ends_by_two (c ∷ d ∷ e ∷ t) (suc n) h = ends_by_two (d ∷ e ∷ t) n (omega arith)

pub ends_by_last : (t : List ℕ) → (length t ≡ 0 → ⊥) → (length t ≡ 1 → ⊥) → ends_anchored t ≡ (get_or t (length t - 1) 0 == 36 && not (get_or t (length t - 2) 0 == 92))
ends_by_last t h k =
    let one : suc (length t - 2) ≡ length t - 1 = omega arith in
    ends_by_two t (length t - 2) (omega arith) ∙ ap (λ n. get_or t n 0 == 36 && not (get_or t (length t - 2) 0 == 92)) one

-- nothing is left of a run where all bytes pass
pub run_all : (test : ℕ → Bool) (t : List ℕ) → is_empty (after_run test t) ≡ list_all test t
unfolding take_up_to
run_all test [] = refl
run_all test (c ∷ t) = from (test c) (run_all test t)
  where
    from : (b : Bool) → is_empty (after_run test t) ≡ list_all test t
        → is_empty (choose b (c ∷ (take_run test t).0, (take_run test t).1) ([], c ∷ t)).1 ≡ (b && list_all test t)
    from true h = h
    from false h = refl

-- a byte is the sign, or no test finds it to be
abbrev pub Other : ℕ → ℕ → Type 0
Other d c = (nat_eq d c ≡ false) × ((c == d) ≡ false)

pub decide : (d c : ℕ) → (d ≡ c) ⊎ Other d c
decide d c = from (nat_eq d c) refl
  where
    from : (b : Bool) → nat_eq d c ≡ b → (d ≡ c) ⊎ Other d c
    from true e = inl (eqb-true d c e)
    from false e = inr (e, ne_eqb c d (λ k. eqb-false d c e (sym k)))

abbrev pub Anchored : List ℕ → Bool
Anchored t = ends_with nat_eq t (codes "$") && not (ends_with nat_eq t (codes "\\$"))

-- the last two bytes tell whether a `$` anchors the text
pub anchored_is : (t : List ℕ) → ends_anchored t ≡ Anchored t
anchored_is [] = refl
anchored_is (c ∷ []) = from (decide 36 c)
  where
    from : (36 ≡ c) ⊎ Other 36 c → ends_anchored (c ∷ []) ≡ Anchored (c ∷ [])
    from (inl e) = subst (λ z. ends_anchored (z ∷ []) ≡ Anchored (z ∷ [])) e refl
    from (inr e) = rw (e.0, e.1) refl
anchored_is (c ∷ d ∷ []) = from (decide 36 d) (decide 92 c)
  where
    from : (36 ≡ d) ⊎ Other 36 d → (92 ≡ c) ⊎ Other 92 c → ends_anchored (c ∷ d ∷ []) ≡ Anchored (c ∷ d ∷ [])
    from (inr e) back = rw (e.0, e.1) refl
    from (inl e) (inl k) = subst (λ z. ends_anchored (c ∷ z ∷ []) ≡ Anchored (c ∷ z ∷ [])) e (subst (λ z. ends_anchored (z ∷ 36 ∷ []) ≡ Anchored (z ∷ 36 ∷ [])) k refl)
    from (inl e) (inr k) = subst (λ z. ends_anchored (c ∷ z ∷ []) ≡ Anchored (c ∷ z ∷ [])) e (rw (k.0, k.1) refl)
anchored_is (c ∷ d ∷ e ∷ t) =
    anchored_is (d ∷ e ∷ t) ∙ ap (λ b. b && not (ends_with nat_eq (d ∷ e ∷ t) (codes "\\$"))) (sym (ends_more c (d ∷ e ∷ t) (codes "$") (omega arith)))
    ∙ ap (λ b. ends_with nat_eq (c ∷ d ∷ e ∷ t) (codes "$") && not b) (sym (ends_more c (d ∷ e ∷ t) (codes "\\$") (omega arith)))

-- a comment, byte by byte
abbrev pub comment_rest : List ℕ → Option (List ℕ)
comment_rest [] = None
comment_rest (c ∷ []) = None
comment_rest (c ∷ d ∷ t) = if c == 42 && d == 47 then Some (line_in t).1 else comment_rest (d ∷ t)

pub comment_is : (t : List ℕ) → comment_rest t ≡ after_comment t
comment_is [] = refl
comment_is (c ∷ []) = from (decide 42 c)
  where
    from : (42 ≡ c) ⊎ Other 42 c → comment_rest (c ∷ []) ≡ after_comment (c ∷ [])
    from (inl e) = subst (λ z. comment_rest (z ∷ []) ≡ after_comment (z ∷ [])) e refl
    from (inr e) = rw (e.0) refl
comment_is (c ∷ d ∷ t) = from (comment_is (d ∷ t)) (decide 42 c) (decide 47 d)
  where
    from : comment_rest (d ∷ t) ≡ after_comment (d ∷ t) → (42 ≡ c) ⊎ Other 42 c → (47 ≡ d) ⊎ Other 47 d → comment_rest (c ∷ d ∷ t) ≡ after_comment (c ∷ d ∷ t)
    from later (inr e) other = rw (e.0, e.1) later
    from later (inl e) (inl k) = subst (λ z. comment_rest (z ∷ d ∷ t) ≡ after_comment (z ∷ d ∷ t)) e (subst (λ z. comment_rest (42 ∷ z ∷ t) ≡ after_comment (42 ∷ z ∷ t)) k refl)
    from later (inl e) (inr k) = subst (λ z. comment_rest (z ∷ d ∷ t) ≡ after_comment (z ∷ d ∷ t)) e (rw (k.0, k.1) later)
