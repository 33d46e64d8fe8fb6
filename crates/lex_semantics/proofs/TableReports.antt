-- What a table for a specification tells of rules that are never carried out, and of words after which a scan backs up.
use Rattle.std.proofs.Common.{◌≡◌, ℕ, zero, suc, ◌≤◌, ◌<◌, Bool, true, false, List, [], ◌∷◌, length, ◌⊎◌, inl, inr, ◌↔◌, refl, subst, arith}
use Rattle.std.proofs.lemmas.Bool.{cases_Bool}
use Rattle.lex_semantics.specs.Text.{IsText, Among}
use Rattle.lex_semantics.specs.Spec.{Spec, rejects}
use Rattle.lex_semantics.specs.Reports.{HasFit, Useless, BackWord}
use Rattle.lex_semantics.specs.Machine.{Machine, state_after}
use Rattle.lex_semantics.specs.TableFor.{TableFor, Accepted}
use Rattle.lex_semantics.specs.TableLaws.{IsAccepted}

-- where no rule is accepted, none fits
none_below : (S : Spec) (c : ℕ) (line_start : Bool) (w : List ℕ) → ((i : ℕ) → Accepted S c line_start w i → ⊥) → (n i : ℕ) → i < n → HasFit S c line_start w i → ⊥
none_below S c line_start w none zero i lt h = absurd (omega (arith, lt))
none_below S c line_start w none (suc n) i lt h = none i (h, λ e j less k. none_below S c line_start w none n j (omega (arith, lt, less)) k)

some_or_none : (l : List ℕ) → ((i : ℕ) × Among l i) ⊎ (l ≡ [])
some_or_none [] = inr refl
some_or_none (i ∷ l) = inl (i, inl refl)

-- of two rules one is the first
first_before : (S : Spec) (c : ℕ) (line_start : Bool) (w : List ℕ) (i j : ℕ) → rejects S ≡ false → HasFit S c line_start w i → Accepted S c line_start w j → (j ≡ i → ⊥) → j < i
first_before S c line_start w i j e h first other = from (grind arith)
  where
    from : (j < i) ⊎ (j ≡ i) ⊎ (i < j) → j < i
    from (inl lt) = lt
    from (inr (inl e)) = absurd (other e)
    from (inr (inr lt)) = absurd (first.1 e i lt h)

module _ (M : Machine) (S : Spec) (table : TableFor M S) where
  to : (i : ℕ) → Useless S i → IsAccepted M S i → ⊥
  to i useless (c, line_start, w, cond, text, among) =
      let first = (table.accepts c line_start w i cond text).0 among in
      let (none, j, less, earlier) = useless.1 c line_start w cond text first.0 in
      first.1 none j less earlier

  no_fits : (c : ℕ) (line_start : Bool) (w : List ℕ) → c < length S.conditions → IsText w → M.accepts (state_after M c line_start w) ≡ [] → (i : ℕ) → HasFit S c line_start w i → ⊥
  no_fits c line_start w cond text none i h =
      none_below S c line_start w (λ j a. subst (λ l. Among l j) none ((table.accepts c line_start w j cond text).1 a)) (suc i) i (omega arith) h

  from : (i : ℕ) → (IsAccepted M S i → ⊥) → (c : ℕ) (line_start : Bool) (w : List ℕ) → c < length S.conditions → IsText w → HasFit S c line_start w i
      → (rejects S ≡ false) × (j : ℕ) × (j < i) × HasFit S c line_start w j
  from i never c line_start w cond text h = elim (cases_Bool (rejects S)) [
    | inl all ↦ absurd (never (c, line_start, w, cond, text, (table.accepts c line_start w i cond text).1 (h, λ e. cc)))
    | inr e ↦ (let (j, less, fits) = earlier e (some_or_none (M.accepts (state_after M c line_start w))) in (e, j, less, fits))
  ]
    where
      earlier : rejects S ≡ false → ((j : ℕ) × Among (M.accepts (state_after M c line_start w)) j) ⊎ (M.accepts (state_after M c line_start w) ≡ []) → (j : ℕ) × (j < i) × HasFit S c line_start w j
      earlier e (inr none) = absurd (no_fits c line_start w cond text none i h)
      earlier e (inl (j, among)) =
          let first = (table.accepts c line_start w j cond text).0 among in
          (j, first_before S c line_start w i j e h first (λ same. never (c, line_start, w, cond, text, subst (Among (M.accepts (state_after M c line_start w))) same among)), first.0)

  -- A rule is useless if it is accepted after no word.
  pub useless_is : (i : ℕ) → i < length S.rules → Useless S i ↔ (IsAccepted M S i → ⊥)
  useless_is i lt = (λ h. to i h, λ h. (lt, from i h))

  -- A scan backs up after a word of two bytes or more whose state goes on and accepts nothing.
  pub back_word_is : (c : ℕ) (line_start : Bool) (w : List ℕ) → c < length S.conditions → IsText w →
      BackWord S c line_start w ↔ ((2 ≤ length w) × (M.goes_on (state_after M c line_start w) ≡ true) × (M.accepts (state_after M c line_start w) ≡ []))
  back_word_is c line_start w cond text = (
    λ h. (h.two_or_more, (table.goes_on c line_start w cond text).1 h.goes_on, empty h (some_or_none (M.accepts (state_after M c line_start w)))),
    λ h. record { condition = cond; text = text; two_or_more = h.0; goes_on = (table.goes_on c line_start w cond text).0 h.1; fits_none = no_fits c line_start w cond text h.2 },
  )
    where
      empty : BackWord S c line_start w → ((j : ℕ) × Among (M.accepts (state_after M c line_start w)) j) ⊎ (M.accepts (state_after M c line_start w) ≡ []) → M.accepts (state_after M c line_start w) ≡ []
      empty h (inr e) = e
      empty h (inl (j, among)) = absurd (h.fits_none j ((table.accepts c line_start w j cond text).0 among).0)
