-- The first texts that lead over edges.
use Rattle.std.proofs.Common.{◌≡◌, ◌∙◌, ◌⊎◌, ◌≤◌, ◌<◌, ◌+◌, ◌*◌, ℕ, zero, suc, Bool, true, false, List, [], ◌∷◌, ◌++◌, length, get_or, Option, Some, None, inl, inr, refl, sym, ap, subst, arith}
use Rattle.std.specs.Prelude.{min}
use Rattle.std.proofs.lemmas.Bool.{cases_eq, cases_lt, eq-eqb}
use Rattle.lex_semantics.specs.Text.{Among, IsText}
use Rattle.lexauto_dfa.specs.Parts.{after, conditions, next, start}
use Rattle.lexauto_dfa.specs.declared.dfa.Parts.{Parts}
use Rattle.lexauto_reports.specs.BackWords.{NotAfter, Precedes}
use Rattle.lexauto_reports.specs.Counting.{LeadsTo, walk}
use Rattle.lexauto_reports.specs.Searching.{AreFound, at, place_of}
use Rattle.lexauto_reports.proofs.Counted.{from_start}
use Rattle.lexauto_reports.proofs.Orders.{before_last, before_longer, not_after_trans}
use Rattle.lexlook_specs.specs.Placing.{IsLeastOf, least_place}
use Rattle.lexlook_specs.specs.Words.{StartsFirst}
use Rattle.lexlook_specs.specs.declared.words.finding.ShownText.{ShownText}
use Rattle.lexlook_specs.proofs.Places.{least_is, least_nowhere, least_of_two, least_there}
use Rattle.lexlook_suites.specs.Texts.{IsEdge, IsFirstStart, IsTextOver}
use Rattle.lexlook_suites.specs.declared.edges.Edge.{Edge}
use Rattle.lexlook_suites.specs.declared.texts.Start.{Start}
use Rattle.lexlook_suites.proofs.Edged.{leads_later}

clash : (b : Bool) → b ≡ false → b ≡ true → ⊥
clash b f t = absurd cc

-- ---- the first word that leads to a state

-- the first of the three places of a state, by how many bytes were read
abbrev pub place_to : List (Option ℕ) → ℕ → Option ℕ
place_to places s = least_place (least_place (place_of places (3 * s)) (place_of places (3 * s + 1))) (place_of places (3 * s + 2))

IsAPlace : List (Option ℕ) → ℕ → ℕ → Type 0
IsAPlace places s j = ((place_of places (3 * s) ≡ Some j) ⊎ (place_of places (3 * s + 1) ≡ Some j)) ⊎ (place_of places (3 * s + 2) ≡ Some j)

placed : (places : List (Option ℕ)) (s : ℕ) → IsLeastOf (IsAPlace places s) (place_to places s)
unfolding IsAPlace
placed places s =
    least_of_two (λ j. (place_of places (3 * s) ≡ Some j) ⊎ (place_of places (3 * s + 1) ≡ Some j)) (λ j. place_of places (3 * s + 2) ≡ Some j) _ _
    (least_of_two (λ j. place_of places (3 * s) ≡ Some j) (λ j. place_of places (3 * s + 1) ≡ Some j) _ _ (least_is (place_of places (3 * s))) (least_is (place_of places (3 * s + 1))))
    (least_is (place_of places (3 * s + 2)))

at_most_two : (n : ℕ) → ((min n 2 ≡ 0) ⊎ (min n 2 ≡ 1)) ⊎ (min n 2 ≡ 2)
at_most_two zero = inl (inl (omega arith))
at_most_two (suc zero) = inl (inr (omega arith))
at_most_two (suc (suc n)) = inr (omega arith)

module _ (p : Parts) (s : ℕ) where
  LeadsHere : ℕ → Bool → List ℕ → Type 0
  LeadsHere c line w = (c < conditions p) × IsText w × (after p (start p c line) w ≡ s)

  word_leads : (c : ℕ) (line : Bool) (w : List ℕ) → c < conditions p → IsText w → after p (start p c line) w ≡ s → LeadsTo p w (3 * s + min (length w) 2)
  word_leads c line w known text is = (3 * start p c line, (c, line, known, refl), text, from_start p (start p c line) w ∙ ap (λ (x : ℕ). 3 * x + min (length w) 2) is)

  there_at : (w : List ℕ) (x m : ℕ) → m ≤ 2 → x ≡ 3 * s + m → LeadsTo p w x → (c : ℕ) × (line : Bool) × (c < conditions p) × IsText w × (after p (start p c line) w ≡ s)
  there_at w x m most at_x (y, (c, line, known, e), text, is) =
      let there : 3 * after p (start p c line) w + min (length w) 2 ≡ x = sym (from_start p (start p c line) w) ∙ ap (λ (z : ℕ). walk p z w) (sym e) ∙ is in
      (c, line, known, text, omega (arith, there, at_x, most))

-- the word leads to the state from a start, and no other one does before it
pub record FirstWord (p : Parts) (s : ℕ) (w : List ℕ) : Type 0 where
  pub leads : (c : ℕ) × (line : Bool) × (c < conditions p) × IsText w × (after p (start p c line) w ≡ s)
  pub first : (c : ℕ) (line : Bool) (v : List ℕ) → c < conditions p → IsText v → after p (start p c line) v ≡ s → NotAfter w v

module _ (p : Parts) (s : ℕ) (words : List (List ℕ)) (places : List (Option ℕ)) (found : AreFound p words places) where
  -- a word that leads to the state has a place with a word that is not after it
  has_place : (c : ℕ) (line : Bool) (w : List ℕ) → c < conditions p → IsText w → after p (start p c line) w ≡ s → (k : ℕ) × IsAPlace places s k × (k < length words) × NotAfter (at words k) w
  unfolding IsAPlace
  has_place c line w known text is =
      let r = found.least (3 * s + min (length w) 2) w (word_leads p s c line w known text is) in
      let low = (found.known (3 * s + min (length w) 2) r.0 r.1).0 in
      elim (at_most_two (length w)) [
        | inl one ↦ elim one [
          | inl e ↦ (let x : 3 * s + min (length w) 2 ≡ 3 * s = omega (arith, e) in (r.0, inl (inl (subst (λ (n : ℕ). place_of places n ≡ Some r.0) x r.1)), low, r.2))
          | inr e ↦ (r.0, inl (inr (subst (λ (n : ℕ). place_of places (3 * s + n) ≡ Some r.0) e r.1)), low, r.2)
        ]
        | inr e ↦ (r.0, inr (subst (λ (n : ℕ). place_of places (3 * s + n) ≡ Some r.0) e r.1), low, r.2)
      ]

  pub no_word : place_to places s ≡ None → (c : ℕ) (line : Bool) (w : List ℕ) → c < conditions p → IsText w → after p (start p c line) w ≡ s → ⊥
  no_word none c line w known text is =
      let r = has_place c line w known text is in
      least_nowhere (IsAPlace places s) (place_to places s) (placed places s) none r.0 r.1

  place_leads : (j : ℕ) → IsAPlace places s j → (j < length words) × (c : ℕ) × (line : Bool) × (c < conditions p) × IsText (at words j) × (after p (start p c line) (at words j) ≡ s)
  unfolding IsAPlace
  place_leads j h = elim h [
    | inl one ↦ elim one [
      | inl e ↦ (let r = found.known (3 * s) j e in let x : 3 * s ≡ 3 * s + 0 = omega arith in let q = there_at p s (at words j) (3 * s) 0 (omega arith) x r.1 in (r.0, q.0, q.1, q.2, q.3, q.4))
      | inr e ↦ (let r = found.known (3 * s + 1) j e in let q = there_at p s (at words j) (3 * s + 1) 1 (omega arith) refl r.1 in (r.0, q.0, q.1, q.2, q.3, q.4))
    ]
    | inr e ↦ (let r = found.known (3 * s + 2) j e in let q = there_at p s (at words j) (3 * s + 2) 2 (omega arith) refl r.1 in (r.0, q.0, q.1, q.2, q.3, q.4))
  ]

  pub word_low : (j : ℕ) → place_to places s ≡ Some j → j < length words
  word_low j is = (place_leads j (least_there (IsAPlace places s) (place_to places s) j (placed places s) is).0).0

  not_after_least : (j k : ℕ) (w : List ℕ) → j ≤ k → k < length words → NotAfter (at words k) w → NotAfter (at words j) w
  not_after_least j k w le low h = elim (cases_eq j k) [
    | inl same ↦ subst (λ (i : ℕ). NotAfter (at words i) w) (sym same) h
    | inr ne ↦ not_after_trans (at words j) (at words k) w (inr (found.rising j k (omega (arith, le, ne)) low)) h
  ]

  pub first_word : (j : ℕ) → place_to places s ≡ Some j → FirstWord p s (at words j)
  first_word j is =
      let least = least_there (IsAPlace places s) (place_to places s) j (placed places s) is in
      let here = place_leads j least.0 in
      record {
        leads = (here.1, here.2, here.3, here.4, here.5);
        first = λ c line v known text leads. (let r = has_place c line v known text leads in not_after_least j r.0 v (least.1 r.0 r.1) r.2 r.3);
      }

-- ---- the text over an edge

module _ (p : Parts) (e : Edge) where
  pub over_nowhere : ((c : ℕ) (line : Bool) (w : List ℕ) → c < conditions p → IsText w → after p (start p c line) w ≡ e.state → ⊥) → IsTextOver p e.state e.target None
  over_nowhere none = λ c line text h. none c line h.0 h.5 h.3 h.6

  pub over_no_start : (w : List ℕ) (n : ℕ) → n ≡ conditions p → FirstWord p e.state w → IsFirstStart p e.state w n None → IsTextOver p e.state e.target None
  over_no_start w n is word none = let known = word.leads.2 in absurd (none word.leads.0 word.leads.1 (omega (arith, known, is)) word.leads.4)

  not_before : IsEdge p e → (b : ℕ) → next p e.state b ≡ e.target → e.byte ≤ b
  not_before edge b on = elim (cases_lt b e.byte) [
    | inl lt ↦ absurd (clash _ edge.first (leads_later (next p e.state) e.target e.byte b lt (eq-eqb _ _ on)))
    | inr le ↦ le
  ]

  later_text : (w v : List ℕ) (b : ℕ) → e.byte ≤ b → NotAfter w v → Precedes (w ++ e.byte ∷ []) (v ++ b ∷ []) ⊎ ((w ≡ v) × (e.byte ≡ b))
  later_text w v b le (inr h) = inl (before_longer w v e.byte b h)
  later_text w v b le (inl same) = elim (cases_eq e.byte b) [
    | inl eq ↦ inr (same, eq)
    | inr ne ↦ inl (subst (λ (l : List ℕ). Precedes (w ++ e.byte ∷ []) (l ++ b ∷ [])) same (before_last w e.byte b (omega (arith, le, ne))))
  ]

  pub over_first : (w : List ℕ) (n : ℕ) (a : Start) (shown : ShownText) → n ≡ conditions p → IsEdge p e → FirstWord p e.state w → IsFirstStart p e.state w n (Some a)
      → shown.condition ≡ a.condition → shown.line_start ≡ a.line_start → shown.text.items ≡ w ++ e.byte ∷ [] → IsTextOver p e.state e.target (Some shown)
  over_first w n a shown count edge word begins condition line_start text =
      let low = begins.0 in (
        (
          w,
          e.byte,
          text,
          word.leads.3,
          edge.byte,
          (omega (arith, low, count, condition)),
          subst (λ (c : ℕ). after p (start p c shown.line_start) w ≡ e.state) (sym condition) (subst (λ (l : Bool). after p (start p a.condition l) w ≡ e.state) (sym line_start) begins.1),
          edge.leads,
        ),
        λ c line other h. (
            let known = h.5 in
            elim (later_text w h.0 h.1 (not_before edge h.1 h.7) (word.first c line h.0 h.5 h.3 h.6)) [
              | inl before ↦ inl (subst (λ (l : List ℕ). Precedes l other) (sym text) (subst (λ (l : List ℕ). Precedes (w ++ e.byte ∷ []) l) (sym h.2) before))
              | inr same ↦ inr (
                text ∙ ap (λ (l : List ℕ). l ++ e.byte ∷ []) same.0 ∙ ap (λ (b : ℕ). h.0 ++ b ∷ []) same.1 ∙ sym h.2,
                subst (λ (d : ℕ). StartsFirst d shown.line_start c line) (sym condition) (subst (λ (l : Bool). StartsFirst a.condition l c line) (sym line_start)
                    (begins.2 c line (omega (arith, known, count)) (subst (λ (l : List ℕ). after p (start p c line) l ≡ e.state) (sym same.0) h.6))),
              )
            ]),
      )

-- an element that is read is among the list
pub among_at : {A : Type 0} (xs : List A) (i : ℕ) (d : A) → i < length xs → Among xs (get_or xs i d)
among_at [] i d low = absurd (omega (arith, low))
among_at (x ∷ xs) zero d low = inl refl
among_at (x ∷ xs) (suc i) d low = inr (among_at xs i d (omega (arith, low)))
