-- What is told of rules, by the places of the words at which they take texts.
use Rattle.std.proofs.Common.{◌≡◌, ◌↔◌, ◌<◌, ◌≤◌, ℕ, Bool, true, false, List, [], ◌∷◌, length, take, Option, Some, None, inl, inr, refl, sym, ap, subst, ◌∙◌, arith}
use Rattle.std.proofs.lemmas.Bool.{cases_eq, cases_lt}
use Rattle.lex_semantics.specs.Text.{IsText, Among, Ascending, flag}
use Rattle.lexauto_dfa.specs.Parts.{conditions, states, start, accepts, after}
use Rattle.lexauto_dfa.specs.Invariant.{IsAutomaton}
use Rattle.lexauto_dfa.specs.declared.dfa.Parts.{Parts}
use Rattle.lexauto_reports.specs.BackWords.{Precedes, NotAfter}
use Rattle.lexauto_reports.specs.Searching.{at, AreFound}
use Rattle.lexauto_reports.proofs.Orders.{before_trans}
use Rattle.lexlook_specs.specs.Matches.{RuleMatches, IsInput, IsGivenUp, CopiesFirst, TakesOf, matches_in}
use Rattle.lexlook_specs.specs.Matches as M
use Rattle.lexlook_specs.specs.Copied.{CopiesByte, IsFirstCopied}
use Rattle.lexlook_specs.specs.Words.{IsFirst, IsNotLater, StartsFirst, AreTakers, TellsDefault}
use Rattle.lexlook_specs.specs.Placing.{IsFirstStart, MeetsAfter, TakesAt, TakesBelow, takers}
use Rattle.lexlook_specs.specs.declared.words.finding.ShownText.{ShownText}
use Rattle.lexlook_specs.specs.declared.words.starting.Start.{Start}
use Rattle.lexlook_specs.specs.declared.words.starting.Wish.TheVariants.{Takes, Copies}
use Rattle.lexlook_specs.proofs.Led.{Leads, ascending_at, accepted_at, placed_leads, leads_placed}
use Rattle.lexlook_specs.proofs.Takers.{takers_are, takers_among}

flag_true : (b : Bool) → (b ≡ false → ⊥) → b ≡ true
flag_true true h = refl
flag_true false h = absurd (h refl)

flag_not : (b : Bool) → b ≡ true → b ≡ false → ⊥
flag_not b t f = absurd cc

module _ (p : Parts) (a : IsAutomaton p) (rejects : List Bool) where
  -- an automaton's state tells which rules take the text
  pub takes_is : (c : ℕ) (line : Bool) (w : List ℕ) (i : ℕ) → M.TakesText (matches_in p rejects) c line w i ↔ MeetsAfter p rejects w (Takes i) c line
  takes_is c line w i =
      let r = takers_are rejects (accepts p (after p (start p c line) w)) i (ascending_at p a (after p (start p c line) w)) in
      (λ t. r.1 t, λ t. r.0 t)

  pub given_up_is : (c : ℕ) (line : Bool) (w : List ℕ) → IsGivenUp (matches_in p rejects) c line w ↔ MeetsAfter p rejects w Copies c line
  given_up_is c line w = (
    λ g i m f. flag_not (flag rejects i) (g i m) f,
    λ g i m. flag_true (flag rejects i) (λ f. g i m f),
  )

  leads_of : (c : ℕ) (line : Bool) (w : List ℕ) → IsInput (matches_in p rejects) c w → Leads p (after p (start p c line) w) c line w
  leads_of c line w h = record { condition = h.condition; text = h.text; some = h.some; there = refl }

  input_of : (s c : ℕ) (line : Bool) (w : List ℕ) → Leads p s c line w → IsInput (matches_in p rejects) c w
  input_of s c line w l = record { condition = l.condition; text = l.text; some = l.some }

  module _ (words : List (List ℕ)) (places : List (Option ℕ)) (found : AreFound p words places) where
    -- a rule that takes a text does so at the place of a word that is not after it
    pub takes_placed : (c : ℕ) (line : Bool) (w : List ℕ) (i : ℕ) → IsInput (matches_in p rejects) c w → M.TakesText (matches_in p rejects) c line w i
        → (j : ℕ) × TakesAt p rejects places (states p) i j × NotAfter (at words j) w
    takes_placed c line w i h t =
        let s = after p (start p c line) w in
        let r = leads_placed p words places found s c line w (leads_of c line w h) in
        let m = (takes_is c line w i).0 t in
        (r.0, (s, accepted_at p a s i (takers_among rejects (accepts p s) i m), m, r.1), r.2)

    -- the first start from which the word at a place is taken, where the place is the rule's first
    pub first_taken : (i j : ℕ) (x : Start) (q : ShownText) → TakesAt p rejects places (states p) i j → ((k : ℕ) → TakesAt p rejects places (states p) i k → j ≤ k)
        → IsFirstStart p rejects (at words j) (Takes i) (conditions p) (Some x)
        → q.condition ≡ x.condition → q.line_start ≡ x.line_start → q.text.items ≡ at words j
        → IsFirst (matches_in p rejects) (λ c line w. M.TakesText (matches_in p rejects) c line w i) q
    first_taken i j x q (s, low, m, is) least begins same_c same_l same_w =
        let there = placed_leads p words places found s j is in
        let l = there.3 in
        record {
          input = record {
            condition = subst (λ c. c < conditions p) (sym same_c) begins.0;
            text = subst IsText (sym same_w) l.text;
            some = subst (λ (w : List ℕ). 1 ≤ length w) (sym same_w) l.some;
          };
          holds = (takes_is q.condition q.line_start q.text.items i).1 (subst (λ c. MeetsAfter p rejects q.text.items (Takes i) c q.line_start) (sym same_c) (subst (λ b. MeetsAfter p rejects q.text.items (Takes i) x.condition b) (sym same_l) (subst (λ w. MeetsAfter p rejects w (Takes i) x.condition x.line_start) (sym same_w) begins.1)));
          first = λ c line w h t.
              let r = takes_placed c line w i h t in
              let low = least r.0 r.1 in
              elim (cases_lt j r.0) [
                | inl lt ↦ inl (subst (λ v. Precedes v w) (sym same_w) (before_all j r.0 w lt r.1 r.2))
                | inr le ↦ (let e : r.0 ≡ j = omega (arith, low, le) in elim (subst (λ k. NotAfter (at words k) w) e r.2) [
                  | inl same ↦ inr (same_w ∙ same, subst (λ d. StartsFirst d q.line_start c line) (sym same_c) (subst (λ b. StartsFirst x.condition b c line) (sym same_l) (begins.2 c line h.condition (subst (λ v. MeetsAfter p rejects v (Takes i) c line) (sym same) ((takes_is c line w i).0 t)))))
                  | inr b ↦ inl (subst (λ v. Precedes v w) (sym same_w) b)
                ])
              ];
        }
      where
        before_all : (j k : ℕ) (w : List ℕ) → j < k → TakesAt p rejects places (states p) i k → NotAfter (at words k) w → Precedes (at words j) w
        before_all j k w lt (s, low, m, is) after =
            let k_in = (placed_leads p words places found s k is).0 in
            let b = found.rising j k lt k_in in
            elim after [ inl e ↦ subst (Precedes (at words j)) e b | inr c ↦ before_trans (at words j) (at words k) w b c ]

    -- the word at a rule's place is taken from some start
    pub some_start : (i j : ℕ) → TakesAt p rejects places (states p) i j → IsFirstStart p rejects (at words j) (Takes i) (conditions p) None → ⊥
    some_start i j (s, low, m, is) none =
        let there = placed_leads p words places found s j is in
        let l = there.3 in
        none there.1 there.2 l.condition (subst (λ t. Among (takers rejects (accepts p t)) i) (sym l.there) m)

    -- the rules that take the texts of another
    pub takes_of : (i j : ℕ) → TakesBelow p rejects places (states p) i j ↔ TakesOf (matches_in p rejects) i j
    takes_of i j = (to, from)
      where
        to : TakesBelow p rejects places (states p) i j → TakesOf (matches_in p rejects) i j
        to (s, k, low, is, m, t, f) =
            let there = placed_leads p words places found s k is in
            let l = there.3 in (
              there.1,
              there.2,
              at words k,
              input_of s there.1 there.2 (at words k) l,
              subst (λ u. Among (accepts p u) i) (sym l.there) m,
              (takes_is there.1 there.2 (at words k) j).1 (subst (λ u. Among (takers rejects (accepts p u)) j) (sym l.there) t),
              f,
            )

        from : TakesOf (matches_in p rejects) i j → TakesBelow p rejects places (states p) i j
        from (c, line, w, h, m, t, f) =
            let s = after p (start p c line) w in
            let r = leads_placed p words places found s c line w (leads_of c line w h) in
            (s, r.0, accepted_at p a s i m, r.1, m, (takes_is c line w j).0 t, f)

    pub never_taken : (i : ℕ) (js : List ℕ) → ((j : ℕ) → TakesAt p rejects places (states p) i j → ⊥) → Ascending js → ((j : ℕ) → Among js j ↔ TakesBelow p rejects places (states p) i j) → AreTakers (matches_in p rejects) i js
    never_taken i js none up each = record {
      none = λ c line w h t. (let r = takes_placed c line w i h t in none r.0 r.1);
      ascending = up;
      takers = λ j. (λ m. (takes_of i j).0 ((each j).0 m), λ t. (each j).1 ((takes_of i j).1 t));
    }

  -- a text that is copied begins with a byte that is given up
  pub copied_byte : (c : ℕ) (line : Bool) (x : ℕ) (v : List ℕ) → CopiesFirst (matches_in p rejects) c line (x ∷ v) → MeetsAfter p rejects (x ∷ []) Copies c line
  copied_byte c line x v copied = (given_up_is c line (x ∷ [])).0 (subst (IsGivenUp (matches_in p rejects) c line) (let e : take 1 (x ∷ v) ≡ x ∷ [] = refl in e) (copied 1 (omega arith) (omega arith)))

  pub one_byte : (c b : ℕ) (line : Bool) → MeetsAfter p rejects (b ∷ []) Copies c line → CopiesFirst (matches_in p rejects) c line (b ∷ [])
  one_byte c b line m = λ n some few. (let e : n ≡ 1 = omega (arith, some, few) in subst (λ k. IsGivenUp (matches_in p rejects) c line (take k (b ∷ []))) (sym e) ((given_up_is c line (b ∷ [])).1 m))

  pub no_copied : (d : ℕ) → ((b : ℕ) → b < 256 → CopiesByte (matches_in p rejects) d b → ⊥) → TellsDefault (matches_in p rejects) d None
  no_copied d none = λ c line w h copied. no c line w h copied.0 copied.1
    where
      no : (c : ℕ) (line : Bool) (w : List ℕ) → IsInput (matches_in p rejects) c w → c ≡ d → CopiesFirst (matches_in p rejects) c line w → ⊥
      no c line [] h same copied = let s = h.some in omega (arith, s)
      no c line (x ∷ v) h same copied = none x h.text.0 (subst (λ k. CopiesByte (matches_in p rejects) k x) same (line, one_byte c x line (copied_byte c line x v copied)))

  -- the first byte that is copied in a condition, where a match starts not at the start of a line, if it is copied so
  pub first_copied : (d b : ℕ) (q : ShownText) → d < conditions p → IsFirstCopied (matches_in p rejects) d (Some b)
      → (q.line_start ≡ false → MeetsAfter p rejects (b ∷ []) Copies d false)
      → (q.line_start ≡ true → MeetsAfter p rejects (b ∷ []) Copies d false → ⊥)
      → q.condition ≡ d → q.text.items ≡ b ∷ []
      → TellsDefault (matches_in p rejects) d (Some q)
  first_copied d b q known (byte, copies, none) within begins same_c same_w = (
    record {
      input = record {
        condition = subst (λ c. c < conditions p) (sym same_c) known;
        text = subst IsText (sym same_w) (byte, tt);
        some = subst (λ (w : List ℕ). 1 ≤ length w) (sym same_w) (omega arith);
      };
      holds = (same_c, subst (λ w. CopiesFirst (matches_in p rejects) q.condition q.line_start w) (sym same_w) (subst (λ c. CopiesFirst (matches_in p rejects) c q.line_start (b ∷ [])) (sym same_c) (one_byte d b q.line_start (there q.line_start refl copies.0 copies.1))));
      first = λ c line w h copied. not_later c line w h copied.0 copied.1;
    },
    ap length same_w,
  )
    where
      there : (l : Bool) → q.line_start ≡ l → (k : Bool) → CopiesFirst (matches_in p rejects) d k (b ∷ []) → MeetsAfter p rejects (b ∷ []) Copies d l
      there false e k copied = within e
      there true e true copied = copied_byte d true b [] copied
      there true e false copied = absurd (begins e (copied_byte d false b [] copied))

      starts : (l : Bool) → CopiesFirst (matches_in p rejects) d l (b ∷ []) → q.line_start ≡ true → l ≡ true
      starts true copied e = refl
      starts false copied e = absurd (begins e (copied_byte d false b [] copied))

      not_later : (c : ℕ) (line : Bool) (w : List ℕ) → IsInput (matches_in p rejects) c w → c ≡ d → CopiesFirst (matches_in p rejects) c line w → IsNotLater q c line w
      not_later c line [] h is copied = let s = h.some in absurd (omega (arith, s))
      not_later c line (y ∷ z ∷ w) h is copied = let n = ap length same_w in inl (inl (omega (arith, n)))
      not_later c line (y ∷ []) h is copied =
          let here : CopiesFirst (matches_in p rejects) d line (y ∷ []) = subst (λ k. CopiesFirst (matches_in p rejects) k line (y ∷ [])) is copied in
          elim (cases_lt y b) [
            | inl lt ↦ absurd (none y lt (line, here))
            | inr le ↦ elim (cases_eq b y) [
              | inl same ↦ inr (same_w ∙ ap (λ k. k ∷ []) same, inr (same_c ∙ sym is, starts line (subst (λ k. CopiesFirst (matches_in p rejects) d line (k ∷ [])) (sym same) here)))
              | inr other ↦ inl (subst (λ v. Precedes v (y ∷ [])) (sym same_w) (inr (refl, inl (omega (arith, le, other)))))
            ]
          ]
