-- What of several is found first.
use Rattle.std.proofs.Common.{◌≡◌, ℕ, ◌≤◌, ◌<◌, List, [], ◌∷◌, ◌++◌, length, inl, inr, Option, None, Some, refl, sym, ◌∙◌, ap, subst, get_or, append_assoc, arith}
use Rattle.std.specs.Prelude.{slice_get}
use Rattle.std.proofs.lemmas.Bool.{cases_lt}
use Rattle.std.proofs.lemmas.List.{length_push}
use Rattle.std.proofs.lemmas.Option.{slice_get_within}
use Rattle.lex_semantics.specs.Text.{IsText, Among, Ascending}
use Rattle.lex_semantics.specs.Machine.{Machine, walk}
use Rattle.lex_semantics.proofs.MachineLaws.{walk-append}
use Rattle.lex_semantics.proofs.Texts.{is_text_append}
use Rattle.lexauto_reports.specs.BackWords.{Smaller, Precedes, NotAfter}
use Rattle.lexlook_tables.specs.Searching.{KeyAt}
use Rattle.lexlook_tables.specs.Reaching.{LeadsTo, IsReached}
use Rattle.lexlook_tables.specs.Obstacles.{FirstOf, Along, RuleAfter, RuleBeyond}
use Rattle.lexlook_tables.proofs.Lists.{one_at, some_at}
use Rattle.lexlook_tables.proofs.Orders.{before_irreflexive, before_not_after, smaller_or_same}

module _ {X : Type 0} (P : ℕ → X → List ℕ → Type 0) (states : List ℕ) where
  -- where none stands at a state before it
  pub along_some : (p : ℕ) (x : X) → p < length states → ((q : ℕ) → q < p → FirstOf (P (get_or states q 0)) None) → FirstOf (P (get_or states p 0)) (Some x) → FirstOf (Along states P) (Some x)
  along_some p x lt none h = (p ∷ h.0, (p, lt, h.0, h.1, refl), λ y l f less. no y l f (subst (λ z. Smaller z (p ∷ h.0)) f.4 less))
    where
      no : (y : X) (l : List ℕ) (f : Along states P y l) → Smaller (f.0 ∷ f.2) (p ∷ h.0) → ⊥
      no y l f (inl before) = none f.0 before y f.2 f.3
      no y l f (inr here) = h.2 y f.2 (subst (λ z. P (get_or states z 0) y f.2) here.0 f.3) here.1

  pub along_none : ((q : ℕ) → q < length states → FirstOf (P (get_or states q 0)) None) → FirstOf (Along states P) None
  along_none none x k f = none f.0 f.1 x f.2 f.3

-- what stands where a text leads to from one of these states: shorter texts come first, then the first state, then the first in byte order
abbrev pub AfterTexts : {X : Type 0} → Machine → List ℕ → (ℕ → X → List ℕ → Type 0) → X → List ℕ → Type 0
AfterTexts M from P x k = (j : ℕ) × (j < length from) × (w : List ℕ) × IsText w × (l : List ℕ) × P (walk M (get_or from j 0) w) x l × (k ≡ length w ∷ j ∷ w ++ l)

module _ (M : Machine) (n : ℕ) (from found : List ℕ) (r : IsReached M n from found) where
  inside_of : (i : ℕ) (u : List ℕ) → KeyAt r.keys i u → i < length found
  inside_of i u at = (let lt = slice_get_within r.keys i u at in omega (arith, lt, r.order.sized))

  not_behind : (i j : ℕ) (u v : List ℕ) → KeyAt r.keys i u → KeyAt r.keys j v → NotAfter u v → i ≤ j
  not_behind i j u v at_u at_v nt = elim (cases_lt j i) [
    | inl less ↦ absurd (before_irreflexive u (before_not_after u v u nt (r.order.ascending j i v u at_v at_u less)))
    | inr le ↦ le
  ]

  in_front : (i j : ℕ) (u v : List ℕ) → KeyAt r.keys i u → KeyAt r.keys j v → Precedes u v → i < j
  in_front i j u v at_u at_v less = elim (cases_lt i j) [
    | inl lt ↦ lt
    | inr ge ↦ absurd (let le = not_behind i j u v at_u at_v (inr less) in let e : i ≡ j = omega (arith, ge, le) in
        before_irreflexive v (subst (λ z. Precedes z v) (one_at r.keys j u v (subst (λ z. KeyAt r.keys z u) e at_u) at_v) less))
  ]

  module _ {X : Type 0} (P : ℕ → X → List ℕ → Type 0) where
    -- each text leads to a state that was found
    found_at : (x : X) (k : List ℕ) (g : AfterTexts M from P x k) → (i : ℕ) × (u : List ℕ) × KeyAt r.keys i u × NotAfter u (g.0 ∷ g.2) × Along found P x (i ∷ g.4)
    found_at x k g = (let q = r.all g.0 g.2 g.1 g.3 in (q.0, q.1, q.2, q.4, (q.0, inside_of q.0 q.1 q.2, g.4, subst (λ z. P z x g.4) (sym q.3) g.5, refl)))

    texts_some : (x : X) → FirstOf (Along found P) (Some x) → FirstOf (AfterTexts M from P) (Some x)
    texts_some x h = by its.0 its.1 (r.order.leads p its.0 its.1)
      where
        p : ℕ
        p = h.1.0

        l : List ℕ
        l = h.1.2

        its : (u : List ℕ) × KeyAt r.keys p u
        its = some_at r.keys p (let lt = h.1.1 in omega (arith, lt, r.order.sized))

        first : (y : X) (k : List ℕ) → Along found P y k → Smaller k (p ∷ l) → ⊥
        first y k along less = h.2 y k along (subst (Smaller k) (sym h.1.4) less)

        by : (u : List ℕ) → KeyAt r.keys p u → LeadsTo M from u (get_or found p 0) → FirstOf (AfterTexts M from P) (Some x)
        by [] at to = absurd to
        by (j ∷ w) at to = (length w ∷ j ∷ w ++ l, (j, to.0, w, to.1, l, subst (λ z. P z x l) to.2 h.1.3, refl), λ y k g less. no y k g (subst (λ z. Smaller z (length w ∷ j ∷ w ++ l)) g.6 less))
          where
            no : (y : X) (k : List ℕ) (g : AfterTexts M from P y k) → Smaller (length g.2 ∷ g.0 ∷ g.2 ++ g.4) (length w ∷ j ∷ w ++ l) → ⊥
            no y k g less =
                let q = found_at y k g in
                first y (q.0 ∷ g.4) q.4 (elim (smaller_or_same g.0 j g.2 w g.4 l less) [
                  | inl before ↦ inl (in_front q.0 p q.1 (j ∷ w) q.2 at (before_not_after q.1 (g.0 ∷ g.2) (j ∷ w) q.3 before))
                  | inr same ↦ (let le = not_behind q.0 p q.1 (j ∷ w) q.2 at (subst (NotAfter q.1) same.0 q.3) in elim (cases_lt q.0 p) [ inl lt ↦ inl lt | inr ge ↦ inr (omega (arith, le, ge), same.1) ])
                ])

    pub texts : (o : Option X) → FirstOf (Along found P) o → FirstOf (AfterTexts M from P) o
    texts None h = λ x k g. (let q = found_at x k g in h x (q.0 ∷ g.4) q.4)
    texts (Some x) h = texts_some x h

-- no element is among none
pub none_among : (xs : List ℕ) (x : ℕ) → xs ≡ [] → Among xs x → ⊥
none_among [] x e at = at
none_among (y ∷ xs) x e at = absurd cc

first_among : (xs : List ℕ) (x : ℕ) → slice_get xs 0 ≡ Some x → Among xs x
first_among [] x is = absurd cc
first_among (y ∷ xs) x is = (let same : y ≡ x = cc in inl (sym same))

-- the first of numbers that ascend is the least
least : (xs : List ℕ) (x y : ℕ) → Ascending xs → slice_get xs 0 ≡ Some x → Among xs y → x ≤ y
least [] x y asc is at = absurd at
least (z ∷ xs) x y asc is (inl e) = (let same : z ≡ x = cc in omega (arith, same, e))
least (z ∷ xs) x y asc is (inr at) = (let same : z ≡ x = cc in let more = asc.0 y at in omega (arith, same, more))

pub no_first : (xs : List ℕ) → slice_get xs 0 ≡ None → xs ≡ []
no_first [] is = refl
no_first (x ∷ xs) is = absurd cc

-- the first rule one byte after a state, where no byte before leads to one
pub after_some : (M : Machine) (s b i : ℕ) → Ascending (M.accepts (M.next s b)) → b < 256 → ((c : ℕ) → c < b → M.accepts (M.next s c) ≡ []) → slice_get (M.accepts (M.next s b)) 0 ≡ Some i → FirstOf (RuleAfter M s) (Some i)
after_some M s b i asc small none is = (b ∷ i ∷ [], (b, small, first_among (M.accepts (M.next s b)) i is, refl), λ j l f less. no j l f (subst (λ z. Smaller z (b ∷ i ∷ [])) f.3 less))
  where
    no : (j : ℕ) (l : List ℕ) (f : RuleAfter M s j l) → Smaller (f.0 ∷ j ∷ []) (b ∷ i ∷ []) → ⊥
    no j l f (inl before) = none_among (M.accepts (M.next s f.0)) j (none f.0 before) f.2
    no j l f (inr here) = elim here.1 [
      | inl less ↦ (let le = least (M.accepts (M.next s b)) i j asc is (subst (λ z. Among (M.accepts (M.next s z)) j) here.0 f.2) in omega (arith, le, less))
      | inr none ↦ none.1
    ]

pub after_none : (M : Machine) (s : ℕ) → ((c : ℕ) → c < 256 → M.accepts (M.next s c) ≡ []) → FirstOf (RuleAfter M s) None
after_none M s none i k f = none_among (M.accepts (M.next s f.0)) i (none f.0 f.1) f.2

last_byte : (u : List ℕ) → 1 ≤ length u → (w : List ℕ) × (b : ℕ) × (u ≡ w ++ b ∷ [])
last_byte [] some = absurd (omega (arith, some))
last_byte (b ∷ []) some = ([], b, refl)
last_byte (b ∷ c ∷ u) some = (let h = last_byte (c ∷ u) (omega arith) in (b ∷ h.0, h.1, ap (λ l. b ∷ l) h.2))

text_front : (w : List ℕ) (b : ℕ) → IsText (w ++ b ∷ []) → IsText w × (b < 256)
text_front [] b h = (tt, h.0)
text_front (c ∷ w) b h = (let r = text_front w b h.1 in ((h.0, r.0), r.1))

-- a text with its last byte apart stands in the same order
rekey : (v w : List ℕ) (b d i j : ℕ) → Smaller (length (v ++ b ∷ []) ∷ (v ++ b ∷ []) ++ i ∷ []) (length (w ++ d ∷ []) ∷ (w ++ d ∷ []) ++ j ∷ []) → Smaller (length v ∷ 0 ∷ v ++ b ∷ i ∷ []) (length w ∷ 0 ∷ w ++ d ∷ j ∷ [])
rekey v w b d i j (inl h) = inl (omega (arith, h, length_push v b, length_push w d))
rekey v w b d i j (inr h) = (let e = h.0 in inr (omega (arith, e, length_push v b, length_push w d), inr (refl, subst (λ z. Smaller z (w ++ d ∷ j ∷ [])) (append_assoc v (b ∷ []) (i ∷ [])) (subst (Smaller ((v ++ b ∷ []) ++ i ∷ [])) (append_assoc w (d ∷ []) (j ∷ [])) h.1))))

module _ (M : Machine) (s : ℕ) where
  split : (i : ℕ) (k : List ℕ) (g : RuleBeyond M s i k) → (w : List ℕ) × (b : ℕ) × (g.0 ≡ w ++ b ∷ [])
  split i k g = last_byte g.0 g.2

  after : (i : ℕ) (k : List ℕ) (g : RuleBeyond M s i k) → AfterTexts M (s ∷ []) (RuleAfter M) i (length (split i k g).0 ∷ 0 ∷ (split i k g).0 ++ (split i k g).1 ∷ i ∷ [])
  after i k g =
      let h = split i k g in
      let text = text_front h.0 h.1 (subst IsText h.2 g.1) in
      (0, omega arith, h.0, text.0, h.1 ∷ i ∷ [], (h.1, text.1, subst (λ z. Among (M.accepts z) i) (ap (walk M s) h.2 ∙ walk-append M s h.0 (h.1 ∷ [])) g.3, refl), refl)

  beyond_some : (i : ℕ) → FirstOf (AfterTexts M (s ∷ []) (RuleAfter M)) (Some i) → FirstOf (RuleBeyond M s) (Some i)
  beyond_some i h = (length u ∷ u ++ i ∷ [], (u, is_text_append w (b ∷ []) h.1.3 (h.1.5.1, tt), some, at, refl), first)
    where
      w : List ℕ
      w = h.1.2

      b : ℕ
      b = h.1.5.0

      u : List ℕ
      u = w ++ b ∷ []

      some : 1 ≤ length (w ++ b ∷ [])
      some = omega (arith, length_push w b)

      one_start : h.1.0 ≡ 0
      one_start = (let lt = h.1.1 in omega (arith, lt))

      at : Among (M.accepts (walk M s u)) i
      at = subst (λ z. Among (M.accepts z) i) (sym (walk-append M s w (b ∷ []))) (subst (λ z. Among (M.accepts (M.next (walk M (get_or (s ∷ []) z 0) w) b)) i) one_start h.1.5.2)

      key : h.0 ≡ length w ∷ 0 ∷ w ++ b ∷ i ∷ []
      key = h.1.6 ∙ ap (λ z. length w ∷ z ∷ w ++ h.1.4) one_start ∙ ap (λ z. length w ∷ 0 ∷ w ++ z) h.1.5.3

      first : (j : ℕ) (k : List ℕ) → RuleBeyond M s j k → Smaller k (length u ∷ u ++ i ∷ []) → ⊥
      first j k g less =
          let a = split j k g in
          h.2 j (length a.0 ∷ 0 ∷ a.0 ++ a.1 ∷ j ∷ []) (after j k g) (subst (Smaller (length a.0 ∷ 0 ∷ a.0 ++ a.1 ∷ j ∷ [])) (sym key)
          (rekey a.0 w a.1 b j i (subst (λ z. Smaller z (length u ∷ u ++ i ∷ [])) (g.4 ∙ ap (λ z. length z ∷ z ++ j ∷ []) a.2) less)))

  -- what a search from a state tells of the rules beyond it
  pub beyond : (n : ℕ) (found : List ℕ) → IsReached M n (s ∷ []) found → (o : Option ℕ) → FirstOf (Along found (RuleAfter M)) o → FirstOf (RuleBeyond M s) o
  beyond n found r None h = λ i k g. (let a = split i k g in texts M n (s ∷ []) found r (RuleAfter M) None h i (length a.0 ∷ 0 ∷ a.0 ++ a.1 ∷ i ∷ []) (after i k g))
  beyond n found r (Some i) h = beyond_some i (texts M n (s ∷ []) found r (RuleAfter M) (Some i) h)
