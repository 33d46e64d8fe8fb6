-- What stands against cuts first: at a newline, in a condition, and of a machine.
use Rattle.std.proofs.Common.{◌≡◌, ℕ, zero, suc, ◌≤◌, ◌<◌, ◌⊎◌, Bool, true, false, List, [], ◌∷◌, ◌++◌, length, take, inl, inr, Option, None, Some, refl, sym, ◌∙◌, ap, subst, get_or, arith}
use Rattle.std.specs.Prelude.{cond}
use Rattle.std.proofs.lemmas.Option.{slice_get_within}
use mathlib.Core.Logic.{∥∥₁_elim}
use Rattle.lex_semantics.specs.Text.{IsText, Among, Ascending}
use Rattle.lex_semantics.specs.Machine.{Machine, walk, state_after}
use Rattle.lex_semantics.specs.MachineLaws.{MachineLaws}
use Rattle.lex_semantics.proofs.MachineLaws.{walk-append}
use Rattle.lexauto_reports.specs.BackWords.{Smaller}
use Rattle.lexlook_tables.specs.Lines.{may_keep_last, is_steady, leaves_line, after_line, DiscardsLine, EndsAt, LinesEnd, TakesLine}
use Rattle.lexlook_tables.specs.Reaching.{IsReached}
use Rattle.lexlook_tables.specs.Obstacles.{FirstOf, Along, UnsteadyRule, RuleBeyond, CrossingRule, StrayingRule, HindersAt, HindersIn, Hinders}
use Rattle.lexlook_tables.specs.declared.lines.cutting.Obstacle.{Obstacle}
use Rattle.lexlook_tables.specs.declared.lines.cutting.Obstacle.TheVariants.{Unsteady, Crosses, Strays, Copies, Writes}
use Rattle.lexlook_tables.proofs.Firsts.{AfterTexts, texts}
use Rattle.lexlook_tables.proofs.Fronts.{among_before}
use Rattle.lexlook_tables.proofs.Searches.{among_at}
use Rattle.lexlook_tables.proofs.Orders.{smaller_irreflexive, smaller_rest}

differ : false ≡ true → ⊥
differ e = cc

-- a list of one number is smaller by it
one_less : (i j : ℕ) → Smaller (i ∷ []) (j ∷ []) → i < j
one_less i j (inl less) = less
one_less i j (inr none) = absurd none.1

-- the first rule that is not steady
pub unsteady_some : (M : Machine) (i : ℕ) → i < M.count → is_steady (M.statements i) ≡ false → ((j : ℕ) → j < i → is_steady (M.statements j) ≡ true) → FirstOf (UnsteadyRule M) (Some i)
unsteady_some M i lt not steady = (i ∷ [], (lt, not, refl), λ j l g less. differ (sym g.1 ∙ steady j (one_less j i (subst (λ z. Smaller z (i ∷ [])) g.2 less))))

pub unsteady_none : (M : Machine) → ((j : ℕ) → j < M.count → is_steady (M.statements j) ≡ true) → FirstOf (UnsteadyRule M) None
unsteady_none M steady j l g = differ (sym g.1 ∙ steady j g.0)

pub all_steady : (M : Machine) → FirstOf (UnsteadyRule M) None → (j : ℕ) → j < M.count → is_steady (M.statements j) ≡ true
all_steady M none j lt = by (is_steady (M.statements j)) refl
  where
    by : (b : Bool) → is_steady (M.statements j) ≡ b → is_steady (M.statements j) ≡ true
    by true e = e
    by false e = absurd (none j (j ∷ []) (lt, e, refl))

-- the first rule that a state accepts and that strays
pub straying_some : (M : Machine) (c s i : ℕ) → Ascending (M.accepts s) → (k : ℕ) → k < length (M.accepts s) → get_or (M.accepts s) k 0 ≡ i → may_keep_last (M.cut i) ≡ true → leaves_line c (M.statements i) ≡ false
    → ((j : ℕ) → Among (take k (M.accepts s)) j → may_keep_last (M.cut j) ≡ true → leaves_line c (M.statements j) ≡ true) → FirstOf (StrayingRule M c s) (Some i)
straying_some M c s i asc k lt is keeps not before = (i ∷ [], (subst (Among (M.accepts s)) is (among_at (M.accepts s) k lt), keeps, not, refl), no)
  where
    no : (j : ℕ) (l : List ℕ) → StrayingRule M c s j l → Smaller l (i ∷ []) → ⊥
    no j l g less = differ (sym g.2 ∙ before j (among_before (M.accepts s) k j asc lt g.0 (subst (λ z. j < z) (sym is) (one_less j i (subst (λ z. Smaller z (i ∷ [])) g.3 less)))) g.1)

pub straying_none : (M : Machine) (c s : ℕ) → ((j : ℕ) → Among (M.accepts s) j → may_keep_last (M.cut j) ≡ true → leaves_line c (M.statements j) ≡ true) → FirstOf (StrayingRule M c s) None
straying_none M c s keeps j l g = differ (sym g.2 ∙ keeps j g.0 g.1)

-- what goes on leads to a rule, and the other way round
pub some_beyond : (M : Machine) → MachineLaws M → (s : ℕ) → M.goes_on s ≡ true → FirstOf (RuleBeyond M s) None → ⊥
some_beyond M laws s goes none = ∥∥₁_elim ((laws.goes_on s).0 goes) (λ x y. absurd x) (λ h. none h.3 (length h.0 ∷ h.0 ++ h.3 ∷ []) (h.0, h.1, h.2, h.4, refl))

pub none_beyond : (M : Machine) → MachineLaws M → (s : ℕ) → M.goes_on s ≡ false → FirstOf (RuleBeyond M s) None
none_beyond M laws s ends i k g = differ (sym ends ∙ (laws.goes_on s).1 ∣ (g.0, g.1, g.2, i, g.3) ∣₁)

-- a rule beyond the state after a newline, where not each match is discarded
pub crossing : (M : Machine) (c s : ℕ) → (DiscardsLine M c s → ⊥) → (o : Option ℕ) → FirstOf (RuleBeyond M s) o → FirstOf (CrossingRule M c s) o
crossing M c s not None h = λ i k g. h i k g.1
crossing M c s not (Some i) h = (h.0, (not, h.1), λ j k g less. h.2 j k g.1 less)

pub none_crosses : (M : Machine) → MachineLaws M → (c s : ℕ) → EndsAt M c s → FirstOf (CrossingRule M c s) None
none_crosses M laws c s (inl stops) i k g = none_beyond M laws s stops i k g.1
none_crosses M laws c s (inr discards) i k g = g.0 discards

-- at a newline after the state s
module _ (M : Machine) (c s : ℕ) where
  pub crosses : (i : ℕ) → FirstOf (CrossingRule M c (M.next s 10)) (Some i) → FirstOf (HindersAt M c s) (Some (Crosses c i))
  crosses i h = (0 ∷ h.0, (refl, h.0, h.1, refl), no)
    where
      no : (y : Obstacle) (l : List ℕ) → HindersAt M c s y l → Smaller l (0 ∷ h.0) → ⊥
      no (Crosses d j) l g less = h.2 j g.1 g.2 (smaller_rest 0 0 g.1 h.0 (omega arith) (subst (λ z. Smaller z (0 ∷ h.0)) g.3 less)).1
      no (Strays d j) l g less = (let e = (smaller_rest 1 0 g.1 h.0 (omega arith) (subst (λ z. Smaller z (0 ∷ h.0)) g.3 less)).0 in omega (arith, e))
      no (Unsteady j) l g less = g
      no (Copies d) l g less = g
      no Writes l g less = g

  pub strays : (i : ℕ) → FirstOf (CrossingRule M c (M.next s 10)) None → FirstOf (StrayingRule M c (M.next s 10)) (Some i) → FirstOf (HindersAt M c s) (Some (Strays c i))
  strays i none h = (1 ∷ h.0, (refl, h.0, h.1, refl), no)
    where
      no : (y : Obstacle) (l : List ℕ) → HindersAt M c s y l → Smaller l (1 ∷ h.0) → ⊥
      no (Crosses d j) l g less = none j g.1 g.2
      no (Strays d j) l g less = h.2 j g.1 g.2 (smaller_rest 1 1 g.1 h.0 (omega arith) (subst (λ z. Smaller z (1 ∷ h.0)) g.3 less)).1
      no (Unsteady j) l g less = g
      no (Copies d) l g less = g
      no Writes l g less = g

  pub line_ends : FirstOf (CrossingRule M c (M.next s 10)) None → FirstOf (StrayingRule M c (M.next s 10)) None → FirstOf (HindersAt M c s) None
  line_ends none keeps (Crosses d j) l g = none j g.1 g.2
  line_ends none keeps (Strays d j) l g = keeps j g.1 g.2
  line_ends none keeps (Unsteady j) l g = g
  line_ends none keeps (Copies d) l g = g
  line_ends none keeps Writes l g = g

-- in a condition
module _ (M : Machine) (c : ℕ) where
  abbrev pub from : List ℕ
  from = M.start c false ∷ M.start c true ∷ []

  line_of : (j : ℕ) → j < 2 → (line : Bool) × (j ≡ cond line 1 0)
  line_of zero lt = (false, refl)
  line_of (suc zero) lt = (true, refl)
  line_of (suc (suc j)) lt = absurd (omega (arith, lt))

  start_is : (line : Bool) → get_or from (cond line 1 0) 0 ≡ M.start c line
  start_is false = refl
  start_is true = refl

  to_texts : (line : Bool) (w : List ℕ) → IsText w → (o : Obstacle) (l : List ℕ) → HindersAt M c (state_after M c line w) o l → AfterTexts M from (HindersAt M c) o (length w ∷ cond line 1 0 ∷ w ++ l)
  to_texts false w text o l h = (0, omega arith, w, text, l, h, refl)
  to_texts true w text o l h = (1, omega arith, w, text, l, h, refl)

  hinders_in : (o : Obstacle) (line : Bool) (w : List ℕ) → IsText w → (l : List ℕ) → HindersAt M c (state_after M c line w) o l → HindersIn M c o (0 ∷ length w ∷ cond line 1 0 ∷ w ++ l)
  hinders_in (Crosses d i) line w text l h = (line, w, text, l, h, refl)
  hinders_in (Strays d i) line w text l h = (line, w, text, l, h, refl)
  hinders_in (Unsteady i) line w text l h = absurd h
  hinders_in (Copies d) line w text l h = absurd h
  hinders_in Writes line w text l h = absurd h

  in_parts : (y : Obstacle) (k : List ℕ) → HindersIn M c y k → ((1 ≤ c) × (line : Bool) × (TakesLine M c line → ⊥) × (k ≡ 1 ∷ [])) ⊎ ((l : List ℕ) × AfterTexts M from (HindersAt M c) y l × (k ≡ 0 ∷ l))
  in_parts (Copies d) k g = inl (g.1, g.2, g.3, g.4)
  in_parts (Crosses d i) k g = inr (length g.1 ∷ cond g.0 1 0 ∷ g.1 ++ g.3, to_texts g.0 g.1 g.2 (Crosses d i) g.3 g.4, g.5)
  in_parts (Strays d i) k g = inr (length g.1 ∷ cond g.0 1 0 ∷ g.1 ++ g.3, to_texts g.0 g.1 g.2 (Strays d i) g.3 g.4, g.5)
  in_parts (Unsteady i) k g = absurd g.4
  in_parts Writes k g = absurd g.4

  -- what is found at the states that texts lead to stands after these texts
  pub looked : (n : ℕ) (found : List ℕ) (a b : ℕ) → a ≡ M.start c false → b ≡ M.start c true → IsReached M n (a ∷ b ∷ []) found → (o : Option Obstacle) → FirstOf (Along found (HindersAt M c)) o → FirstOf (AfterTexts M from (HindersAt M c)) o
  looked n found a b is_a is_b r o h = texts M n from found (subst (λ z. IsReached M n (z ∷ M.start c true ∷ []) found) is_a (subst (λ z. IsReached M n (a ∷ z ∷ []) found) is_b r)) (HindersAt M c) o h

  -- each text leads to a state that was found
  pub found_all : (n : ℕ) (found : List ℕ) (a b : ℕ) → a ≡ M.start c false → b ≡ M.start c true → IsReached M n (a ∷ b ∷ []) found → (line : Bool) (w : List ℕ) → IsText w → Among found (state_after M c line w)
  found_all n found a b is_a is_b r line w text = by line
    where
      at : (j : ℕ) → j < 2 → Among found (walk M (get_or (a ∷ b ∷ []) j 0) w)
      at j lt = (let f = r.all j w lt text in subst (Among found) f.3 (among_at found f.0 (let inside = slice_get_within r.keys f.0 f.1 f.2 in omega (arith, inside, r.order.sized))))

      by : (line : Bool) → Among found (state_after M c line w)
      by false = subst (λ s. Among found (walk M s w)) is_a (at 0 (omega arith))
      by true = subst (λ s. Among found (walk M s w)) is_b (at 1 (omega arith))

  pub newline_first : (o : Obstacle) → FirstOf (AfterTexts M from (HindersAt M c)) (Some o) → FirstOf (HindersIn M c) (Some o)
  newline_first o h = (0 ∷ k, hinders_in o line.0 w h.1.3 l holds, no)
    where
      line : (line : Bool) × (h.1.0 ≡ cond line 1 0)
      line = line_of h.1.0 h.1.1

      w : List ℕ
      w = h.1.2

      l : List ℕ
      l = h.1.4

      k : List ℕ
      k = length w ∷ cond line.0 1 0 ∷ w ++ l

      key : h.0 ≡ k
      key = h.1.6 ∙ ap (λ z. length w ∷ z ∷ w ++ l) line.1

      holds : HindersAt M c (state_after M c line.0 w) o l
      holds = subst (λ z. HindersAt M c (walk M z w) o l) (ap (λ j. get_or from j 0) line.1 ∙ start_is line.0) h.1.5

      no : (y : Obstacle) (m : List ℕ) → HindersIn M c y m → Smaller m (0 ∷ k) → ⊥
      no y m g less = elim (in_parts y m g) [
        | inl e ↦ (let at = (smaller_rest 1 0 [] k (omega arith) (subst (λ z. Smaller z (0 ∷ k)) e.3 less)).0 in omega (arith, at))
        | inr e ↦ h.2 y e.0 e.1 (subst (Smaller e.0) (sym key) (smaller_rest 0 0 e.0 k (omega arith) (subst (λ z. Smaller z (0 ∷ k)) e.2 less)).1)
      ]

  module _ (none : FirstOf (AfterTexts M from (HindersAt M c)) None) where
    pub copies_first : 1 ≤ c → (line : Bool) → (TakesLine M c line → ⊥) → FirstOf (HindersIn M c) (Some (Copies c))
    copies_first some line copied = (
      1 ∷ [],
      (refl, some, line, copied, refl),
      λ y m g less. elim (in_parts y m g) [
        | inl e ↦ smaller_irreflexive (1 ∷ []) (subst (λ z. Smaller z (1 ∷ [])) e.3 less)
        | inr e ↦ none y e.0 e.1
      ],
    )

    module _ (takes : (line : Bool) → 1 ≤ c → TakesLine M c line) where
      pub none_in : FirstOf (HindersIn M c) None
      none_in y m g = elim (in_parts y m g) [ inl e ↦ e.2 (takes e.1 e.0) | inr e ↦ none y e.0 e.1 ]

      pub lines_end : ((line : Bool) (w : List ℕ) → IsText w → EndsAt M c (M.next (state_after M c line w) 10)) → LinesEnd M c
      lines_end ends_at = record { stops = λ line w text. subst (EndsAt M c) (sym (newline line w)) (ends_at line w text); ends = ended; takes = takes }
        where
          newline : (line : Bool) (w : List ℕ) → after_line M c line w ≡ M.next (state_after M c line w) 10
          newline line w = walk-append M (M.start c line) w (10 ∷ [])

          ended : (line : Bool) (w : List ℕ) → IsText w → (i : ℕ) → Among (M.accepts (after_line M c line w)) i → may_keep_last (M.cut i) ≡ true → leaves_line c (M.statements i) ≡ true
          ended line w text i at keeps = by (leaves_line c (M.statements i)) refl
            where
              by : (b : Bool) → leaves_line c (M.statements i) ≡ b → leaves_line c (M.statements i) ≡ true
              by true e = e
              by false e = absurd (none (Strays c i) (length w ∷ cond line 1 0 ∷ w ++ 1 ∷ i ∷ []) (to_texts line w text (Strays c i) (1 ∷ i ∷ []) (refl, i ∷ [], (subst (λ z. Among (M.accepts z) i) (newline line w) at, keeps, e, refl), refl)))

-- of a machine
module _ (M : Machine) where
  parts : (y : Obstacle) (k : List ℕ) → Hinders M y k
      → ((i : ℕ) × (l : List ℕ) × UnsteadyRule M i l × (k ≡ 0 ∷ l)) ⊎ (((c : ℕ) × (c < M.conditions) × (l : List ℕ) × HindersIn M c y l × (k ≡ 1 ∷ c ∷ l)) ⊎ (((M.ending 0).print ≡ [] → ⊥) × (k ≡ 2 ∷ [])))
  parts (Unsteady i) k g = inl (i, g.0, g.1, g.2)
  parts (Crosses d i) k g = inr (inl g)
  parts (Strays d i) k g = inr (inl g)
  parts (Copies d) k g = inr (inl g)
  parts Writes k g = inr (inr g)

  pub rule_first : (i : ℕ) → FirstOf (UnsteadyRule M) (Some i) → FirstOf (Hinders M) (Some (Unsteady i))
  rule_first i h = (0 ∷ h.0, (h.0, h.1, refl), no)
    where
      no : (y : Obstacle) (m : List ℕ) → Hinders M y m → Smaller m (0 ∷ h.0) → ⊥
      no (Unsteady j) m g less = h.2 j g.0 g.1 (smaller_rest 0 0 g.0 h.0 (omega arith) (subst (λ z. Smaller z (0 ∷ h.0)) g.2 less)).1
      no (Crosses d j) m g less = (let e = (smaller_rest 1 0 (g.0 ∷ g.2) h.0 (omega arith) (subst (λ z. Smaller z (0 ∷ h.0)) g.4 less)).0 in omega (arith, e))
      no (Strays d j) m g less = (let e = (smaller_rest 1 0 (g.0 ∷ g.2) h.0 (omega arith) (subst (λ z. Smaller z (0 ∷ h.0)) g.4 less)).0 in omega (arith, e))
      no (Copies d) m g less = (let e = (smaller_rest 1 0 (g.0 ∷ g.2) h.0 (omega arith) (subst (λ z. Smaller z (0 ∷ h.0)) g.4 less)).0 in omega (arith, e))
      no Writes m g less = (let e = (smaller_rest 2 0 [] h.0 (omega arith) (subst (λ z. Smaller z (0 ∷ h.0)) g.1 less)).0 in omega (arith, e))

  hinders_of : (o : Obstacle) (c : ℕ) (l : List ℕ) → c < M.conditions → HindersIn M c o l → Hinders M o (1 ∷ c ∷ l)
  hinders_of (Crosses d i) c l lt h = (c, lt, l, h, refl)
  hinders_of (Strays d i) c l lt h = (c, lt, l, h, refl)
  hinders_of (Copies d) c l lt h = (c, lt, l, h, refl)
  hinders_of (Unsteady i) c l lt h = absurd h.4
  hinders_of Writes c l lt h = absurd h.4

  module _ (rules : FirstOf (UnsteadyRule M) None) where
    pub condition_first : (c : ℕ) (o : Obstacle) → c < M.conditions → ((d : ℕ) → d < c → FirstOf (HindersIn M d) None) → FirstOf (HindersIn M c) (Some o) → FirstOf (Hinders M) (Some o)
    condition_first c o below before h = (1 ∷ c ∷ h.0, hinders_of o c h.0 below h.1, no)
      where
        in_order : (y : Obstacle) (d : ℕ) (l : List ℕ) → HindersIn M d y l → Smaller (d ∷ l) (c ∷ h.0) → ⊥
        in_order y d l g (inl less) = before d less y l g
        in_order y d l g (inr here) = h.2 y l (subst (λ z. HindersIn M z y l) here.0 g) here.1

        no : (y : Obstacle) (m : List ℕ) → Hinders M y m → Smaller m (1 ∷ c ∷ h.0) → ⊥
        no y m g less = elim (parts y m g) [
          | inl e ↦ rules e.0 e.1 e.2
          | inr other ↦ elim other [
            | inl e ↦ in_order y e.0 e.2 e.3 (smaller_rest 1 1 (e.0 ∷ e.2) (c ∷ h.0) (omega arith) (subst (λ z. Smaller z (1 ∷ c ∷ h.0)) e.4 less)).1
            | inr e ↦ (let at = (smaller_rest 2 1 [] (c ∷ h.0) (omega arith) (subst (λ z. Smaller z (1 ∷ c ∷ h.0)) e.1 less)).0 in omega (arith, at))
          ]
        ]

    module _ (conditions : (d : ℕ) → d < M.conditions → FirstOf (HindersIn M d) None) where
      pub end_first : ((M.ending 0).print ≡ [] → ⊥) → FirstOf (Hinders M) (Some Writes)
      end_first writes = (
        2 ∷ [],
        (writes, refl),
        λ y m g less. elim (parts y m g) [
          | inl e ↦ rules e.0 e.1 e.2
          | inr other ↦ elim other [ inl e ↦ conditions e.0 e.1 y e.2 e.3 | inr e ↦ smaller_irreflexive (2 ∷ []) (subst (λ z. Smaller z (2 ∷ [])) e.1 less) ]
        ],
      )

      pub nothing : (M.ending 0).print ≡ [] → FirstOf (Hinders M) None
      nothing silent y m g = elim (parts y m g) [
        | inl e ↦ rules e.0 e.1 e.2
        | inr other ↦ elim other [ inl e ↦ conditions e.0 e.1 y e.2 e.3 | inr e ↦ e.0 silent ]
      ]
