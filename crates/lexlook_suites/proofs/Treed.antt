-- A search breadth first, step by step.
use Rattle.std.proofs.Common.{◌≡◌, ◌≢◌, ◌∙◌, ◌≤◌, ◌<◌, ◌+◌, ℕ, zero, suc, true, false, List, [], ◌∷◌, ◌++◌, length, get_or, set, replicate, reverse, Option, Some, None, inl, inr, refl, sym, ap, subst, arith}
use Rattle.std.proofs.lemmas.Bool.{cases_eq, cases_lt}
use Rattle.std.specs.Option.{is_some}
use Rattle.std.proofs.lemmas.List.{get_or-set_other, get_or-set_same, get_or_append_left, get_or_push, get_or_read, length-set, length_push, reverse-append}
use Rattle.lex_semantics.specs.Text.{IsText}
use Rattle.lexauto_dfa.specs.Parts.{after, next, states}
use Rattle.lexauto_dfa.specs.declared.dfa.Parts.{Parts}
use Rattle.lexauto_reports.specs.Searching.{place_of, unfound}
use Rattle.lexauto_reports.proofs.Searched.{none_is, one_fewer, some_is}
use Rattle.lexlook_suites.specs.Orders.{byte_at}
use Rattle.lexlook_suites.proofs.Ordered.{rank_of}
use Rattle.lexlook_suites.specs.Trees.{HasPlace, IsPast, IsStep, IsTree, state_at, step_at}
use Rattle.lexlook_suites.specs.declared.trees.Step.{Step}

clash : (o : Option ℕ) (j : ℕ) → o ≡ None → o ≡ Some j → ⊥
clash o j n e = absurd cc

-- what was read is what stands there
pub came : (p : Parts) (steps : List Step) (k b s : ℕ) (t : Step) → k < length steps → t ≡ get_or steps k t → s ≡ next p t.state b → s ≡ next p (state_at steps k) b
came p steps k b s t low read is = is ∙ ap (λ (x : Step). next p x.state b) (get_or_read steps k t low read (record { state = 0; from = 0; byte = 0 }))

pub there : (steps : List Step) (k : ℕ) (t : Step) → k < length steps → t ≡ get_or steps k t → t.state ≡ state_at steps k
there steps k t low read = ap (λ (x : Step). x.state) (get_or_read steps k t low read (record { state = 0; from = 0; byte = 0 }))

pub none_at : (places : List (Option ℕ)) (s : ℕ) (o : Option ℕ) → s < length places → o ≡ get_or places s o → is_some o ≡ false → place_of places s ≡ None
none_at places s o room read none = sym (get_or_read places s o room read None) ∙ none_is o none

pub some_at : (places : List (Option ℕ)) (s : ℕ) (o : Option ℕ) → s < length places → o ≡ get_or places s o → is_some o ≡ true → (j : ℕ) × (place_of places s ≡ Some j)
some_at places s o room read some = let r = some_is o some in (r.0, sym (get_or_read places s o room read None) ∙ r.1)

-- a state that is found leaves fewer
pub fewer_more : (steps more : List Step) (t : Step) (places : List (Option ℕ)) (s n : ℕ) → more ≡ steps ++ t ∷ [] → s < length places → place_of places s ≡ None → length more + unfound (set places s (Some n)) ≡ length steps + unfound places
fewer_more steps more t places s n pushed room none =
    let f = one_fewer places s n room none in
    let l = ap length pushed ∙ length_push steps t in
    omega (arith, f, l)

-- ---- the start

pub none_in : (n x : ℕ) → place_of (replicate n None) x ≡ None
none_in zero x = refl
none_in (suc n) zero = refl
none_in (suc n) (suc x) = none_in n x

module _ (p : Parts) (a : ℕ) where
  none_tree : (places : List (Option ℕ)) → length places ≡ states p → ((x : ℕ) → place_of places x ≡ None) → a ≡ 0 → IsTree p a [] places 0
  none_tree places all none dead = record {
    all = all;
    each = λ j low. absurd (omega (arith, low));
    placed = λ x j is. absurd (clash _ j (none x) is);
    starts = λ live. absurd (live dead);
    past = λ j low. absurd (omega (arith, low));
  }

  pub tree_of_none : (places : List (Option ℕ)) (steps : List Step) → length places ≡ states p → ((x : ℕ) → place_of places x ≡ None) → a ≡ 0 → steps ≡ [] → IsTree p a steps places 0
  tree_of_none places steps all none dead empty = subst (λ (l : List Step). IsTree p a l places 0) (sym empty) (none_tree places all none dead)

  only_step : Step
  only_step = record { state = a; from = 0; byte = 0 }

  pub tree_of_one : (old places : List (Option ℕ)) (before steps : List Step) → before ≡ [] → length old ≡ states p → ((x : ℕ) → place_of old x ≡ None) → a < states p → a ≢ 0 → places ≡ set old a (Some 0) → steps ≡ before ++ record { state = a; from = 0; byte = 0 } ∷ [] → IsTree p a steps places 0
  unfolding only_step
  tree_of_one old places before steps empty all none known live is pushed =
      let one : steps ≡ only_step ∷ [] = pushed ∙ ap (λ (l : List Step). l ++ only_step ∷ []) empty in
      subst (λ (l : List Step). IsTree p a l places 0) (sym one) (subst (λ (l : List (Option ℕ)). IsTree p a (only_step ∷ []) l 0) (sym is) (record {
        all = length-set old a (Some 0) ∙ all;
        each = by_place;
        placed = λ x j at. elim (cases_eq x a) [
          | inl same ↦
              (let e : Some 0 ≡ Some j = sym (get_or-set_same old a (Some 0) None (omega (arith, known, all))) ∙ ap (λ (y : ℕ). place_of (set old a (Some 0)) y) (sym same) ∙ at in
              let zero_is : 0 ≡ j = cc in
              (omega (arith, zero_is), subst (λ (i : ℕ). state_at (only_step ∷ []) i ≡ x) zero_is (sym same)))
          | inr other ↦ absurd (clash _ j (none x) (sym (get_or-set_other old a x (Some 0) None other) ∙ at))
        ];
        starts = λ some. (0, get_or-set_same old a (Some 0) None (omega (arith, known, all)));
        past = λ j low. absurd (omega (arith, low));
      }))
    where
      by_place : (j : ℕ) → j < 1 → IsStep p a (only_step ∷ []) j
      by_place zero low = record {
        known = known;
        live = live;
        first = λ e. refl;
        before = λ some. absurd (omega (arith, some));
        low = omega arith;
        leads = λ some. absurd (omega (arith, some));
      }
      by_place (suc j) low = absurd (omega (arith, low))

-- ---- a step more

module _ (p : Parts) (a : ℕ) (steps : List Step) (places : List (Option ℕ)) (k : ℕ) (tree : IsTree p a steps places k) (place : k < length steps) where
  pub past_dead : (b s : ℕ) → IsPast p steps places k b → s ≡ next p (state_at steps k) (byte_at b) → s ≡ 0 → IsPast p steps places k (b + 1)
  past_dead b s past is dead = λ c low live. elim (cases_eq c b) [
    | inl same ↦ absurd (live (ap (λ (d : ℕ). next p (state_at steps k) (byte_at d)) same ∙ sym is ∙ dead))
    | inr other ↦ past c (omega (arith, low, other)) live
  ]

  pub past_found : (b s j : ℕ) → IsPast p steps places k b → s ≡ next p (state_at steps k) (byte_at b) → place_of places s ≡ Some j → IsPast p steps places k (b + 1)
  past_found b s j past is at = λ c low live. elim (cases_eq c b) [
    | inl same ↦ (j, ap (λ (d : ℕ). place_of places (next p (state_at steps k) (byte_at d))) same ∙ ap (place_of places) (sym is) ∙ at)
    | inr other ↦ past c (omega (arith, low, other)) live
  ]

  module _ (b s : ℕ) (more : List Step) (marked : List (Option ℕ)) (is : s ≡ next p (state_at steps k) (byte_at b)) (small : byte_at b < 256) (known : s < states p) (live : s ≢ 0) (none : place_of places s ≡ None)
      (marks : marked ≡ set places s (Some (length steps))) (pushed : more ≡ steps ++ record { state = s; from = k; byte = byte_at b } ∷ []) where
    new_step : Step
    new_step = record { state = s; from = k; byte = byte_at b }

    room : s < length places
    room = let all = tree.all in omega (arith, known, all)

    here : place_of marked s ≡ Some (length steps)
    here = ap (λ (l : List (Option ℕ)). place_of l s) marks ∙ get_or-set_same places s (Some (length steps)) None room

    still_at : (x j : ℕ) → place_of places x ≡ Some j → place_of marked x ≡ Some j
    still_at x j at = elim (cases_eq x s) [
      | inl same ↦ absurd (clash _ j (ap (place_of places) same ∙ none) at)
      | inr other ↦ ap (λ (l : List (Option ℕ)). place_of l x) marks ∙ get_or-set_other places s x (Some (length steps)) None other ∙ at
    ]

    still : (x : ℕ) → HasPlace places x → HasPlace marked x
    still x h = (h.0, still_at x h.0 h.1)

    old_step : (j : ℕ) → j < length steps → step_at more j ≡ step_at steps j
    unfolding new_step
    old_step j low = ap (λ (l : List Step). step_at l j) pushed ∙ get_or_append_left steps (new_step ∷ []) _ j low

    last_step : step_at more (length steps) ≡ record { state = s; from = k; byte = byte_at b }
    unfolding new_step
    last_step = ap (λ (l : List Step). step_at l (length steps)) pushed ∙ get_or_push steps new_step _ (length steps) refl

    longer : length more ≡ length steps + 1
    unfolding new_step
    longer = ap length pushed ∙ length_push steps new_step

    kept_step : (j : ℕ) → j < length steps → IsStep p a more j
    kept_step j low =
        let h = tree.each j low in
        let e = old_step j low in
        record {
          known = subst (λ (t : Step). t.state < states p) (sym e) h.known;
          live = subst (λ (t : Step). t.state ≢ 0) (sym e) h.live;
          first = λ zero_is. ap (λ (t : Step). t.state) e ∙ h.first zero_is;
          before = λ some. subst (λ (t : Step). t.from < j) (sym e) (h.before some);
          low = subst (λ (t : Step). t.byte < 256) (sym e) h.low;
          leads = λ some. (
              let before = h.before some in
              subst (λ (t : Step). next p (state_at more t.from) t.byte ≡ t.state) (sym e)
              (subst (λ (t : Step). next p t.state (step_at steps j).byte ≡ state_at steps j) (sym (old_step (step_at steps j).from (omega (arith, before, low)))) (h.leads some)));
        }

    added_step : (j : ℕ) → j ≡ length steps → IsStep p a more j
    added_step j at =
        let e : step_at more j ≡ record { state = s; from = k; byte = byte_at b } = ap (step_at more) at ∙ last_step in
        record {
          known = subst (λ (t : Step). t.state < states p) (sym e) known;
          live = subst (λ (t : Step). t.state ≢ 0) (sym e) live;
          first = λ zero_is. absurd (omega (arith, zero_is, at, place));
          before = λ some. subst (λ (t : Step). t.from < j) (sym e) (omega (arith, at, place));
          low = subst (λ (t : Step). t.byte < 256) (sym e) small;
          leads = λ some.
              subst (λ (t : Step). next p (state_at more t.from) t.byte ≡ t.state) (sym e)
              (subst (λ (t : Step). next p t.state (byte_at b) ≡ s) (sym (old_step k place)) (sym is));
        }

    pub tree_more : IsTree p a more marked k
    tree_more = record {
      all = ap length marks ∙ length-set places s (Some (length steps)) ∙ tree.all;
      each = λ j low. elim (cases_lt j (length steps)) [
        | inl old ↦ kept_step j old
        | inr new ↦ added_step j (omega (arith, low, new, longer))
      ];
      placed = λ x j at. elim (cases_eq x s) [
        | inl same ↦
            (let e : Some (length steps) ≡ Some j = sym here ∙ ap (place_of marked) (sym same) ∙ at in
            let j_is : length steps ≡ j = cc in
            (omega (arith, j_is, longer), subst (λ (i : ℕ). state_at more i ≡ x) j_is (ap (λ (t : Step). t.state) last_step ∙ sym same)))
        | inr other ↦
            (let old = tree.placed x j (sym (get_or-set_other places s x (Some (length steps)) None other) ∙ ap (λ (l : List (Option ℕ)). place_of l x) (sym marks) ∙ at) in
            let low = old.0 in
            (omega (arith, low, longer), ap (λ (t : Step). t.state) (old_step j low) ∙ old.1))
      ];
      starts = λ some. still a (tree.starts some);
      past = λ j low c small_c some. (
          let same : state_at more j ≡ state_at steps j = ap (λ (t : Step). t.state) (old_step j (omega (arith, low, place))) in
          subst (λ (q : ℕ). HasPlace marked (next p q (byte_at c))) (sym same) (still _ (tree.past j low c small_c (λ dead. some (ap (λ (q : ℕ). next p q (byte_at c)) same ∙ dead)))));
    }

    pub past_more : IsPast p steps places k b → IsPast p more marked k (b + 1)
    past_more past = λ c low some. (
        let same : state_at more k ≡ state_at steps k = ap (λ (t : Step). t.state) (old_step k place) in
        subst (λ (q : ℕ). HasPlace marked (next p q (byte_at c))) (sym same)
        (elim (cases_eq c b) [
          | inl at ↦ (length steps, ap (λ (d : ℕ). place_of marked (next p (state_at steps k) (byte_at d))) at ∙ ap (place_of marked) (sym is) ∙ here)
          | inr other ↦ still _ (past c (omega (arith, low, other)) (λ dead. some (ap (λ (q : ℕ). next p q (byte_at c)) same ∙ dead)))
        ]))

-- a place more is done with
pub tree_past : (p : Parts) (a : ℕ) (steps : List Step) (places : List (Option ℕ)) (k n : ℕ) → IsTree p a steps places k → IsPast p steps places k n → n ≡ 256 → IsTree p a steps places (k + 1)
tree_past p a steps places k n tree past is = record {
  all = tree.all;
  each = tree.each;
  placed = tree.placed;
  starts = tree.starts;
  past = λ j low. elim (cases_eq j k) [
    | inl same ↦ subst (λ (i : ℕ). IsPast p steps places i 256) (sym same) (subst (λ (m : ℕ). IsPast p steps places k m) is past)
    | inr other ↦ tree.past j (omega (arith, low, other))
  ];
}

-- ---- what the search found

-- to where a text leads there is a way
module _ (p : Parts) (a : ℕ) (steps : List Step) (places : List (Option ℕ)) (tree : IsTree p a steps places (length steps)) (dead : (b : ℕ) → next p 0 b ≡ 0) where
  stays_dead : (w : List ℕ) → after p 0 w ≡ 0
  stays_dead [] = refl
  stays_dead (b ∷ w) = ap (λ (s : ℕ). after p s w) (dead b) ∙ stays_dead w

  leads_on : (w : List ℕ) (x : ℕ) → IsText w → HasPlace places x → after p x w ≢ 0 → HasPlace places (after p x w)
  leads_on [] x text has live = has
  leads_on (b ∷ w) x text has live =
      let at = tree.placed x has.0 has.1 in
      let on : next p (state_at steps has.0) b ≢ 0 = λ e. live (ap (λ (s : ℕ). after p s w) (ap (λ (s : ℕ). next p s b) (sym at.1) ∙ e) ∙ stays_dead w) in
      let r = rank_of b text.0 in
      let there = tree.past has.0 at.0 r.0 r.1 (λ e. on (ap (next p (state_at steps has.0)) (sym r.2) ∙ e)) in
      leads_on w (next p x b) text.1 (subst (λ (s : ℕ). HasPlace places (next p s b)) at.1 (subst (λ (c : ℕ). HasPlace places (next p (state_at steps has.0) c)) r.2 there)) live

  pub comes_there : (w : List ℕ) → IsText w → after p a w ≢ 0 → (j : ℕ) × (j < length steps) × (state_at steps j ≡ after p a w)
  comes_there w text live =
      let some : a ≢ 0 = λ e. live (ap (λ (s : ℕ). after p s w) e ∙ stays_dead w) in
      let has = leads_on w a text (tree.starts some) live in
      let at = tree.placed (after p a w) has.0 has.1 in
      (has.0, at.0, at.1)

-- ---- a way, from its end

pub way_back : (p : Parts) (a : ℕ) (steps : List Step) (j : ℕ) (bytes more : List ℕ) (q : ℕ) (t : Step) → IsStep p a steps j → 1 ≤ j → t ≡ step_at steps j → more ≡ bytes ++ t.byte ∷ [] → after p (state_at steps j) (reverse bytes) ≡ q
    → after p (state_at steps t.from) (reverse more) ≡ q
way_back p a steps j bytes more q t step some is pushed leads =
    let e : reverse more ≡ t.byte ∷ reverse bytes = ap reverse pushed ∙ reverse-append bytes (t.byte ∷ []) in
    ap (after p (state_at steps t.from)) e
    ∙ ap (λ (x : Step). after p (next p (state_at steps x.from) x.byte) (reverse bytes)) is
    ∙ ap (λ (x : ℕ). after p x (reverse bytes)) (step.leads some) ∙ leads
