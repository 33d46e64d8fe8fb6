-- The rules that are left at their ends are those that fit.
use Rattle.std.specs.Prelude.{◌≡◌, ◌≢◌, ◌↔◌, ℕ, zero, suc, ◌+◌, ◌<◌, ◌≤◌, Bool, true, false, cond, ◌⊎◌, List, [], ◌∷◌, ◌++◌, Some, None, slice_get, take}
use Rattle.std.proofs.Common.{inl, inr, refl, ap, sym, subst, ◌∙◌, arith}
use Rattle.lex_semantics.specs.Text.{Among, Ascending}
use Rattle.lex_semantics.specs.Positions.{ReadsWord}
use Rattle.lex_semantics.specs.Spec.{Spec, Rule}
use Rattle.lex_semantics.specs.Reports.{HasFit}
use Rattle.lex_semantics.specs.Sound.{IsSound}
use Rattle.lex_semantics.specs.Active.{active}
use Rattle.lex_semantics.proofs.Counted.{base_is}
use Rattle.lex_semantics.specs.Subsets.{IsLast, ReadsActive, ReadsRule, all_positions, positions_of_rule, base_of}
use Rattle.lexauto_positions.specs.RuleAutomaton.{rule_quad}
use Rattle.lexauto_positions.specs.RuleFlow.{rule_exits, rules_left}
use Rattle.lexauto.specs.Sets.{marked, lasts_in}
use Rattle.lexauto.specs.Keys.{Key}
use Rattle.lexauto.specs.WordKeys.{LastKey}
use Rattle.lexauto_positions.proofs.FlowMeaning.{both, back, no_true}
use Rattle.lexauto_positions.proofs.RuleMeaning.{rule_exits_is}
use Rattle.lexauto_positions.proofs.ActiveRules.{AreSound, SoundRule, rule_is, rule_finishes, occurs_range}
use Rattle.lexauto_positions.proofs.Bases.{base_low}
use Rattle.lexauto_positions.proofs.LastPositions.{accepts_is, last_to_path, occurs}
use Rattle.lexauto_positions.proofs.Meaning.{fit_read, read_fit, sound_rules}
use Rattle.lexauto.proofs.KeyLaws.{marked_is, lasts_tagged}

-- the positions of rules don't overlap

base_order : (rules : List Rule) (base i j : ℕ) (r : Rule) → slice_get rules i ≡ Some r → i < j → base_of rules base i + positions_of_rule r ≤ base_of rules base j
base_order [] base i j r at h = absurd (none at)
  where
    none : None ≡ Some r → ⊥
    none e = cc
base_order (q ∷ rules) base zero zero r at h = absurd (omega (arith, h))
base_order (q ∷ rules) base zero (suc j) r at h =
    let same : q ≡ r = cc in
    let low = base_low rules (base + positions_of_rule q) j in
    subst (λ (z : Rule). base + positions_of_rule z ≤ base_of rules (base + positions_of_rule q) j) same low
base_order (q ∷ rules) base (suc i) zero r at h = absurd (omega (arith, h))
base_order (q ∷ rules) base (suc i) (suc j) r at h = base_order rules (base + positions_of_rule q) i j r at (omega (arith, h))

sound_at : (rules : List Rule) → AreSound rules → (i : ℕ) (r : Rule) → slice_get rules i ≡ Some r → SoundRule r
sound_at [] h i r at = absurd (none at)
  where
    none : None ≡ Some r → ⊥
    none e = cc
sound_at (q ∷ rules) h zero r at = let same : q ≡ r = cc in subst SoundRule same h.0
sound_at (q ∷ rules) h (suc i) r at = sound_at rules h.1 i r at

module _ (S : Spec) (sound : IsSound S) (c : ℕ) (line_start : Bool) (w : List ℕ) (some : w ≢ []) where
  are_sound : AreSound S.rules
  are_sound = sound_rules S.rules _ sound.rules

  -- a last position is one of its rule's
  last_range : (j : ℕ) (r : Rule) (p : ℕ) → slice_get S.rules j ≡ Some r → IsLast (ReadsRule r (base_of S.rules 0 j)) w p
      → (base_of S.rules 0 j ≤ p) × (p < base_of S.rules 0 j + positions_of_rule r)
  last_range j r p at l =
      let base = base_of S.rules 0 j in
      let x = rule_quad r base in
      let d = rule_is r base in
      let fin = rule_finishes r base (sound_at S.rules are_sound j r at) in
      let path = last_to_path x (ReadsRule r base) base (base + positions_of_rule r) d fin w p l in
      occurs_range x base (base + positions_of_rule r) d.within p (occurs x (ReadsRule r base) base (base + positions_of_rule r) d fin path.0 p path.2)

  -- a rule fits just where one of its last positions is left
  pub fit_is : (i : ℕ) (r : Rule) → slice_get S.rules i ≡ Some r → HasFit S c line_start w i ↔ ((p : ℕ) × IsLast (ReadsActive S c line_start) w p × (rule_quad r (base_of S.rules 0 i)).last p)
  fit_is i r at = (to, from)
    where
      accept : ReadsWord (ReadsRule r (base_of S.rules 0 i)) w ↔ ((p : ℕ) × IsLast (ReadsRule r (base_of S.rules 0 i)) w p × (rule_quad r (base_of S.rules 0 i)).last p)
      accept = accepts_is (rule_quad r (base_of S.rules 0 i)) (ReadsRule r (base_of S.rules 0 i)) (base_of S.rules 0 i) (base_of S.rules 0 i + positions_of_rule r)
          (rule_is r (base_of S.rules 0 i)) (rule_finishes r (base_of S.rules 0 i) (sound_at S.rules are_sound i r at)) w some

      to : HasFit S c line_start w i → (p : ℕ) × IsLast (ReadsActive S c line_start) w p × (rule_quad r (base_of S.rules 0 i)).last p
      to (k, h) =
          let same : h.rule ≡ r = (let e : Some h.rule ≡ Some r = sym h.at ∙ at in cc) in
          let reads = fit_read S c line_start w i k (base_of S.rules 0 i) h in
          let (p, (rs, zs, a, e, rest), last) = accept.0 (subst (λ (q : Rule). ReadsWord (ReadsRule q (base_of S.rules 0 i)) w) same reads) in
          (p, (rs, zs, a, e, (i, r, at, subst (λ (q : Rule). active S c line_start q ≡ true) same h.is_active, subst (λ (b : ℕ). ReadsRule r b (rs ++ (a, p) ∷ zs)) (base_is S.rules i) rest)), last)

      same_rule : (j : ℕ) (q : Rule) (p : ℕ) → slice_get S.rules j ≡ Some q → IsLast (ReadsRule q (base_of S.rules 0 j)) w p → (rule_quad r (base_of S.rules 0 i)).last p → i ≡ j
      same_rule j q p there l last =
          let mine = (rule_is r (base_of S.rules 0 i)).within.last p last in
          let range = last_range j q p there l in
          elim (let d : (i ≡ j) ⊎ ((i < j) ⊎ (j < i)) = grind arith in d) [
            | inl e ↦ e
            | inr (inl h) ↦ absurd (let o = base_order S.rules 0 i j r at h in omega (arith, o, mine.1, range.0))
            | inr (inr h) ↦ absurd (let o = base_order S.rules 0 j i q there h in omega (arith, o, mine.0, range.1))
          ]

      from : (p : ℕ) × IsLast (ReadsActive S c line_start) w p × (rule_quad r (base_of S.rules 0 i)).last p → HasFit S c line_start w i
      from (p, (rs, zs, a, e, (j, q, there, on, read)), last) =
          let reads : ReadsRule q (base_of S.rules 0 j) (rs ++ (a, p) ∷ zs) = subst (λ (b : ℕ). ReadsRule q b (rs ++ (a, p) ∷ zs)) (sym (base_is S.rules j)) read in
          let same : i ≡ j = same_rule j q p there (rs, zs, a, e, reads) last in
          let rule : r ≡ q = (let g : Some r ≡ Some q = sym at ∙ ap (slice_get S.rules) same ∙ there in cc) in
          let mine : ReadsRule r (base_of S.rules 0 i) (rs ++ (a, p) ∷ zs) =
          subst (λ (z : Rule). ReadsRule z (base_of S.rules 0 i) (rs ++ (a, p) ∷ zs)) (sym rule) (subst (λ (n : ℕ). ReadsRule q (base_of S.rules 0 n) (rs ++ (a, p) ∷ zs)) (sym same) reads) in
          read_fit S c line_start w i (base_of S.rules 0 i) r at (subst (λ (z : Rule). active S c line_start z ≡ true) (sym rule) on)
          (accept.1 (p, (rs, zs, a, e, mine), last))

  pub left_is : (k : Key) → LastKey S c line_start w k → (i : ℕ) (r : Rule) → slice_get S.rules i ≡ Some r
      → (rule_exits r (marked (all_positions S.rules) (lasts_in k)) (base_of S.rules 0 i) ≡ true) ↔ HasFit S c line_start w i
  left_is k (l, is, lists, low) i r at =
      let P = all_positions S.rules in
      let lasts : lasts_in k ≡ l = ap lasts_in is ∙ lasts_tagged l in
      both (rule_exits_is (marked P (lasts_in k)) r (base_of S.rules 0 i)) (both (
        λ (p, h, last). (p, (lists.1 p).0 (subst (λ (ks : List ℕ). Among ks p) lasts ((marked_is P (lasts_in k) p).0 h).1), last),
        λ (p, h, last). (let a = (lists.1 p).1 h in (p, (marked_is P (lasts_in k) p).1 (low p a, subst (λ (ks : List ℕ). Among ks p) (sym lasts) a), last)),
      ) (back (fit_is i r at)))

-- the rules that are left, as a list

module _ (S : ℕ → Bool) where
  IsLeft : List Rule → ℕ → ℕ → Type 0
  IsLeft rules base j = (r : Rule) × (slice_get rules j ≡ Some r) × (rule_exits r S (base_of rules base j) ≡ true)

  none_left : {A : Type 0} (base j : ℕ) → IsLeft [] base j → A
  unfolding IsLeft
  none_left base j (r, at, e) = absurd (none at)
    where
      none : None ≡ Some r → ⊥
      none e = cc

  cons_left : (r : Rule) (rules : List Rule) (base j : ℕ) → IsLeft rules (base + positions_of_rule r) j → IsLeft (r ∷ rules) base (suc j)
  unfolding IsLeft
  cons_left r rules base j h = h

  uncons_left : (r : Rule) (rules : List Rule) (base j : ℕ) → IsLeft (r ∷ rules) base (suc j) → IsLeft rules (base + positions_of_rule r) j
  unfolding IsLeft
  uncons_left r rules base j h = h

  head_left : (r : Rule) (rules : List Rule) (base : ℕ) → rule_exits r S base ≡ true → IsLeft (r ∷ rules) base zero
  unfolding IsLeft
  head_left r rules base h = (r, refl, h)

  left_head : (r : Rule) (rules : List Rule) (base : ℕ) → IsLeft (r ∷ rules) base zero → rule_exits r S base ≡ true
  unfolding IsLeft
  left_head r rules base (q, at, h) = let same : r ≡ q = cc in subst (λ (z : Rule). rule_exits z S base ≡ true) (sym same) h

  among_left : (rules : List Rule) (i base x : ℕ) → Among (rules_left rules S i base) x → (j : ℕ) × (x ≡ i + j) × IsLeft rules base j
  among_left [] i base x h = absurd h
  among_left (r ∷ rules) i base x h = from (rule_exits r S base) refl (λ g. among_left rules (suc i) (base + positions_of_rule r) x g) h
    where
      later : (j : ℕ) × (x ≡ suc i + j) × IsLeft rules (base + positions_of_rule r) j → (j : ℕ) × (x ≡ i + j) × IsLeft (r ∷ rules) base j
      later (j, e, g) = (suc j, omega (arith, e), cons_left r rules base j g)

      from : (b : Bool) → rule_exits r S base ≡ b → (Among (rules_left rules S (suc i) (base + positions_of_rule r)) x → (j : ℕ) × (x ≡ suc i + j) × IsLeft rules (base + positions_of_rule r) j)
          → Among (cond b (i ∷ rules_left rules S (suc i) (base + positions_of_rule r)) (rules_left rules S (suc i) (base + positions_of_rule r))) x → (j : ℕ) × (x ≡ i + j) × IsLeft (r ∷ rules) base j
      from true e more (inl s) = (zero, omega (arith, s), head_left r rules base e)
      from true e more (inr g) = later (more g)
      from false e more g = later (more g)

  left_among : (rules : List Rule) (i base j : ℕ) → IsLeft rules base j → Among (rules_left rules S i base) (i + j)
  left_among [] i base j h = none_left base j h
  left_among (r ∷ rules) i base zero h = from (rule_exits r S base) (left_head r rules base h)
    where
      from : (b : Bool) → b ≡ true → Among (cond b (i ∷ rules_left rules S (suc i) (base + positions_of_rule r)) (rules_left rules S (suc i) (base + positions_of_rule r))) (i + zero)
      from true e = inl (omega arith)
      from false e = no_true e
  left_among (r ∷ rules) i base (suc j) h =
      let more = left_among rules (suc i) (base + positions_of_rule r) j (uncons_left r rules base j h) in
      let e : suc i + j ≡ i + suc j = omega arith in
      from (rule_exits r S base) (subst (λ (n : ℕ). Among (rules_left rules S (suc i) (base + positions_of_rule r)) n) e more)
    where
      from : (b : Bool) → Among (rules_left rules S (suc i) (base + positions_of_rule r)) (i + suc j)
          → Among (cond b (i ∷ rules_left rules S (suc i) (base + positions_of_rule r)) (rules_left rules S (suc i) (base + positions_of_rule r))) (i + suc j)
      from true g = inr g
      from false g = g

  pub left_ascend : (rules : List Rule) (i base : ℕ) → Ascending (rules_left rules S i base)
  left_ascend [] i base = tt
  left_ascend (r ∷ rules) i base = from (rule_exits r S base) (left_ascend rules (suc i) (base + positions_of_rule r))
    where
      from : (b : Bool) → Ascending (rules_left rules S (suc i) (base + positions_of_rule r))
          → Ascending (cond b (i ∷ rules_left rules S (suc i) (base + positions_of_rule r)) (rules_left rules S (suc i) (base + positions_of_rule r)))
      from true h = (λ j g. (let r = among_left rules (suc i) (base + positions_of_rule r) j g in omega (arith, r.1)), h)
      from false h = h

  pub rules_left_is : (rules : List Rule) (x : ℕ) → Among (rules_left rules S 0 0) x ↔ ((r : Rule) × (slice_get rules x ≡ Some r) × (rule_exits r S (base_of rules 0 x) ≡ true))
  unfolding IsLeft
  rules_left_is rules x = (
    λ h. (let (j, e, g) = among_left rules 0 0 x h in let s : j ≡ x = omega (arith, e) in subst (λ (n : ℕ). IsLeft rules 0 n) s g),
    λ h. (let e : 0 + x ≡ x = omega arith in subst (λ (n : ℕ). Among (rules_left rules S 0 0) n) e (left_among rules 0 0 x h)),
  )

-- the first of an ascending list is the least
pub first_is : (l : List ℕ) → Ascending l → (i : ℕ) → Among (take 1 l) i ↔ (Among l i × ((j : ℕ) → j < i → Among l j → ⊥))
first_is [] h i = (λ g. absurd g, λ g. g.0)
first_is (x ∷ l) h i = (to, from)
  where
    to : Among (x ∷ []) i → ((i ≡ x) ⊎ Among l i) × ((j : ℕ) → j < i → (j ≡ x) ⊎ Among l j → ⊥)
    to (inl e) = (inl e, λ j lt a. elim a [ inl s ↦ omega (arith, e, s, lt) | inr g ↦ (let m = h.0 j g in omega (arith, m, e, lt)) ])
    to (inr g) = absurd g

    from : ((i ≡ x) ⊎ Among l i) × ((j : ℕ) → j < i → (j ≡ x) ⊎ Among l j → ⊥) → Among (x ∷ []) i
    from (inl e, least) = inl e
    from (inr g, least) = absurd (least x (h.0 i g) (inl refl))

pub rules_fit : (S : Spec) → IsSound S → (c : ℕ) (line_start : Bool) (w : List ℕ) → w ≢ [] → (k : Key) → LastKey S c line_start w k
    → (i : ℕ) → Among (rules_left S.rules (marked (all_positions S.rules) (lasts_in k)) 0 0) i ↔ HasFit S c line_start w i
rules_fit S sound c line_start w some k h i =
    let last = marked (all_positions S.rules) (lasts_in k) in (
      λ a. (let (r, at, e) = (rules_left_is last S.rules i).0 a in (left_is S sound c line_start w some k h i r at).0 e),
      λ (n, f). (rules_left_is last S.rules i).1 (f.rule, f.at, (left_is S sound c line_start w some k h i f.rule f.at).1 (n, f)),
    )
