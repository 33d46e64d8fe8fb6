-- A walk goes from rule to rule by the last positions: nothing comes next of a rule that has none of them, and it is not left.
use Rattle.std.proofs.Common.{◌≡◌, ℕ, zero, suc, ◌+◌, ◌-◌, ◌<◌, ◌≤◌, ◌⊎◌, ◌||◌, Bool, true, false, cond, List, [], ◌∷◌, ◌++◌, Option, Some, None, length, map, drop, get_or, inl, inr, refl, sym, ap, subst, ◌∙◌, arith, append_assoc}
use Rattle.std.specs.Prelude.{slice_index, slice_index_or, slice_get}
use Rattle.std.proofs.lemmas.List.{drop-drop, drop_more}
use Rattle.std.proofs.lemmas.Option.{get_or_from_slice_get, slice_get-get_or}
use Rattle.lex_semantics.specs.Active.{contains}
use Rattle.lex_semantics.specs.Tree.{Tree}
use Rattle.lex_semantics.specs.Positions.{positions}
use Rattle.lex_semantics.specs.Spec.{Rule}
use Rattle.lex_semantics.specs.Subsets.{positions_of_trail, positions_of_rule, all_positions, base_of}
use Rattle.lex_semantics.specs.Text.{listed}
use Rattle.lexauto_positions.specs.Cursors.{IsCursor, IsFront}
use Rattle.lexauto_positions.specs.Flow.{exits, enters}
use Rattle.lexauto_positions.specs.Laid.{shape_of, IsSizedRule, HaveSized}
use Rattle.lexauto_positions.specs.Owners.{AreOwners}
use Rattle.lexauto_positions.specs.RuleFlow.{trail_exits, trail_enters, rule_exits, rule_enters, rules_enter, rules_left}
use Rattle.lexauto_positions.specs.declared.owners.Owner.{Owner}
use Rattle.lexauto_positions.specs.declared.rules.LaidRule.{LaidRule}
use Rattle.lexauto_positions.proofs.Bases.{base_low, base_up, base_within, base_next, base_first, base_behind}
use Rattle.lexauto_positions.proofs.Copies.{or_false, or_assoc}
use Rattle.lexauto_positions.proofs.CursorLaws.{cursor_past, none_before, front_wider, front_none}
use Rattle.lexauto_positions.proofs.LaidLaws.{front_listed}
use Rattle.lexauto_positions.proofs.Quiet.{quiet_exits, quiet_enters}
use Rattle.lexauto_positions.proofs.Mapped.{item_at, length_map}

-- no rule is entered
abbrev pub nowhere : ℕ → Bool
nowhere i = false

module _ (S : ℕ → Bool) where
  quiet_trail : (t : Option Tree) (base : ℕ) → ((p : ℕ) → base ≤ p → p < base + positions_of_trail t → S p ≡ false)
      → (trail_exits t S base false ≡ false) × ((q : ℕ) → trail_enters t S q base false ≡ false)
  quiet_trail None base h = (refl, λ q. refl)
  quiet_trail (Some t) base h = (quiet_exits S t base h, quiet_enters S t base h)

  pub quiet_rule : (r : Rule) (base : ℕ) → ((p : ℕ) → base ≤ p → p < base + positions_of_rule r → S p ≡ false)
      → (rule_exits r S base ≡ false) × ((q : ℕ) → rule_enters r S q base false ≡ false)
  quiet_rule r base h =
      let within : (p : ℕ) → base ≤ p → p < base + positions r.head → S p ≡ false = λ p f g. h p f (omega (arith, g)) in
      let behind : (p : ℕ) → base + positions r.head ≤ p → p < base + positions r.head + positions_of_trail r.trail → S p ≡ false = λ p f g. h p (omega (arith, f)) (omega (arith, g)) in
      let head : exits r.head S base false ≡ false = quiet_exits S r.head base within in
      let trail = quiet_trail r.trail (base + positions r.head) behind in (
        ap (trail_exits r.trail S (base + positions r.head)) head ∙ trail.0,
        λ q. ap (λ (b : Bool). b || trail_enters r.trail S q (base + positions r.head) (exits r.head S base false)) (quiet_enters S r.head base within q)
            ∙ ap (trail_enters r.trail S q (base + positions r.head)) head ∙ trail.1 q,
      )

  -- rules without last positions
  passed_over : (rules : List Rule) (n i base : ℕ) → ((p : ℕ) → base ≤ p → p < base_of rules base n → S p ≡ false)
      → ((q : ℕ) → rules_enter rules nowhere S q i base ≡ rules_enter (drop n rules) nowhere S q (i + n) (base_of rules base n))
      × (rules_left rules S i base ≡ rules_left (drop n rules) S (i + n) (base_of rules base n))
  passed_over [] zero i base h = (λ q. refl, refl)
  passed_over [] (suc n) i base h = (λ q. refl, refl)
  passed_over (r ∷ rules) zero i base h =
      let e : i ≡ i + 0 = omega arith in (
        λ q. ap (λ k. rules_enter (r ∷ rules) nowhere S q k base) e,
        ap (λ k. rules_left (r ∷ rules) S k base) e,
      )
  passed_over (r ∷ rules) (suc n) i base h =
      let after = base + positions_of_rule r in
      let low : after ≤ base_of rules after n = base_low rules after n in
      let here = quiet_rule r base (λ p f g. h p f (omega (arith, low, g))) in
      let more = passed_over rules n (suc i) after (λ p f g. h p (omega (arith, f)) g) in
      let e : suc i + n ≡ i + suc n = omega arith in (
        λ q. ap (λ (b : Bool). b || rules_enter rules nowhere S q (suc i) after) (here.1 q) ∙ more.0 q
            ∙ ap (λ k. rules_enter (drop n rules) nowhere S q k (base_of rules after n)) e,
        ap (λ (b : Bool). cond b (i ∷ rules_left rules S (suc i) after) (rules_left rules S (suc i) after)) here.0 ∙ more.1
            ∙ ap (λ k. rules_left (drop n rules) S k (base_of rules after n)) e,
      )

  -- rules behind all last positions
  none_left : (rules : List Rule) (i base : ℕ) → ((p : ℕ) → base ≤ p → S p ≡ false)
      → ((q : ℕ) → rules_enter rules nowhere S q i base ≡ false) × (rules_left rules S i base ≡ [])
  none_left [] i base h = (λ q. refl, refl)
  none_left (r ∷ rules) i base h =
      let after = base + positions_of_rule r in
      let here = quiet_rule r base (λ p f g. h p f) in
      let more = none_left rules (suc i) after (λ p f. h p (omega (arith, f))) in (
        λ q. ap (λ (b : Bool). b || rules_enter rules nowhere S q (suc i) after) (here.1 q) ∙ more.0 q,
        ap (λ (b : Bool). cond b (i ∷ rules_left rules S (suc i) after) (rules_left rules S (suc i) after)) here.0 ∙ more.1,
      )

-- what comes next of a rule that is entered, where there are no last positions: the first ones of its head
pub first_of_rule : (r : Rule) (q base : ℕ) (i : Bool) → rule_enters r nowhere q base i ≡ enters r.head nowhere q base i
first_of_rule r q base i =
    let left : exits r.head nowhere base false ≡ false = quiet_exits nowhere r.head base (λ p f g. refl) in
    let trail = quiet_trail nowhere r.trail (base + positions r.head) (λ p f g. refl) in
    ap (λ (b : Bool). enters r.head nowhere q base i || b) (ap (trail_enters r.trail nowhere q (base + positions r.head)) left ∙ trail.1 q)
    ∙ or_false (enters r.head nowhere q base i)

-- no rule is left where there are no last positions
pub none_gone : (rules : List Rule) → rules_left rules nowhere 0 0 ≡ []
none_gone rules = (none_left nowhere rules 0 0 (λ p f. refl)).1

-- a walk that has passed so many rules: what comes next of them, and which of them are left
pub record HasPassed (rules : List Rule) (last : List ℕ) (at : ℕ) (next left : List ℕ) : Type 0 where
  pub number : ℕ
  pub cursor : IsCursor last at (base_of rules 0 number)
  pub front : IsFront next (base_of rules 0 number)
  pub comes : (q : ℕ) → (contains next q || rules_enter (drop number rules) nowhere (contains last) q number (base_of rules 0 number)) ≡ rules_enter rules nowhere (contains last) q 0 0
  pub goes : left ++ rules_left (drop number rules) (contains last) number (base_of rules 0 number) ≡ rules_left rules (contains last) 0 0

pub none_passed : (rules : List Rule) (last : List ℕ) → IsCursor last 0 0 → HasPassed rules last 0 [] []
none_passed rules last c =
    let first : 0 ≡ base_of rules 0 0 = sym (base_first rules 0) in
    record {
      number = 0;
      cursor = subst (λ (n : ℕ). IsCursor last 0 n) first c;
      front = subst (λ (n : ℕ). IsFront [] n) first front_none;
      comes = λ q. ap (λ (n : ℕ). rules_enter rules nowhere (contains last) q 0 n) (sym first);
      goes = ap (λ (n : ℕ). rules_left rules (contains last) 0 n) (sym first);
    }

module _ (rules : List Rule) (last : List ℕ) (at : ℕ) (next left : List ℕ) (h : HasPassed rules last at next left) where
  abbrev here : ℕ
  here = base_of rules 0 h.number

  -- the rule that has the next of the last positions
  module _ (owners : List Owner) (are : AreOwners rules owners) (o : Owner) (low : at < length last) (own : slice_get owners (slice_index last at) ≡ Some o) where
    ahead : h.number ≤ o.rule
    ahead =
        let above : here ≤ slice_index last at = h.cursor.above at (omega arith) low in
        let high = are.high (slice_index last at) o own in
        not_before (λ lt. let up = base_up rules 0 (suc o.rule) h.number lt in omega (arith, above, high, up))
      where
        not_before : (suc o.rule ≤ h.number → ⊥) → h.number ≤ o.rule
        not_before f = elim (let d : (suc o.rule ≤ h.number) ⊎ (h.number ≤ o.rule) = grind arith in d) [ inl a ↦ absurd (f a) | inr b ↦ b ]

    begins : o.base ≡ base_of rules 0 o.rule
    begins = are.base (slice_index last at) o own

    wide : here ≤ o.base
    wide = let up = base_up rules 0 h.number o.rule ahead in let e = begins in omega (arith, up, e)

    quiet : (length last ≤ at) ⊎ (o.base ≤ slice_index last at)
    quiet = inr (are.low (slice_index last at) o own)

    pub at_rule : IsCursor last at o.base
    at_rule = cursor_past last at here h.cursor o.base wide quiet

    pub at_front : IsFront next o.base
    at_front = front_wider next here o.base wide h.front

    pub rule_within : o.rule < length rules
    rule_within = are.number (slice_index last at) o own

    module _ (r : Rule) (is : slice_get rules o.rule ≡ Some r) where
      ends : base_of rules 0 (suc o.rule) ≡ o.base + positions_of_rule r
      ends = let e = begins in base_next rules 0 o.rule r is ∙ ap (λ (n : ℕ). n + positions_of_rule r) (sym e)

      pub rule_few : o.base + positions_of_rule r ≤ all_positions rules
      rule_few = let w = base_within rules 0 (suc o.rule) in let e = ends in omega (arith, w, e)

      pub further : (n : ℕ) → IsCursor last n (o.base + positions_of_rule r) → at < n
      further n c = elim (let d : (at < n) ⊎ (n ≤ at) = grind arith in d) [
        | inl a ↦ a
        | inr b ↦ absurd (let above = c.above at b low in let high = are.high (slice_index last at) o own in let e = ends in omega (arith, above, high, e))
      ]

      abbrev steps : ℕ
      steps = o.rule - h.number

      place : h.number + steps ≡ o.rule
      place = let a = ahead in omega (arith, a)

      begins_behind : base_of (drop h.number rules) here steps ≡ o.base
      begins_behind = base_behind rules 0 h.number steps ∙ ap (base_of rules 0) place ∙ sym begins

      rest : drop steps (drop h.number rules) ≡ r ∷ drop (suc o.rule) rules
      rest =
          let more : suc o.rule ≡ o.rule + 1 = omega arith in
          drop-drop steps h.number rules ∙ ap (λ (n : ℕ). drop n rules) place ∙ drop_more rules o.rule r rule_within
          ∙ ap (λ (q : Rule). q ∷ drop (o.rule + 1) rules) (get_or_from_slice_get rules o.rule r r is) ∙ ap (λ (n : ℕ). r ∷ drop n rules) (sym more)

      over : ((q : ℕ) → rules_enter (drop h.number rules) nowhere (contains last) q h.number here ≡ rules_enter (drop steps (drop h.number rules)) nowhere (contains last) q (h.number + steps) (base_of (drop h.number rules) here steps))
          × (rules_left (drop h.number rules) (contains last) h.number here ≡ rules_left (drop steps (drop h.number rules)) (contains last) (h.number + steps) (base_of (drop h.number rules) here steps))
      over = passed_over (contains last) (drop h.number rules) steps h.number here
          (λ p f g. none_before last at here h.cursor o.base wide quiet p f (subst (λ (n : ℕ). p < n) begins_behind g))

      to_rule_next : (q : ℕ) → rules_enter (drop h.number rules) nowhere (contains last) q h.number here
          ≡ (rule_enters r (contains last) q o.base false || rules_enter (drop (suc o.rule) rules) nowhere (contains last) q (suc o.rule) (o.base + positions_of_rule r))
      to_rule_next q =
          over.0 q
          ∙ ap (λ (rs : List Rule). rules_enter rs nowhere (contains last) q (h.number + steps) (base_of (drop h.number rules) here steps)) rest
          ∙ ap (λ (n : ℕ). rules_enter (r ∷ drop (suc o.rule) rules) nowhere (contains last) q n (base_of (drop h.number rules) here steps)) place
          ∙ ap (λ (n : ℕ). rules_enter (r ∷ drop (suc o.rule) rules) nowhere (contains last) q o.rule n) begins_behind

      to_rule_left : rules_left (drop h.number rules) (contains last) h.number here
          ≡ cond (rule_exits r (contains last) o.base) (o.rule ∷ rules_left (drop (suc o.rule) rules) (contains last) (suc o.rule) (o.base + positions_of_rule r))
          (rules_left (drop (suc o.rule) rules) (contains last) (suc o.rule) (o.base + positions_of_rule r))
      to_rule_left =
          over.1
          ∙ ap (λ (rs : List Rule). rules_left rs (contains last) (h.number + steps) (base_of (drop h.number rules) here steps)) rest
          ∙ ap (λ (n : ℕ). rules_left (r ∷ drop (suc o.rule) rules) (contains last) n (base_of (drop h.number rules) here steps)) place
          ∙ ap (λ (n : ℕ). rules_left (r ∷ drop (suc o.rule) rules) (contains last) o.rule n) begins_behind

      joined : (b : Bool) (xs : List ℕ) → (left ++ cond b (o.rule ∷ []) []) ++ xs ≡ left ++ cond b (o.rule ∷ xs) xs
      joined true xs = append_assoc left (o.rule ∷ []) xs
      joined false xs = append_assoc left [] xs

      pub one_passed : (n : ℕ) (more gone : List ℕ) → IsCursor last n (o.base + positions_of_rule r) → IsFront more (o.base + positions_of_rule r)
          → ((q : ℕ) → contains more q ≡ (contains next q || rule_enters r (contains last) q o.base false)) → gone ≡ left ++ cond (rule_exits r (contains last) o.base) (o.rule ∷ []) []
          → HasPassed rules last n more gone
      one_passed n more gone c f e g =
          let up = ends in
          let after = drop (suc o.rule) rules in
          let end = base_of rules 0 (suc o.rule) in
          record {
            number = suc o.rule;
            cursor = subst (λ (k : ℕ). IsCursor last n k) (sym up) c;
            front = subst (λ (k : ℕ). IsFront more k) (sym up) f;
            comes = λ q.
                ap (λ (b : Bool). b || rules_enter after nowhere (contains last) q (suc o.rule) end) (e q)
                ∙ ap (λ (k : ℕ). (contains next q || rule_enters r (contains last) q o.base false) || rules_enter after nowhere (contains last) q (suc o.rule) k) up
                ∙ or_assoc (contains next q) (rule_enters r (contains last) q o.base false) (rules_enter after nowhere (contains last) q (suc o.rule) (o.base + positions_of_rule r))
                ∙ ap (λ (b : Bool). contains next q || b) (sym (to_rule_next q)) ∙ h.comes q;
            goes =
                ap (λ (k : ℕ). gone ++ rules_left after (contains last) (suc o.rule) k) up
                ∙ ap (λ (l : List ℕ). l ++ rules_left after (contains last) (suc o.rule) (o.base + positions_of_rule r)) g
                ∙ joined (rule_exits r (contains last) o.base) (rules_left after (contains last) (suc o.rule) (o.base + positions_of_rule r))
                ∙ ap (λ (l : List ℕ). left ++ l) (sym to_rule_left) ∙ h.goes;
          }

  module _ (done : length last ≤ at) where
    rest_none : ((q : ℕ) → rules_enter (drop h.number rules) nowhere (contains last) q h.number here ≡ false) × (rules_left (drop h.number rules) (contains last) h.number here ≡ [])
    rest_none = none_left (contains last) (drop h.number rules) h.number here
        (λ p f. none_before last at here h.cursor (suc p) (omega (arith, f)) (inl done) p f (omega arith))

    pub all_next : next ≡ listed (λ q. rules_enter rules nowhere (contains last) q 0 0) 0 (all_positions rules)
    all_next =
        let w : here ≤ all_positions rules = (let b = base_within rules 0 h.number in omega (arith, b)) in
        front_listed next (all_positions rules) (λ q. rules_enter rules nowhere (contains last) q 0 0) (front_wider next here (all_positions rules) w h.front)
        (λ q. sym (or_false (contains next q)) ∙ ap (λ (b : Bool). contains next q || b) (sym (rest_none.0 q)) ∙ h.comes q)

    nil_after : (l : List ℕ) → l ++ [] ≡ l
    nil_after [] = refl
    nil_after (x ∷ l) = ap (λ (k : List ℕ). x ∷ k) (nil_after l)

    pub all_left : left ≡ rules_left rules (contains last) 0 0
    all_left = sym (nil_after left) ∙ ap (λ (l : List ℕ). left ++ l) (sym rest_none.1) ∙ h.goes

sized_at : (laid : List LaidRule) (i : ℕ) (l : LaidRule) → HaveSized laid → i < length laid → l ≡ get_or laid i l → IsSizedRule l
sized_at [] i l h low e = absurd (omega arith)
sized_at (x ∷ laid) zero l h low e = subst (λ (r : LaidRule). IsSizedRule r) (sym e) h.0
sized_at (x ∷ laid) (suc i) l h low e = sized_at laid i l h.1 (omega arith) e

-- the same of rules that are laid out
module _ (laid : List LaidRule) (owners : List Owner) (last : List ℕ) (at : ℕ) (next left : List ℕ) (are : AreOwners (map shape_of laid) owners)
    (known : (j : ℕ) → j < length last → slice_index last j < length owners) (h : HasPassed (map shape_of laid) last at next left) (low : at < length last) where
  abbrev owner : Owner
  owner = slice_index_or owners (slice_index last at) (record { rule = 0; base = 0 })

  own : slice_get owners (slice_index last at) ≡ Some owner
  own = slice_get-get_or owners (slice_index last at) (record { rule = 0; base = 0 }) (known at low)

  pub owner_within : owner.rule < length laid
  owner_within = let w = rule_within (map shape_of laid) last at next left h owners are owner low own in omega (arith, w, length_map shape_of laid)

  pub owner_cursor : IsCursor last at owner.base
  owner_cursor = at_rule (map shape_of laid) last at next left h owners are owner low own

  pub owner_front : IsFront next owner.base
  owner_front = at_front (map shape_of laid) last at next left h owners are owner low own

  module _ (rule : LaidRule) (is : rule ≡ get_or laid owner.rule rule) where
    there : slice_get (map shape_of laid) owner.rule ≡ Some (shape_of rule)
    there = item_at shape_of laid owner.rule rule owner_within is

    pub owner_sized : HaveSized laid → IsSizedRule rule
    owner_sized sized = sized_at laid owner.rule rule sized owner_within is

    pub owner_few : owner.base + positions_of_rule (shape_of rule) ≤ all_positions (map shape_of laid)
    owner_few = rule_few (map shape_of laid) last at next left h owners are owner low own (shape_of rule) there

    pub owner_further : (n : ℕ) → IsCursor last n (owner.base + positions_of_rule (shape_of rule)) → at < n
    owner_further = further (map shape_of laid) last at next left h owners are owner low own (shape_of rule) there

    pub owner_passed : (n : ℕ) (more gone : List ℕ) → IsCursor last n (owner.base + positions_of_rule (shape_of rule)) → IsFront more (owner.base + positions_of_rule (shape_of rule))
        → ((q : ℕ) → contains more q ≡ (contains next q || rule_enters (shape_of rule) (contains last) q owner.base false))
        → gone ≡ left ++ cond (rule_exits (shape_of rule) (contains last) owner.base) (owner.rule ∷ []) [] → HasPassed (map shape_of laid) last n more gone
    owner_passed = one_passed (map shape_of laid) last at next left h owners are owner low own (shape_of rule) there
