-- Rules laid out for walks. (This project's.)
use Rattle.std.specs.Prelude.{◌≡◌, false, List, [], ◌∷◌, Option, Some, None, IfSome, length, option_map, ⊤}
use Rattle.std.specs.Coded.{×_prop, Unit-prop}
use Rattle.std.proofs.Math.Nat.{ℕ_set}
use Rattle.lex_semantics.specs.Spec as S
use Rattle.lex_semantics.specs.Subsets.{all_positions}
use Rattle.lex_semantics.specs.Tree.{Tree}
use Rattle.lexauto_positions.specs.Alike.{Alike}
use Rattle.lexauto_positions.specs.Plans.{Plan, Plans, Nothing, Letter, Series, Choice, Loop, Copies, no_plans, plan, plan_of, tree_in, IsSized, AreSized}
use Rattle.lexauto_positions.specs.RuleFlow.{rules_enter, rules_left, rules_read}
use Rattle.lexauto_positions.specs.declared.rules.LaidRule.{LaidRule}

-- a rule whose sides are the trees of the laid out ones
abbrev pub shape_of : LaidRule → S.Rule
shape_of r = record {
  line = 0;
  conditions = None;
  anchored = false;
  head = tree_in (plan_of r.head);
  trail = option_map (λ p. tree_in (plan_of p)) r.trail;
  cut = S.Whole;
  statements = [];
}

abbrev pub IsSizedRule : LaidRule → Type 0
IsSizedRule r = IsSized (plan_of r.head) × IfSome r.trail (λ p. IsSized (plan_of p))

abbrev pub HaveSized : List LaidRule → Type 0
HaveSized [] = ⊤
HaveSized (r ∷ rs) = IsSizedRule r × HaveSized rs

-- the trails are there or not, and alike
abbrev pub AlikeTrails : Option Tree → Option Tree → Type 0
AlikeTrails None None = ⊤
AlikeTrails (Some t) (Some u) = Alike t u
AlikeTrails None (Some u) = ⊥
AlikeTrails (Some t) None = ⊥

-- the rules are walked alike
pub record AlikeRules (rs ss : List S.Rule) : Type 0 where
  pub number : length rs ≡ length ss
  pub size : all_positions rs ≡ all_positions ss
  pub next : rules_enter rs ≡ rules_enter ss
  pub left : rules_left rs ≡ rules_left ss
  pub letters : rules_read rs ≡ rules_read ss

-- There is one proof of it at most, so a type may keep it.
mutual
  IsSized-prop : (p : Plan) → IsProp (IsSized p)
  IsSized-prop Nothing = Unit-prop
  IsSized-prop (Letter s) = Unit-prop
  IsSized-prop (Series n ps) = ×_prop (ℕ_set _ _) (AreSized-prop ps)
  IsSized-prop (Choice n ps) = ×_prop (ℕ_set _ _) (AreSized-prop ps)
  IsSized-prop (Loop n p) = ×_prop (ℕ_set _ _) (IsSized-prop p)
  IsSized-prop (Copies n p m k) = ×_prop (ℕ_set _ _) (IsSized-prop p)

  AreSized-prop : (ps : Plans) → IsProp (AreSized ps)
  AreSized-prop no_plans = Unit-prop
  AreSized-prop (plan p ps) = ×_prop (IsSized-prop p) (AreSized-prop ps)

IsSizedRule-prop : (r : LaidRule) → IsProp (IsSizedRule r)
IsSizedRule-prop r = ×_prop (IsSized-prop (plan_of r.head)) (trail r.trail)
  where
    trail : (o : Option _) → IsProp (IfSome o (λ p. IsSized (plan_of p)))
    trail None = Unit-prop
    trail (Some p) = IsSized-prop (plan_of p)

pub HaveSized-prop : (rs : List LaidRule) → IsProp (HaveSized rs)
HaveSized-prop [] = Unit-prop
HaveSized-prop (r ∷ rs) = ×_prop (IsSizedRule-prop r) (HaveSized-prop rs)
