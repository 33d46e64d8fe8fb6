use Rattle.std.proofs.Common.{rules, ◌≡◌, ◌<◌, ◌-◌, ◌++◌, ◌∷◌, [], ℕ, List, length, map, slice_get, Option, Some, IfOk, Vec, Global, ◌&&◌, ◌||◌, not, arith, refl, sym, ap, subst, ◌∙◌}
use Rattle.lex_semantics.specs.Spec as M
use Rattle.lex_semantics.specs.Active.{serves}
use Rattle.lexspec_actions.specs.Views.{condition_of}
use Rattle.lexspec.specs.RuleViews.{rule_of}
use Rattle.lexspec.specs.Views.{spec_of, conditions_in, rules_in}
use Rattle.lexauto_positions.specs.RuleAutomaton.{is_on, is_active}
use Rattle.lexauto.specs.Sets.{tagged}
use Rattle.lex_semantics.specs.Text.{listed}
use Rattle.lexauto_positions.proofs.Numbers.{number_in, number_out}
use Rattle.lexauto_positions.proofs.Mapped.{item_at, length_map}
use Rattle.lexauto.proofs.starts.start_key.Goals.{then-is_active+in_ok-push, else-is_active}
use Rattle.lexauto.proofs.starts.start_key.Goals as goal

pub loop-i-preserved : goal.loop-i-preserved
loop-i-preserved c =
    let S = spec_of c.args.spec.now in
    let number = c.args.number in
    let line_start = c.args.line_start in
    let i = c.loop-i.i in
    let rules_are : map rule_of c.rules-rule-items.result.now ≡ rules_in S = c.rules-rule-items.ensures.rules in
    let conditions_are : map condition_of c.conditions.result.now ≡ conditions_in S = c.conditions.ensures.conditions in
    let count : length (rules_in S) ≡ length c.rules-rule-items.result.now = sym (ap length rules_are) ∙ length_map rule_of c.rules-rule-items.result.now in
    let some : length (conditions_in S) ≡ length c.conditions.result.now = sym (ap length conditions_are) ∙ length_map condition_of c.conditions.result.now in
    let lt : i < length c.rules-rule-items.result.now = search rules in
    let low : number < length c.conditions.result.now = let r = c.requires in omega (arith, some, r) in
    let here : slice_get (rules_in S) i ≡ Some (rule_of c.rule-item.result) =
    ap (λ (rs : List M.Rule). slice_get rs i) (sym rules_are) ∙ item_at rule_of c.rules-rule-items.result.now i c.rule-item.result lt c.rule-item.is in
    let there : slice_get (conditions_in S) number ≡ Some (condition_of c.index-conditions-number.result) =
    ap (λ (cs : List M.Condition). slice_get cs number) (sym conditions_are) ∙ item_at condition_of c.conditions.result.now number c.index-conditions-number.result low c.index-conditions-number.is in
    let rule = rule_of c.rule-item.result in
    let test : is_active S number line_start i ≡ c.is_active.result =
    ap (is_on S number line_start) here ∙ ap (λ (k : Option M.Condition). serves rule.conditions number k && (not rule.anchored || line_start)) there ∙ sym c.is_active.ensures in
    let below : i < length (rules_in S) = omega (arith, count, lt) in
    elim c.if-is_active.branch [
      | then-is_active+in_ok-push w ↦
          number_in (is_active S number line_start) c.loop-i.numbers.items c.if-is_active.numbers.items i (length (rules_in S)) below (test ∙ w.if-is_active.true) (ap (λ (v : Vec ℕ Global). v.items) w.numbers-is ∙ w.in_ok-push.ensures.items) ∙ c.loop-i.invariant
      | else-is_active w ↦
          number_out (is_active S number line_start) c.loop-i.numbers.items c.if-is_active.numbers.items i (length (rules_in S)) below (test ∙ w.if-is_active.false) (ap (λ (v : Vec ℕ Global). v.items) w.numbers-is) ∙ c.loop-i.invariant
    ]

pub returns : goal.returns
returns c =
    let S = spec_of c.args.spec.now in
    let test = is_active S c.args.number c.args.line_start in
    let rules_are : map rule_of c.rules-rule-items.result.now ≡ rules_in S = c.rules-rule-items.ensures.rules in
    let count : length (rules_in S) ≡ length c.rules-rule-items.result.now = sym (ap length rules_are) ∙ length_map rule_of c.rules-rule-items.result.now in
    let done : length c.rules-rule-items.result.now ≡ c.loop-i.i = search rules in
    let left : length (rules_in S) - c.loop-i.i ≡ 0 = omega (arith, count, done) in
    let none : c.loop-i.numbers.items ++ [] ≡ listed test 0 (length (rules_in S)) = ap (λ (n : ℕ). c.loop-i.numbers.items ++ listed test c.loop-i.i n) (sym left) ∙ c.loop-i.invariant in
    let all : c.deref.result.now ≡ listed test 0 (length (rules_in S)) = c.deref.ensures.value ∙ sym (append_none c.loop-i.numbers.items) ∙ none in
    subst (λ (ns : List ℕ). IfOk c.key_of.result (λ v. v.items ≡ tagged 0 ns)) all c.key_of.ensures
  where
    append_none : (v : List ℕ) → v ++ [] ≡ v
    append_none [] = refl
    append_none (x ∷ v) = ap (λ (t : List ℕ). x ∷ t) (append_none v)
