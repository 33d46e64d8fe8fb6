use Rattle.std.proofs.Common.{rules, ◌≡◌, ◌≤◌, ◌+◌, ◌||◌, ℕ, Bool, false, List, [], length, map, drop, arith, sym, subst, ◌∙◌}
use Rattle.std.proofs.lemmas.Grind.{common_steps}
use Rattle.lex_semantics.specs.Active.{contains}
use Rattle.lex_semantics.specs.Spec.{Rule}
use Rattle.lex_semantics.specs.Subsets.{all_positions}
use Rattle.lex_semantics.specs.Text.{flag}
use Rattle.lexauto_positions.specs.Cursors.{IsFront}
use Rattle.lexauto_positions.specs.Laid.{shape_of}
use Rattle.lexauto_positions.specs.RuleFlow.{rules_enter}
use Rattle.lexauto_positions.proofs.AlikeLaws.{drop_none}
use Rattle.lexauto_positions.proofs.Copies.{or_false}
use Rattle.lexauto_positions.proofs.LaidLaws.{front_listed}
use Rattle.lexauto_positions.proofs.rules.enter_rules.Goals as goal

pub returns : goal.returns
returns c =
    let all = map shape_of c.args.rules.now in
    let i = c.loop-i.i in
    let base = c.loop-i.base in
    let next = c.loop-i.next.items in
    let f : ℕ → Bool = λ q. rules_enter all (flag c.args.on.now) (λ _. false) q 0 0 in
    let done : length c.args.rules.now ≤ i = search rules in
    let none : map shape_of (drop i c.args.rules.now) ≡ [] = drop_none shape_of c.args.rules.now i done in
    let place : base + all_positions [] ≡ all_positions all = subst (λ (rs : List Rule). base + all_positions rs ≡ all_positions all) none c.loop-i.invariant.place in
    let end : base ≡ all_positions all = omega (arith, place) in
    let told : (q : ℕ) → contains next q ≡ f q = λ q.
    sym (or_false (contains next q)) ∙ subst (λ (rs : List Rule). (contains next q || rules_enter rs (flag c.args.on.now) (λ _. false) q i base) ≡ f q) none (c.loop-i.invariant.told q) in
    front_listed next (all_positions all) f (subst (λ (n : ℕ). IsFront next n) end c.loop-i.invariant.front) told

pub loop-i-preserved : goal.loop-i-preserved
loop-i-preserved c = record {
  sized = grind (arith, common_steps);
  place = grind (arith, common_steps, c.loop-i.invariant.place);
  front = grind (arith, common_steps);
  told = λ q. grind (arith, common_steps, c.loop-i.invariant.told q);
}

pub enter_rule-requires-clause-few : goal.enter_rule-requires-clause-few
enter_rule-requires-clause-few = grind (arith, common_steps)

pub enter_rule-requires-clause-sized : goal.enter_rule-requires-clause-sized
enter_rule-requires-clause-sized = grind (arith, common_steps)

pub loop-i-init : goal.loop-i-init
loop-i-init = grind (arith, common_steps)

pub overflow_add-base : goal.overflow_add-base
overflow_add-base = grind (arith, common_steps)

pub size-base-requires : goal.size-base-requires
size-base-requires = grind (arith, common_steps)
