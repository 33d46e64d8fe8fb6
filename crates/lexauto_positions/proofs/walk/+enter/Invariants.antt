use Rattle.std.proofs.Common.{◌≡◌, ℕ, ◌+◌, ◌-◌, ◌*◌, ◌||◌, false, drop, map}
use Rattle.lex_semantics.specs.Active.{contains}
use Rattle.lex_semantics.specs.Positions.{positions, positions_of}
use Rattle.lexauto_positions.specs.Cursors.{IsCursor, IsFront}
use Rattle.lexauto_positions.specs.Flow.{passes, comes, exits, exits_each, exits_some, enters, enters_each, enters_some}
use Rattle.lexauto_positions.specs.Plans.{plan_of, plans, tree_in, trees_in, AreSized}
use Rattle.lexauto_positions.proofs.walk.+enter.Given as goal

abbrev pub invariant-enter_each-loop-part : goal.invariant-enter_each-loop-part
invariant-enter_each-loop-part l = record {
  sized : AreSized (plans (map plan_of (drop l.part-index l.parts)));
  place : l.after + positions_of (trees_in (plans (map plan_of (drop l.part-index l.parts)))) ≡ l.base + positions_of (trees_in (plans (map plan_of l.parts)));
  cursor : IsCursor l.last l.passed.at l.after;
  front : IsFront l.next.items l.after;
  flow : exits_each (trees_in (plans (map plan_of (drop l.part-index l.parts)))) (contains l.last) l.after l.passed.left ≡ exits_each (trees_in (plans (map plan_of l.parts))) (contains l.last) l.base l.entered;
  told : (q : ℕ) → (contains l.next.items q || enters_each (trees_in (plans (map plan_of (drop l.part-index l.parts)))) (contains l.last) q l.after l.passed.left)
      ≡ (contains l.fn.next.items q || enters_each (trees_in (plans (map plan_of l.parts))) (contains l.last) q l.base l.entered);
}

abbrev pub invariant-enter_some-loop-part : goal.invariant-enter_some-loop-part
invariant-enter_some-loop-part l = record {
  sized : AreSized (plans (map plan_of (drop l.part-index l.parts)));
  place : l.after + positions_of (trees_in (plans (map plan_of (drop l.part-index l.parts)))) ≡ l.base + positions_of (trees_in (plans (map plan_of l.parts)));
  cursor : IsCursor l.last l.cursor l.after;
  front : IsFront l.next.items l.after;
  flow : (l.left || exits_some (trees_in (plans (map plan_of (drop l.part-index l.parts)))) (contains l.last) l.after l.entered) ≡ exits_some (trees_in (plans (map plan_of l.parts))) (contains l.last) l.base l.entered;
  told : (q : ℕ) → (contains l.next.items q || enters_some (trees_in (plans (map plan_of (drop l.part-index l.parts)))) (contains l.last) q l.after l.entered)
      ≡ (contains l.fn.next.items q || enters_some (trees_in (plans (map plan_of l.parts))) (contains l.last) q l.base l.entered);
}

abbrev pub invariant-enter_copies-loop-k : goal.invariant-enter_copies-loop-k
invariant-enter_copies-loop-k l = record {
  place : l.after + (l.fn.copies.count - l.k) * positions (tree_in (plan_of l.inner)) ≡ l.base + l.fn.copies.count * positions (tree_in (plan_of l.inner));
  cursor : IsCursor l.last l.cursor l.after;
  front : IsFront l.next.items l.after;
  flow : passes (exits (tree_in (plan_of l.inner)) (contains l.last)) l.after (positions (tree_in (plan_of l.inner))) l.needed l.out l.left (l.fn.copies.count - l.k)
      ≡ passes (exits (tree_in (plan_of l.inner)) (contains l.last)) l.base (positions (tree_in (plan_of l.inner))) l.fn.copies.least false l.entered l.fn.copies.count;
  told : (q : ℕ) → (contains l.next.items q || comes (enters (tree_in (plan_of l.inner)) (contains l.last) q) (exits (tree_in (plan_of l.inner)) (contains l.last)) l.fn.copies.loops l.after (positions (tree_in (plan_of l.inner))) l.left (l.fn.copies.count - l.k))
      ≡ (contains l.fn.next.items q || comes (enters (tree_in (plan_of l.inner)) (contains l.last) q) (exits (tree_in (plan_of l.inner)) (contains l.last)) l.fn.copies.loops l.base (positions (tree_in (plan_of l.inner))) l.entered l.fn.copies.count);
}
