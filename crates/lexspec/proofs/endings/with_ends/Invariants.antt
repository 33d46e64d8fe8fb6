use Rattle.std.proofs.Common.{◌≡◌, ◌++◌, ◌+◌, map, length}
use Rattle.std.specs.Vec.Iter.{into_iter_items}
use Rattle.lexspec_actions.specs.Views.{condition_of}
use Rattle.lexspec_lines.specs.Declaring.{declared_of}
use Rattle.lexspec.specs.Endings.{conditions_with}
use Rattle.lexspec.specs.EndRules.{end_rule_of}
use Rattle.lexspec.proofs.endings.with_ends.Given as goal

-- the conditions so far, and those that still have no end
abbrev pub invariant-loop-condition : goal.invariant-loop-condition
invariant-loop-condition l = record {
  count : length l.ended.items + length (into_iter_items l.condition-iterator) ≡ length l.fn.conditions.items;
  same : map condition_of l.ended.items ++ conditions_with (length l.ended.items) (map declared_of (into_iter_items l.condition-iterator)) (map end_rule_of l.ends)
      ≡ conditions_with 0 (map declared_of l.fn.conditions.items) (map end_rule_of l.ends);
}
