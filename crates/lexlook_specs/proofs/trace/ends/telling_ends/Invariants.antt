use Rattle.std.proofs.Common.{◌≡◌, ◌++◌, ◌+◌, map, length}
use Rattle.std.specs.Vec.Iter.{into_iter_items}
use Rattle.lexspec_actions.specs.Views.{condition_of}
use Rattle.lexlook_specs.specs.Traced.{traced_conditions}
use Rattle.lexlook_specs.proofs.trace.ends.telling_ends.Given as goal

-- the conditions so far, and those that are still to be told
abbrev pub invariant-loop-condition : goal.invariant-loop-condition
invariant-loop-condition l = record {
  count : length l.told.items + length (into_iter_items l.condition-iterator) ≡ length l.fn.conditions.items;
  same : map condition_of l.told.items ++ traced_conditions (length l.told.items) (map condition_of (into_iter_items l.condition-iterator))
      ≡ traced_conditions 0 (map condition_of l.fn.conditions.items);
}
