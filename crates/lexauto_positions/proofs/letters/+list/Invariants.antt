use Rattle.std.proofs.Common.{◌≡◌, ℕ, ◌+◌, ◌-◌, ◌*◌, ◌||◌, drop, map, length}
use Rattle.lex_semantics.specs.Positions.{positions, positions_of}
use Rattle.lexauto_positions.specs.Letters.{reads_at}
use Rattle.lexauto_positions.specs.Plans.{plan_of, plans, tree_in, trees_in}
use Rattle.lexauto_positions.specs.RuleFlow.{copies_read, reads, each_read}
use Rattle.lexauto_positions.proofs.letters.+list.Given as goal

abbrev pub invariant-list_each-loop-part : goal.invariant-list_each-loop-part
invariant-list_each-loop-part l = record {
  count : length l.letters.items + positions_of (trees_in (plans (map plan_of (drop l.part-index l.parts)))) ≡ length l.fn.letters.items + positions_of (trees_in (plans (map plan_of l.parts)));
  told : (b q : ℕ) → (reads_at l.letters.items b q 0 || each_read (trees_in (plans (map plan_of (drop l.part-index l.parts)))) b q (length l.letters.items))
      ≡ (reads_at l.fn.letters.items b q 0 || each_read (trees_in (plans (map plan_of l.parts))) b q (length l.fn.letters.items));
}

abbrev pub invariant-list_copies-loop-k : goal.invariant-list_copies-loop-k
invariant-list_copies-loop-k l = record {
  count : length l.letters.items + (l.count - l.k) * positions (tree_in (plan_of l.inner)) ≡ length l.fn.letters.items + l.count * positions (tree_in (plan_of l.inner));
  told : (b q : ℕ) → (reads_at l.letters.items b q 0 || copies_read (reads (tree_in (plan_of l.inner)) b q) (length l.letters.items) (positions (tree_in (plan_of l.inner))) (l.count - l.k))
      ≡ (reads_at l.fn.letters.items b q 0 || copies_read (reads (tree_in (plan_of l.inner)) b q) (length l.fn.letters.items) (positions (tree_in (plan_of l.inner))) l.count);
}
