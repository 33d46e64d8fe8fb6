use Rattle.std.proofs.Common.{◌≡◌, ◌++◌, flat_map}
use Rattle.std.specs.Prelude.{slice_index}
use Rattle.std.specs.List.{range_with_len}
use Rattle.lexlook_counts.specs.CountLines.{count_at, kind_line}
use Rattle.lexlook_counts.specs.GivenUp.{given_where}
use Rattle.lexlook_counts.specs.declared.lines.Subject.TheVariants.{Line}
use Rattle.lexlook_counts.proofs.lines.add_numbered.Given as goal

abbrev pub invariant-loop-rule : goal.invariant-loop-rule
invariant-loop-rule l = l.text.items ≡ l.fn.text.items ++ flat_map (λ i. kind_line l.kind (Line (slice_index l.lines i)) (count_at l.counted.tally.rules.items i) (given_where l.rejecting (slice_index l.counted.given_up.items i))) (range_with_len 0 l.rule)
