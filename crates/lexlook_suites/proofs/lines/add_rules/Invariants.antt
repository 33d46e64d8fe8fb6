use Rattle.std.proofs.Common.{◌≡◌, ◌++◌, flat_map}
use Rattle.std.specs.Prelude.{slice_index}
use Rattle.std.specs.List.{range_with_len}
use Rattle.lexlook_suites.specs.CoverLines.{share_line}
use Rattle.lexlook_suites.specs.Shares.{share_of}
use Rattle.lexlook_suites.specs.declared.lines.Subject.TheVariants.{Line}
use Rattle.lexlook_suites.proofs.lines.add_rules.Given as goal

abbrev pub invariant-loop-rule : goal.invariant-loop-rule
invariant-loop-rule l = l.text.items ≡ l.fn.text.items ++ flat_map (λ i. share_line (Line (slice_index l.lines i)) (share_of l.states i) (share_of l.edges i)) (range_with_len 0 l.rule)
