use Rattle.std.proofs.Common.{◌≡◌, flat_map, map}
use Rattle.std.specs.Prelude.{slice_get}
use Rattle.std.specs.List.{range_with_len}
use Rattle.lexlook_check.specs.Takings.{taking_of, takings_at}
use Rattle.lexlook_check.proofs.takings.takings_of.Given as goal

abbrev pub invariant-loop-rule : goal.invariant-loop-rule
invariant-loop-rule l =
    map taking_of l.takings.items ≡ flat_map (λ i. takings_at l.lines i (slice_get l.seen.taken.rules.items i) (slice_get l.seen.fits.rules.items i)) (range_with_len 0 l.rule)
