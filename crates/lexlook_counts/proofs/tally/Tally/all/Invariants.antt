use Rattle.std.proofs.Common.{◌≡◌, drop, fold}
use Rattle.lexlook_counts.specs.CountLines.{all_counts, together}
use Rattle.lexlook_counts.proofs.tally.Tally.all.Given as goal

abbrev pub invariant-loop-count : goal.invariant-loop-count
invariant-loop-count l = fold together l.all (drop l.count-index l.count-items) ≡ all_counts l.self
