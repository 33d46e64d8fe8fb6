use Rattle.std.proofs.Common.{◌≡◌, ℕ, ◌+◌, drop, fold}
use Rattle.lexlook_counts.specs.CountLines.{all_given_up}
use Rattle.lexlook_counts.specs.Counts.{capped}
use Rattle.lexlook_counts.proofs.lines.all_given_up.Given as goal

abbrev pub invariant-loop-count : goal.invariant-loop-count
invariant-loop-count l = fold (λ (a n : ℕ). capped (a + n)) l.all (drop l.count-index l.counts) ≡ all_given_up l.counts
