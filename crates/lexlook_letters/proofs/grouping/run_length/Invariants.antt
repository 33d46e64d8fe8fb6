use Rattle.std.proofs.Common.{◌≡◌, ◌+◌, drop}
use Rattle.lexlook_letters.specs.Text.{joined}
use Rattle.lexlook_letters.proofs.grouping.run_length.Given as goal

abbrev pub invariant-loop-sequence : goal.invariant-loop-sequence
invariant-loop-sequence l =
    (l.count ≡ l.sequence-index + 1) × (l.count + joined l.at l.before (drop l.sequence-index l.more) ≡ 1 + joined l.at l.fn.first l.more)
