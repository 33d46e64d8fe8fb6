use Rattle.std.proofs.Common.{◌≡◌, length}
use Rattle.lexlook_check.specs.CaseRanges.{has_case_range}
use Rattle.lexlook_check.proofs.case_ranges.has_case_range.Given as goal

abbrev pub invariant-bytes : goal.invariant-bytes
invariant-bytes l = has_case_range 0 l.class ≡ has_case_range l.passed l.rest

abbrev pub decreases-bytes : goal.decreases-bytes
decreases-bytes l = length l.rest
