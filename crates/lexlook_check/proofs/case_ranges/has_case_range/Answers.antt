use Rattle.std.proofs.Common.{arith}
use Rattle.std.proofs.lemmas.Grind.{common_steps}
use Rattle.lexlook_check.proofs.case_ranges.has_case_range.Goals as goal

pub bytes-preserved : goal.bytes-preserved
bytes-preserved c = grind (arith, common_steps)
