use Rattle.std.proofs.Common.{◌≡◌, ◌++◌, map, take}
use Rattle.lexlook_check.specs.Findings.{notice_finding}
use Rattle.lexlook_check.proofs.findings.add_notices.Given as goal

abbrev pub invariant-loop-notice : goal.invariant-loop-notice
invariant-loop-notice l = l.findings.items ≡ l.fn.findings.items ++ map notice_finding (take l.notice-index l.notices)
