use Rattle.std.proofs.Common.{◌≡◌, ◌++◌, take}
use Rattle.lexlook_check.proofs.findings.add_copies.Given as goal

abbrev pub invariant-loop-copy : goal.invariant-loop-copy
invariant-loop-copy l = l.findings.items ≡ l.fn.findings.items ++ take l.copy-index l.copies
