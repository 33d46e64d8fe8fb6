use Rattle.std.proofs.Common.{refl, sym, subst}
use Rattle.liblex_calls.specs.Files.{IsMachineOf}
use Rattle.liblex_calls.specs.Scanning.{ScansInto}
use Rattle.liblex_calls.proofs.scanning.scan_loaded.Goals as goal

pub returns-in-Err-clause-scanned : goal.returns-in-Err-clause-scanned
returns-in-Err-clause-scanned c file (r, is, are) = subst (λ a. ScansInto file c.args.input.now c.args.buffer.now c.args.buffer.now 0 0 a) (sym (c.in-Err.ensures.memory r is)) (record { buffer = refl; count_is = refl }, refl)

pub returns-in-Ok-clause-scanned : goal.returns-in-Ok-clause-scanned
returns-in-Ok-clause-scanned c file (r, is, are) = c.scan_by_rules.ensures file (subst (IsMachineOf file) (sym (c.in-Ok.ensures.found r is)) are)
