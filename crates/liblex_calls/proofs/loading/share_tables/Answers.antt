use Rattle.std.proofs.Common.{sym, subst}
use Rattle.liblex_calls.specs.Files.{IsMachineOf}
use Rattle.liblex_calls.specs.Loading.{LoadsTable}
use Rattle.liblex_calls.proofs.loading.share_tables.Goals as goal

pub returns-in-Err-clause-shared : goal.returns-in-Err-clause-shared
returns-in-Err-clause-shared c file (r, is, are) = subst (λ a. LoadsTable file c.unload_tables.new.tables a) (sym (c.in-Err.ensures.memory r is)) c.unload_tables.ensures

pub returns-in-Ok-clause-shared : goal.returns-in-Ok-clause-shared
returns-in-Ok-clause-shared c file (r, is, are) = c.hold.ensures file (subst (IsMachineOf file) (sym (c.in-Ok.ensures.found r is)) are)
