use Rattle.std.proofs.Common.{refl, sym, subst}
use Rattle.liblex_calls.specs.Files.{IsMachineOf}
use Rattle.liblex_calls.specs.Listing.{ListsInto}
use Rattle.liblex_calls.proofs.listing.tokens_loaded.Goals as goal

pub returns-in-Err-clause-listed : goal.returns-in-Err-clause-listed
returns-in-Err-clause-listed c file (r, is, are) = subst (λ a. ListsInto file c.args.input.now c.args.buffer.now c.args.buffer.now 0 0 a) (sym (c.in-Err.ensures.memory r is)) (record { buffer = refl; count_is = refl }, refl)

pub returns-in-Ok-clause-listed : goal.returns-in-Ok-clause-listed
returns-in-Ok-clause-listed c file (r, is, are) = c.tokens_by_rules.ensures file (subst (IsMachineOf file) (sym (c.in-Ok.ensures.found r is)) are)
