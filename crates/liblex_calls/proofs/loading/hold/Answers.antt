use Rattle.std.proofs.Common.{sym, subst}
use Rattle.liblex_calls.specs.Loading.{AreRulesOf}
use Rattle.liblex_calls.proofs.loading.hold.Goals as goal

pub returns : goal.returns
returns c file is = (c.in-Ok.held.value, c.put.ensures, subst (AreRulesOf file) (sym c.in-Ok.ensures.ok) is)
