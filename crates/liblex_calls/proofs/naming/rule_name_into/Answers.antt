use Rattle.std.proofs.Common.{refl, sym, subst}
use Rattle.liblex_calls.specs.Files.{IsMachineOf}
use Rattle.liblex_calls.specs.NamedRules.{NamesRule}
use Rattle.liblex_calls.proofs.naming.rule_name_into.Goals as goal

pub returns-in-Err-clause-named : goal.returns-in-Err-clause-named
returns-in-Err-clause-named c file (r, is, are) = subst (λ a. NamesRule file c.args.rule c.args.buffer.now c.args.buffer.now 0 a) (sym (c.in-Err.ensures.memory r is)) (record { buffer = refl; count_is = refl })

pub returns-in-Ok-clause-named : goal.returns-in-Ok-clause-named
returns-in-Ok-clause-named c file (r, is, are) = c.name_by_rules.ensures file (subst (IsMachineOf file) (sym (c.in-Ok.ensures.found r is)) are)
