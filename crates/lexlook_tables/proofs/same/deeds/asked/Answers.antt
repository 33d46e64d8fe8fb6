use Rattle.lexlook_tables.proofs.Asked.{among_at}
use Rattle.std.proofs.Common.{arith}
use Rattle.lexlook_tables.proofs.same.deeds.asked.Goals as goal

pub may_yield-requires : goal.may_yield-requires
may_yield-requires g c = c.requires.rules _ (among_at c.args.rules.now c.loop-rule.rule-index (omega (arith, c.loop-rule-test.true)))
