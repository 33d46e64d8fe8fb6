use Rattle.std.proofs.Common.{arith}
use Rattle.lextab_packed.proofs.Quieting.{among_at}
use Rattle.lextab_packed.proofs.flat.Flat.all_only_reject.Goals as goal

pub rule-requires : goal.rule-requires
rule-requires c = c.requires _ (among_at c.args.rules.now c.loop-rule.rule-index (omega (arith, c.loop-rule-test.true)))
