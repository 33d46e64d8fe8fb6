use Rattle.std.proofs.Common.{map}
use Rattle.lexspec.specs.EndRules.{end_rule_of}
use Rattle.lexspec.proofs.EndingLaws.{first_listed}
use Rattle.lexspec.proofs.endings.end_of.Goals as goal

pub loop-end-init : goal.loop-end-init
loop-end-init c = first_listed (map end_rule_of c.args.ends.now) c.args.number
