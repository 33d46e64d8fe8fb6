use Rattle.std.proofs.Common.{◌≡◌, drop, map}
use Rattle.lexspec.specs.Endings.{unlisted_end}
use Rattle.lexspec.specs.EndRules.{end_rule_of}
use Rattle.lexspec.proofs.endings.unlisted_end.Given as goal

abbrev pub invariant-loop-end : goal.invariant-loop-end
invariant-loop-end l = unlisted_end (map end_rule_of (drop l.end-index l.ends)) ≡ unlisted_end (map end_rule_of l.ends)
