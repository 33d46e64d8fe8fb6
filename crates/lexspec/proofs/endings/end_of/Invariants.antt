use Rattle.std.proofs.Common.{◌≡◌, drop, map}
use Rattle.lexspec.specs.Files.{end_in}
use Rattle.lexspec.specs.Endings.{listed_end}
use Rattle.lexspec.specs.EndRules.{end_rule_of}
use Rattle.lexspec.proofs.endings.end_of.Given as goal

abbrev pub invariant-loop-end : goal.invariant-loop-end
invariant-loop-end l = listed_end (map end_rule_of l.ends) (map end_rule_of (drop l.end-index l.ends)) l.number ≡ end_in (map end_rule_of l.ends) l.number
