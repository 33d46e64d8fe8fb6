use Rattle.std.proofs.Common.{◌≡◌, drop, map}
use Rattle.lexspec.specs.Endings.{numbers_kept, any_clashes}
use Rattle.lexspec.specs.EndRules.{end_rule_of}
use Rattle.lexspec.proofs.endings.may_join.Given as goal

abbrev pub invariant-loop-other : goal.invariant-loop-other
invariant-loop-other l = any_clashes (map end_rule_of (drop l.other-index l.ends)) (numbers_kept l.end) ≡ any_clashes (map end_rule_of l.ends) (numbers_kept l.end)
