use Rattle.std.proofs.Common.{ℕ, List, drop}
use Rattle.lex_semantics.specs.Machine.{rules_of_machine}
use Rattle.lexlook_counts.specs.Descending.{CountsMore, GoesOnWith, matches_at}
use Rattle.lexlook_counts.proofs.given_up.count_rules.Given as goal

-- those of the rules so far are counted
abbrev pub invariant-loop-rule : goal.invariant-loop-rule
invariant-loop-rule g l =
    let M = g.M.Machine.machine l.fn.machine in
    (done : List ℕ) × CountsMore l.fn.counts.items l.counts.items done
    × GoesOnWith (rules_of_machine M) (matches_at M l.fn.length l.fn.rules) (matches_at M l.fn.length (drop l.rule-index l.fn.rules)) done
