use Rattle.std.proofs.Common.{map, sym, ◌∙◌}
use Rattle.lexspec.specs.Endings.{numbers_kept}
use Rattle.lexspec.specs.EndRules.{end_rule_of}
use Rattle.lexspec.proofs.EndingLaws.{single_joined, twice_ended, clash_found, clash_past}
use Rattle.lexspec.proofs.endings.may_join.Goals as goal

pub returns-then-clash-clause-none : goal.returns-then-clash-clause-none
returns-then-clash-clause-none c = λ told count more ordered single.
    let i = c.loop-other.other-index in
    twice_ended (map end_rule_of c.args.ends.now) (end_rule_of c.args.end.now) count more
    (sym c.loop-other.invariant ∙ clash_found c.args.ends.now i c.other-item.result (numbers_kept c.args.end.now) c.loop-other-test.true c.other-item.is (sym c.clash.ensures ∙ c.if-clash.true)) ordered single

pub returns-clause-found : goal.returns-clause-found
returns-clause-found c = λ told count single.
    single_joined (map end_rule_of c.args.ends.now) (end_rule_of c.args.end.now) count
    (sym c.loop-other.invariant ∙ clash_past c.args.ends.now c.loop-other.other-index (numbers_kept c.args.end.now) c.loop-other-test.false) single
