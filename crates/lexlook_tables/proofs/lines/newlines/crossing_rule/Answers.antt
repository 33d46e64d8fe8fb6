use Rattle.std.proofs.Common.{inl, sym, ◌∙◌, subst}
use Rattle.lex_semantics.specs.Machine.{Machine}
use Rattle.lexlook_tables.specs.Obstacles.{FirstOf, RuleBeyond}
use Rattle.lexlook_tables.proofs.Exploring.{if_ok_then}
use Rattle.lexlook_tables.proofs.Standing.{crossing, none_crosses, some_beyond}
use Rattle.lexlook_tables.proofs.lines.newlines.crossing_rule.Goals as goal

pub returns-then-not-goes_on-clause-rule : goal.returns-then-not-goes_on-clause-rule
returns-then-not-goes_on-clause-rule g c = none_crosses (g.M.Machine.machine c.args.machine.now) (g.M.Machine.laws c.args.machine.now) c.args.condition c.args.state (inl (sym c.goes_on.ensures ∙ c.if-not-goes_on.true))

pub returns-clause-rule : goal.returns-clause-rule
returns-clause-rule g c = if_ok_then c.rule_beyond.result (λ rule first. crossing (g.M.Machine.machine c.args.machine.now) c.args.condition c.args.state (c.in_ok-discards_line.ensures.no c.if-branch.false) rule first) c.rule_beyond.ensures

-- some rule is accepted where the machine goes on
pub returns-clause-ends : goal.returns-clause-ends
returns-clause-ends g c = if_ok_then c.rule_beyond.result (λ rule first is. absurd (some_beyond M (g.M.Machine.laws c.args.machine.now) c.args.state (sym c.goes_on.ensures ∙ c.if-not-goes_on.false) (subst (FirstOf (RuleBeyond M c.args.state)) is first))) c.rule_beyond.ensures
  where
    M : Machine
    M = g.M.Machine.machine c.args.machine.now

pub returns-clause-known : goal.returns-clause-known
returns-clause-known g c = if_ok_then c.rule_beyond.result (λ rule first is. absurd (some_beyond M (g.M.Machine.laws c.args.machine.now) c.args.state (sym c.goes_on.ensures ∙ c.if-not-goes_on.false) (subst (FirstOf (RuleBeyond M c.args.state)) is first))) c.rule_beyond.ensures
  where
    M : Machine
    M = g.M.Machine.machine c.args.machine.now
