use Rattle.std.proofs.Common.{◌≡◌, None, get_or, inl, inr, sym, subst, arith}
use Rattle.std.proofs.lemmas.Bool.{cases_lt}
use Rattle.lexlook_tables.specs.Obstacles.{FirstOf, RuleAfter}
use Rattle.lexlook_tables.proofs.Firsts.{along_some, along_none}
use Rattle.lexlook_tables.proofs.Searches.{among_at}
use Rattle.lexlook_tables.proofs.lines.newlines.rule_after_some.Goals as goal

pub rule_after-requires : goal.rule_after-requires
rule_after-requires g c = c.requires (get_or c.args.found.now c.loop-state.state-index 0) (among_at c.args.found.now c.loop-state.state-index (omega (arith, c.loop-state-test.true)))

pub returns-in-Some : goal.returns-in-Some
returns-in-Some g c = along_some (RuleAfter (g.M.Machine.machine c.args.machine.now)) c.args.found.now c.loop-state.state-index c.in-Some.rule (omega (arith, c.loop-state-test.true)) c.loop-state.invariant
    (subst (FirstOf (RuleAfter (g.M.Machine.machine c.args.machine.now) (get_or c.args.found.now c.loop-state.state-index 0))) c.in-Some.is c.rule_after.ensures)

pub loop-state-preserved : goal.loop-state-preserved
loop-state-preserved g c = λ p lt. elim (cases_lt p c.loop-state.state-index) [
  | inl less ↦ c.loop-state.invariant p less
  | inr more ↦ (let is : p ≡ c.loop-state.state-index = omega (arith, lt, more) in
      subst (λ z. FirstOf (RuleAfter (g.M.Machine.machine c.args.machine.now) (get_or c.args.found.now z 0)) None) (sym is)
      (subst (FirstOf (RuleAfter (g.M.Machine.machine c.args.machine.now) (get_or c.args.found.now c.loop-state.state-index 0))) c.in_default.is c.rule_after.ensures))
]

pub returns : goal.returns
returns g c = along_none (RuleAfter (g.M.Machine.machine c.args.machine.now)) c.args.found.now (λ p lt. c.loop-state.invariant p (omega (arith, lt, c.loop-state-test.false)))
