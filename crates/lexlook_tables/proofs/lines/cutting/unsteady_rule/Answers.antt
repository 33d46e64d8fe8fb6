use Rattle.std.proofs.Common.{ap, sym, ◌∙◌, arith}
use Rattle.lexlook_tables.specs.Lines.{is_steady}
use Rattle.lexlook_tables.proofs.Standing.{unsteady_some, unsteady_none}
use Rattle.lexlook_tables.proofs.lines.cutting.unsteady_rule.Goals as goal

pub returns-then-not-is_steady : goal.returns-then-not-is_steady
returns-then-not-is_steady g c = unsteady_some (g.M.Machine.machine c.args.machine.now) c.loop-rule.rule (omega (arith, c.loop-rule-test.true, c.requires)) (ap is_steady (sym c.rule.ensures.statements) ∙ sym c.is_steady.ensures ∙ c.if-not-is_steady.true) c.loop-rule.invariant

pub returns : goal.returns
returns g c = unsteady_none (g.M.Machine.machine c.args.machine.now) (λ i lt. c.loop-rule.invariant i (omega (arith, lt, c.loop-rule-test.false, c.requires)))
