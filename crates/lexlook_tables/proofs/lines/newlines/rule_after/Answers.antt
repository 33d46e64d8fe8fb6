use Rattle.std.proofs.Common.{◌≡◌, inl, inr, sym, ◌∙◌, ap, arith}
use Rattle.std.specs.Prelude.{slice_get}
use Rattle.std.proofs.lemmas.Bool.{cases_lt}
use Rattle.lex_semantics.specs.Machine.{Machine}
use Rattle.lexlook_tables.proofs.Firsts.{after_some, after_none, no_first}
use Rattle.lexlook_tables.proofs.lines.newlines.rule_after.Goals as goal

pub bytes-preserved : goal.bytes-preserved
bytes-preserved g c = λ b lt. elim (cases_lt b c.bytes.byte) [
  | inl less ↦ c.bytes.invariant b less
  | inr more ↦ (let is : b ≡ c.bytes.byte = omega (arith, lt, more) in
      ap (λ z. M.accepts (M.next c.args.state z)) is ∙ ap M.accepts (sym c.step.ensures.state) ∙ no_first (M.accepts c.step.result) (sym c.first_rule.ensures ∙ c.in_default.is))
]
  where
    M : Machine
    M = g.M.Machine.machine c.args.machine.now

pub returns-in-Some : goal.returns-in-Some
returns-in-Some g c = after_some M c.args.state c.bytes.byte c.in-Some.rule ((g.M.Machine.laws c.args.machine.now).ascending (M.next c.args.state c.bytes.byte)) (omega (arith, c.bytes-test.true)) c.bytes.invariant
    (ap (λ z. slice_get (M.accepts z) 0) (sym c.step.ensures.state) ∙ sym c.first_rule.ensures ∙ c.in-Some.is)
  where
    M : Machine
    M = g.M.Machine.machine c.args.machine.now

pub returns : goal.returns
returns g c = after_none (g.M.Machine.machine c.args.machine.now) c.args.state (λ b lt. c.bytes.invariant b (omega (arith, lt, c.bytes-test.false)))
