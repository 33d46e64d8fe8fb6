use Rattle.std.proofs.Common.{◌≡◌, ◌++◌, sym, ap, ◌∙◌, refl}
use Rattle.std.specs.Prelude.{map}
use Rattle.lex_machine.specs.Views.{statement_of}
use Rattle.lexscan_matching.specs.Plans.{closing, closing_more}
use Rattle.lexscan_matching.proofs.Planning as Plan
use Rattle.lexscan_matching.proofs.plan.plan_at.Goals as goal
use Rattle.lexscan_matching.proofs.plan.plan_at.Goals.{in-Plain, in-More}

pub returns : goal.returns
returns g c p w a =
    let M = g.M.Machine.machine c.args.machine.now in
    let close : closing c.in_ok-first.first.close ≡ closing_more c.match-first.more = elim c.match-first.branch [
      | in-Plain w ↦ ap closing w.in-Plain.is ∙ sym (ap closing_more w.more-is)
      | in-More w ↦ ap closing w.in-More.is ∙ sym (ap closing_more w.more-is)
    ] in
    Plan.plan_first M p w c.args.len c.args.state c.args.before c.in_ok-two.two c.in_ok-two.ensures a _ refl refl refl
    c.in_ok-first.ensures.0 (c.in_ok-first.ensures.1 ∙ ap (λ l. map statement_of c.in_ok-first.first.statements.now ++ l) close)
