use Rattle.std.proofs.Common.{◌≡◌, ◌++◌, sym, ap, ◌∙◌, refl}
use Rattle.std.specs.Prelude.{map}
use Rattle.lex_machine.specs.Views.{statement_of}
use Rattle.lexscan_matching.specs.Plans.{closing, closing_more}
use Rattle.lexscan_matching.proofs.Planning as Plan
use Rattle.lexscan_matching.proofs.plan.plan_after.Goals as goal
use Rattle.lexscan_matching.proofs.plan.plan_after.Goals.{in-Plain, in-More}

pub returns : goal.returns
returns g c state two p w a =
    let M = g.M.Machine.machine c.args.machine.now in
    let close : closing c.in_ok-last.last.close ≡ closing_more c.match-last.more = elim c.match-last.branch [
      | in-Plain w ↦ ap closing w.in-Plain.is ∙ sym (ap closing_more w.more-is)
      | in-More w ↦ ap closing w.in-More.is ∙ sym (ap closing_more w.more-is)
    ] in
    Plan.plan_next M p w c.args.len state c.args.before c.args.two two a _ c.in_ok-next.next (c.in_ok-next.ensures.follows state p w two.others a two.second) c.in_ok-next.ensures.known refl c.requires.rejects.0 c.requires.rejects.1
    refl c.in_ok-last.ensures.0 (c.in_ok-last.ensures.1 ∙ ap (λ l. map statement_of c.in_ok-last.last.statements.now ++ l) close)
