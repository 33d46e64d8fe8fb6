use Rattle.std.proofs.Common.{◌+◌, ◌++◌, take, sym, ap, ◌∙◌}
use Rattle.std.specs.Prelude.{map}
use Rattle.std.proofs.lemmas.List.{append_assoc}
use Rattle.lex_machine.specs.Views.{statement_of}
use Rattle.lexscan_matching.specs.Glanced.{all_said}
use Rattle.lexscan_matching.proofs.plan.do_plan.Goals as goal

pub returns-in-Err-clause-bytes : goal.returns-in-Err-clause-bytes
returns-in-Err-clause-bytes g c =
    let e = c.in-Err.ensures.bytes in
    let then = all_said (map statement_of c.args.plan.said.now) (take (c.args.at + c.args.plan.keep) c.args.text.now) in (
      e.0,
      (e.1.0 ++ then, ap (λ l. l ++ then) e.1.1 ∙ append_assoc e.0 e.1.0 then),
      e.2,
    )

pub returns-in-Err-do_several-clause-bytes : goal.returns-in-Err-do_several-clause-bytes
returns-in-Err-do_several-clause-bytes g c =
    let first = all_said (map statement_of c.args.plan.rejected.now) (take (c.args.at + c.args.plan.rejected_keep) c.args.text.now) in
    let e = c.in-Err-do_several.ensures.bytes in (
      first ++ e.0,
      (e.1.0, ap (λ l. first ++ l) e.1.1 ∙ sym (append_assoc first e.0 e.1.0)),
      g.met.K.Sink.wrote_more _ _ _ first e.0 c.in-Ok.ensures.bytes e.2,
    )
