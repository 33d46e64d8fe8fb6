use Rattle.std.proofs.Common.{length, ◌<◌, ◌++◌, [], refl, sym, ap, ◌∙◌, arith}
use Rattle.std.specs.Prelude.{map}
use Rattle.std.proofs.lemmas.Grind.{common_steps}
use Rattle.std.proofs.lemmas.List.{append-nil}
use Rattle.lex_machine.specs.Views.{statement_of}
use Rattle.lexscan_matching.specs.Plans.{closing}
use Rattle.lexscan_matching.proofs.Planning as Plan
use Rattle.lexscan_matching.proofs.plan.simple_part.Goals as goal
use Rattle.lexscan_matching.proofs.plan.simple_part.Goals.{in-Plain, in_default}

pub returns : goal.returns
returns c =
    let ss = c.args.statements.now in
    let some : 0 < length ss = omega (arith, c.if-count-eq0.false) in (
      sym c.are_simple.ensures ∙ c.if-not-are_simple.false,
      elim c.match-close.branch [
        | in-Plain w ↦ sym (append-nil (map statement_of ss)) ∙ ap (λ l. map statement_of l.now ++ []) (sym w.simple-is) ∙ ap (λ k. map statement_of c.match-close.simple.now ++ closing k) (sym w.in-Plain.is)
        | in_default w ↦ Plan.part_is ss c.match-close.simple.now c.index-statements-count.result c.close_of-close.result some c.index-statements-count.is c.close_of-close.ensures w.in_default.not-Plain (ap (λ l. l.now) w.simple-is)
      ],
    )
