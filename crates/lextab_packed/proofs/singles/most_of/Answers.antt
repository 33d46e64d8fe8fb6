use Rattle.std.proofs.Common.{◌≡◌, ◌+◌, [], ◌∷◌, ◌++◌, length, sym, ap, subst, ◌∙◌}
use Rattle.std.specs.Prelude.{slice_get}
use Rattle.std.proofs.lemmas.List.{length-append}
use Rattle.lextab_packed.specs.Machines.{table_machine}
use Rattle.lextab_packed.specs.Singles.{TellsSingles}
use Rattle.lextab_packed.proofs.Singling.{told_more}
use Rattle.lextab_packed.proofs.singles.most_of.Goals as goal

pub loop-condition-preserved : goal.loop-condition-preserved
loop-condition-preserved c =
    let M = table_machine c.args.tables.now in
    let items : c.push.new.self.items ≡ c.loop-condition.most.items ++ c.most_in.result ∷ [] = c.in_ok-push.ensures.items in
    let here : TellsSingles M c.args.rows.now (length c.loop-condition.most.items) c.most_in.result = subst (λ k. TellsSingles M c.args.rows.now k c.most_in.result) (sym c.loop-condition.invariant.0) c.most_in.ensures in (
      ap length items ∙ length-append c.loop-condition.most.items (c.most_in.result ∷ []) ∙ ap (λ n. n + 1) c.loop-condition.invariant.0,
      λ k m is. told_more (TellsSingles M c.args.rows.now) c.loop-condition.most.items c.most_in.result c.loop-condition.invariant.1 here k m (ap (λ v. slice_get v k) (sym items) ∙ is),
    )
