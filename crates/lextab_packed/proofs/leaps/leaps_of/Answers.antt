use Rattle.std.proofs.Common.{◌≡◌, ◌+◌, [], ◌∷◌, ◌++◌, length, get_or, None, sym, ap, ◌∙◌}
use Rattle.std.proofs.lemmas.List.{length-append}
use Rattle.lextab_packed.proofs.Leaping.{leaps_more}
use Rattle.lextab_packed.proofs.leaps.leaps_of.Goals as goal

pub loop-state-preserved : goal.loop-state-preserved
loop-state-preserved c =
    let items : c.push.new.self.items ≡ c.loop-state.leaps.items ++ c.leavers_of.result ∷ [] = c.in_ok-push.ensures.items in (
      ap length items ∙ length-append c.loop-state.leaps.items (c.leavers_of.result ∷ []) ∙ ap (λ n. n + 1) c.loop-state.invariant.0,
      λ s lt l is. leaps_more c.args.rows.now c.loop-state.leaps.items c.loop-state.state c.leavers_of.result c.loop-state.invariant.0 c.loop-state.invariant.1 c.leavers_of.ensures s lt l (ap (λ v. get_or v s None) (sym items) ∙ is),
    )
