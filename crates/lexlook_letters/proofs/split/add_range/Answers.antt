use Rattle.std.proofs.lemmas.Result.{on_ok_weaker}
use Rattle.lexlook_letters.proofs.Runs.{range_added}
use Rattle.lexlook_letters.proofs.split.add_range.Goals as goal

pub returns : goal.returns
returns c =
    on_ok_weaker c.add_run-2.result
    (λ two. range_added _ _ _ c.args.range _ _ _ c.min.ensures c.max.ensures c.min-2.ensures c.in_ok-add_run.ensures two) c.add_run-2.ensures
