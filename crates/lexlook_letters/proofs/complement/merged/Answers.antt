use Rattle.std.proofs.lemmas.Result.{IfOk-weaker}
use Rattle.lexlook_letters.proofs.Remainders.{others_of_others}
use Rattle.lexlook_letters.proofs.complement.merged.Goals as goal

pub returns-clause-points : goal.returns-clause-points
returns-clause-points c =
    IfOk-weaker c.others-2.result _ _ (λ found two. others_of_others c.args.ranges.now _ _ found.items c.as_slice.ensures.value c.in_ok-left.ensures.points two) c.others-2.ensures.points
