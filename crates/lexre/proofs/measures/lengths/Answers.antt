use Rattle.lexre.proofs.LengthLaws.{passes_by_least, passes_by_greatest, found_unbounded, found_bounded}
use Rattle.lexre.proofs.measures.lengths.Goals as goal

pub returns-in_err-min-clause-none : goal.returns-in_err-min-clause-none
returns-in_err-min-clause-none c = rw c.from_residual.ensures (passes_by_least _ c.requires _ _ c.capped_least.ensures c.try_from.ensures c.in_err-min.ensures.value)

pub returns-in_err-ok-in-Some-clause-none : goal.returns-in_err-ok-in-Some-clause-none
returns-in_err-ok-in-Some-clause-none c =
    rw c.from_residual-in_err-ok-in-Some.ensures (passes_by_greatest _ c.requires _ _ c.in-Some.ensures c.try_from-in-Some.ensures c.in_err-ok-in-Some.ensures.value)

pub returns-in-None-clause-found : goal.returns-in-None-clause-found
returns-in-None-clause-found c = found_unbounded _ c.requires _ _ _ c.capped_least.ensures c.try_from.ensures c.in_ok-min.ensures.value c.in-None.ensures

pub returns-in_ok-ok-in-Some-clause-found : goal.returns-in_ok-ok-in-Some-clause-found
returns-in_ok-ok-in-Some-clause-found c =
    found_bounded _ c.requires _ _ _ c.capped_least.ensures c.try_from.ensures c.in_ok-min.ensures.value
    _ _ _ c.in-Some.ensures c.try_from-in-Some.ensures c.in_ok-ok-in-Some.ensures.value
