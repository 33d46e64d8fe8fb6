use Rattle.std.proofs.Common.{rules, ◌+◌, ◌*◌}
use Rattle.std.specs.Prelude.{cond}
use Rattle.std.proofs.lemmas.List.Sorted.{IsNonDecreasingBy-from_sort_by_key}
use Rattle.lexauto_reports.specs.declared.warned.Warning.{Warning}
use Rattle.lexauto_reports.proofs.Merged.{precedes, in_order}
use Rattle.lexauto_reports.proofs.merging.warnings.Goals as goal

pub returns-clause-in_order : goal.returns-clause-in_order
returns-clause-in_order c =
    let sorted = IsNonDecreasingBy-from_sort_by_key (λ (w : Warning). 2 * w.line + cond w.code 0 1) _ c.in_ok-sort_by_key.ensures.sorted (λ a r q k. search rules) in
    in_order _ (λ i j d le lt. precedes _ _ (sorted i j d le lt))
