use Rattle.std.proofs.Common.{◌∙◌, sym}
use Rattle.lexre_bytes.proofs.ElementLaws.{lone_byte, no_range}
use Rattle.std.proofs.lemmas.Result.{err_from_is_err_and}
use Rattle.lexre_bytes.proofs.EndLaws.{range_known}
use Rattle.lexre_bytes.proofs.UnreadLaws.{bracket_left, byte_left, none_left, range_left}
use Rattle.lexre_bytes.proofs.elements.element_at.Goals as goal
use Rattle.lexre_bytes.proofs.elements.element_at.Goals.{in_default-split_first-via-in-Some-split_first+else-is_range, in_default-split_first-via-in_default-split_first}

pub returns-in_default-split_first-clause-found : goal.returns-in_default-split_first-clause-found
returns-in_default-split_first-clause-found c = elim c.in_default-split_first.branch [
  | in_default-split_first-via-in-Some-split_first+else-is_range w ↦
      lone_byte c.args.text.now c.in_ok-low.rest.now c.in_ok-low.low c.in_default.ensures.found c.in_ok-low.ensures.found (sym w.is_range.ensures ∙ w.if-is_range.false)
  | in_default-split_first-via-in_default-split_first w ↦
      lone_byte c.args.text.now c.in_ok-low.rest.now c.in_ok-low.low c.in_default.ensures.found c.in_ok-low.ensures.found (no_range c.in_ok-low.rest.now w.in_default-split_first.ensures.cases)
]

pub range_at-requires : goal.range_at-requires
range_at-requires c = range_known c.args.text.now c.in_ok-low.rest.now c.in-Some-split_first.after.now c.args.stop.now c.in_ok-low.low _ c.requires c.in_ok-low.ensures.found c.in-Some-split_first.ensures.cases.0

pub returns-in-Some-clause-left : goal.returns-in-Some-clause-left
returns-in-Some-clause-left c = bracket_left c.args.text.now _ (rw c.in-Some.is at c.bracketed_at.ensures.found)

pub returns-in_err-low-clause-left : goal.returns-in_err-low-clause-left
returns-in_err-low-clause-left c =
    let p = err_from_is_err_and c.from_residual.result c.from_residual.ensures.1 in
    rw (p.1, p.2, none_left c.args.text.now c.in_default.ensures.found c.in_err-low.ensures.found) c.in_err-low.ensures.told

pub returns-in-Some-split_first-clause-left : goal.returns-in-Some-split_first-clause-left
returns-in-Some-split_first-clause-left c =
    let low = byte_left c.args.text.now _ c.in_default.ensures.found c.in_ok-low.ensures.found in
    let after = range_left c.in_ok-low.rest.now _ c.in-Some-split_first.after.now (sym c.is_range.ensures ∙ c.if-is_range.true) c.in-Some-split_first.ensures.cases.0 in
    rw (low ∙ after) c.range_at.ensures.left

pub returns-in_default-split_first-clause-left : goal.returns-in_default-split_first-clause-left
returns-in_default-split_first-clause-left c = byte_left c.args.text.now _ c.in_default.ensures.found c.in_ok-low.ensures.found
