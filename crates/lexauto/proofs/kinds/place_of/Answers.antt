use Rattle.std.proofs.Common.{rules, ◌≡◌, ◌<◌, length, sym, ◌∙◌}
use Rattle.lexauto.proofs.ByteKinds.{kind_from}
use Rattle.lexauto.proofs.StepLemmas.{same_flags}
use Rattle.lexauto.proofs.kinds.place_of.Goals as goal

pub returns-then-eq : goal.returns-then-eq
returns-then-eq c =
    let kinds = c.args.kinds.now in
    let place = c.loop-place.place in
    let low : place < length kinds = search rules in
    let same : c.as_slice.result.now ≡ c.args.marks.now = same_flags c.as_slice.result.now c.args.marks.now c.eq.result c.eq.ensures c.if-eq.true in
    (low, (kind_from kinds place c.index-kinds-place.result low c.index-kinds-place.is).0 ∙ sym c.as_slice.ensures.value ∙ same)
