use Rattle.std.proofs.Common.{◌≡◌, ◌+◌, ◌^◌, ◌<◌, slice_index_or, ap, ◌∙◌, arith}
use Rattle.lexscan.specs.declared.series.BriefToken.{BriefToken}
use Rattle.liblex_calls.proofs.Drawn.{next_fits, next_there}
use Rattle.liblex_calls.proofs.brief.end_of.Goals as goal

abbrev none : BriefToken
none = record { rule = 0; length = 0; condition = 0 }

pub overflow_add-end : goal.overflow_add-end
overflow_add-end c =
    let ts = c.args.tokens.now in
    let i = c.loop-i.i in
    let size : c.from-end.result ≡ (slice_index_or ts i none).length = c.from-end.ensures in
    let fits : c.loop-i.end + (slice_index_or ts i none).length < 2 ^ 64 = next_fits ts c.args.start i c.loop-i.end none c.loop-i-test.true c.loop-i.invariant c.requires in
    grind (arith, size, fits)

pub loop-i-preserved : goal.loop-i-preserved
loop-i-preserved c =
    let ts = c.args.tokens.now in
    let i = c.loop-i.i in
    let size : c.from-end.result ≡ (slice_index_or ts i none).length = c.from-end.ensures in
    ap (λ n. c.loop-i.end + n) size ∙ next_there ts c.args.start i c.loop-i.end none c.loop-i-test.true c.loop-i.invariant
