use Rattle.std.proofs.Common.{◌+◌, max, min, ap, ◌∙◌, arith}
use Rattle.lexre_bytes.proofs.WordLaws.{range_is}
use Rattle.lexre_bytes.proofs.sets.ByteSet.range.Goals as goal

pub returns : goal.returns
returns c = range_is c.args.lo c.args.hi c.ones_between-2.result c.ones_between.result c.min.result c.min-2.result c.max.result c.max-2.result
    (omega arith)
    (c.min.ensures ∙ ap (λ k. min k 128) c.from-first.ensures)
    (c.min-2.ensures ∙ ap (λ k. min (k + 1) 128) c.from-end.ensures)
    (c.max.ensures ∙ ap (λ k. max k 128) c.from-first.ensures)
    (c.max-2.ensures ∙ ap (λ k. max (k + 1) 128) c.from-end.ensures)
    c.ones_between-2.ensures c.ones_between.ensures c.ones_between-2.type_inv c.ones_between.type_inv
