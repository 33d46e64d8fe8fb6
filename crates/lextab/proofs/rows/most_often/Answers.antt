use Rattle.std.proofs.Common.{rules, ◌≡◌, length, slice_index, arith, sym, ◌∙◌}
use Rattle.lextab.proofs.Counts.{default_is}
use Rattle.lextab.proofs.rows.most_often.Goals as goal

pub returns : goal.returns
returns c =
    let row = c.args.row.now in
    let all : c.loop-target.target-index ≡ length row = search rules in
    let n = c.requires.counts in
    let v = c.loop-target.invariant in
    default_is (slice_index row) (length row) c.loop-target.best v.there
    (λ j h. let a = n (slice_index row j) in let b = n c.loop-target.best in let m = v.most j (omega arith) in omega (arith, a, b, m))
    (λ j h e. v.least j (omega arith) (n (slice_index row j) ∙ e ∙ sym (n c.loop-target.best)))
