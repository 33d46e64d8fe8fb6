use Rattle.std.proofs.Common.{rules, ◌≡◌, length, replicate}
use Rattle.lextab.proofs.RowByRow.{goes_by_columns}
use Rattle.lextab.proofs.unpacked.unpacked.Goals as goal

pub returns : goal.returns
returns c =
    let count : c.len.result ≡ length c.in_ok-classes.classes.heads.items = search rules in
    let zeros : c.in_ok-vec.field-0.items ≡ replicate c.args.states 0 = search rules in
    goes_by_columns c.args.next.now c.args.states c.in_ok-classes.classes.class_of.items c.in_ok-classes.classes.heads.items c.deref-2.result.now
    c.in_ok-rows.rows.bases.items c.in_ok-rows.rows.check.items c.in_ok-rows.rows.targets.items c.in_ok-vec.field-0.items c.len.result
    c.deref-2.ensures.value count zeros c.requires.rows c.requires.some c.requires.below c.requires.dead c.in_ok-classes.ensures c.in_ok-rows.ensures
