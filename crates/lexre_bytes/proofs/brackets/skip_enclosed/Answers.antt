use Rattle.std.proofs.Common.{◌∙◌, sym, arith}
use Rattle.lexre_bytes.proofs.BracketLaws.{enclosed_then, enclosed_short, enclosed_other}
use Rattle.lexre_bytes.proofs.EndLaws.{cut_at_stop, stop_within}
use Rattle.lexre_bytes.proofs.brackets.skip_enclosed.Goals as goal
use Rattle.lexre_bytes.proofs.brackets.skip_enclosed.Goals.{else-bytes-gt1-via-then-bytes-gt1+else-ends_with, else-bytes-gt1-via-else-bytes-gt1}

pub overflow_sub-text : goal.overflow_sub-text
overflow_sub-text c = omega (arith, stop_within c.args.text.now c.args.stop.now c.requires)

pub returns-then-ends_with : goal.returns-then-ends_with
returns-then-ends_with c =
    enclosed_then c.args.sign c.args.text.now _ _ _ (rw (c.split_at.ensures.front, c.split_at.ensures.back) (cut_at_stop c.args.text.now c.args.stop.now c.requires))
    c.if-bytes-gt1.true (sym c.ends_with.ensures.value ∙ c.if-ends_with.true) c.skip_word.ensures

pub returns-else-bytes-gt1 : goal.returns-else-bytes-gt1
returns-else-bytes-gt1 c = elim c.else-bytes-gt1.branch [
  | else-bytes-gt1-via-then-bytes-gt1+else-ends_with w ↦
      enclosed_other c.args.sign c.args.text.now c.split_at.result.0.now c.split_at.result.1.now (rw (c.split_at.ensures.front, c.split_at.ensures.back) (cut_at_stop c.args.text.now c.args.stop.now c.requires)) (sym w.ends_with.ensures.value ∙ w.if-ends_with.false)
  | else-bytes-gt1-via-else-bytes-gt1 w ↦
      enclosed_short c.args.sign c.args.text.now c.split_at.result.0.now c.split_at.result.1.now (rw (c.split_at.ensures.front, c.split_at.ensures.back) (cut_at_stop c.args.text.now c.args.stop.now c.requires)) (omega arith)
]
