use Rattle.std.proofs.Common.{◌++◌, ◌-◌, length, drop, ap, sym, ◌∙◌, arith}
use Rattle.std.proofs.lemmas.List.{take_all, length-drop}
use Rattle.lexscan.proofs.Pushing.{drop_over}
use Rattle.lexscan.proofs.push.keep_rest.Goals as goal

pub returns : goal.returns
returns c =
    let old = c.args.waiting.now.items in
    let piece = c.args.piece.now in
    let n = c.args.done in
    let k = c.min-waited.result in
    c.in-Ok.ensures.items ∙ ap (λ l. c.drop_front.new.bytes.items ++ l) (take_all (length piece - (n - k)) (drop (n - k) piece) (omega (arith, length-drop (n - k) piece)))
    ∙ ap (λ l. l ++ drop (n - k) piece) c.drop_front.ensures.bytes ∙ sym (drop_over n k old piece (omega (arith, c.min-waited.ensures, c.len.ensures)))
