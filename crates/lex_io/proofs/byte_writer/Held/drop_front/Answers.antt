use Rattle.std.proofs.Common.{◌≡◌, ◌+◌, ◌-◌, take, drop, sym, ap, ◌∙◌, arith, length-drop}
use Rattle.std.proofs.Math.Seq.{paste}
use Rattle.std.proofs.lemmas.List.{drop-take}
use Rattle.std.proofs.lemmas.List.Edits.{take-paste}
use Rattle.lex_io.proofs.byte_writer.Held.drop_front.Goals as goal

pub returns-clause-bytes : goal.returns-clause-bytes
returns-clause-bytes c =
    let all = c.args.self.now.buffer.items in
    let n = c.args.count in
    let left = c.args.self.now.end - n in
    let front : left ≡ 0 + left = omega arith in
    let whole : n + left ≡ c.args.self.now.end = omega arith in
    ap (take left) c.copy_within.ensures.items ∙ ap (λ k. take k (paste all 0 (drop n all) left)) front
    ∙ take-paste all 0 (drop n all) left (omega arith) (omega (arith, length-drop n all))
    ∙ sym (drop-take n left all) ∙ ap (λ k. drop n (take k all)) whole
