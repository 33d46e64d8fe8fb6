use Rattle.std.proofs.Common.{◌+◌, ◌*◌, ◌%◌, ◌^◌, arith}
use Rattle.lextab.proofs.Bits.{bits_are}
use Rattle.lextab.proofs.slots.bits.Goals as goal

pub returns : goal.returns
returns c =
    let f0 = c.type_inv.words c.args.word in
    let f1 = c.type_inv.words (c.args.word + 1) in
    let e0 = c.from-2.ensures in
    let e1 = c.from.ensures in
    bits_are c.args.words.now c.args.word c.args.at c.from-2.result c.from.result (c.from.result * 2 ^ 64 % 2 ^ 128 + c.from-2.result)
    c.requires.at e0 e1 (omega arith) (omega arith)
