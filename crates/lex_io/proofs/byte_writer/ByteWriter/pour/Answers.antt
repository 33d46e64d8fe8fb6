use Rattle.std.proofs.Common.{◌++◌, take, sym, ap, ◌∙◌, take-append-drop}
use Rattle.lex_io.specs.ByteWriters.{bytes_held}
use Rattle.lex_io.proofs.byte_writer.ByteWriter.pour.Goals as goal

pub returns-clause-rest : goal.returns-clause-rest
returns-clause-rest g c =
    let n = c.write_out-written.result.0 in
    let all = bytes_held c.args.self.now in
    (take n all, sym (take-append-drop n all) ∙ ap (λ l. take n all ++ l) (sym c.drop_front.ensures.bytes))
