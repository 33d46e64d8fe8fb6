use Rattle.std.proofs.Common.{subst, arith}
use Rattle.liblex_calls.specs.Buffers.{HandedOut, FitsInto}
use Rattle.liblex_calls.specs.Scanning.{TellsScan}
use Rattle.lex_machine.proofs.Growing.{is_text_from}
use Rattle.liblex_calls.proofs.Telling.{ended_out, stopped_out}
use Rattle.liblex_calls.proofs.scanning.scan_into.Goals as goal

pub returns-in-Ok : goal.returns-in-Ok
returns-in-Ok c =
    let bytes = c.as_slice.ensures.value in
    ended_out c.args.file.now c.args.input.now c.args.buffer.now c.hand_out.new.buffer c.hand_out.new.count c.new-source.result c.scan_table.new.source c.new-sink.result c.scan_table.new.sink
    c.new-source.ensures.bytes c.new-sink.ensures.bytes (is_text_from c.args.input.now (λ k. omega (arith, c.type_inv.input k))) c.in-Ok.end c.hand_out.result c.in-Ok.ensures.told
    (subst (λ l. HandedOut l c.args.buffer.now c.hand_out.new.buffer c.hand_out.new.count) bytes c.hand_out.ensures.handed)
    (subst (λ l. FitsInto l c.args.buffer.now c.hand_out.result) bytes c.hand_out.ensures.fits)

pub returns : goal.returns
returns c =
    stopped_out c.args.file.now c.args.input.now c.args.buffer.now c.tell.new.buffer c.tell.new.count c.new-source.result c.scan_table.new.source c.new-sink.result c.scan_table.new.sink
    c.new-source.ensures.bytes c.new-sink.ensures.bytes (is_text_from c.args.input.now (λ k. omega (arith, c.type_inv.input k))) c.in-Err.error c.tell.result c.in-Err.ensures.told
    (subst (λ l. TellsScan c.in-Err.error l c.args.buffer.now c.tell.new.buffer c.tell.new.count c.tell.result) c.as_slice-in-Err.ensures.value c.tell.ensures)
