use Rattle.std.proofs.Common.{◌<◌, sym, length, get_or, arith}
use Rattle.std.proofs.lemmas.Result.{err_from_is_err_and}
use Rattle.lextab_packed.specs.Views.{slots_of}
use Rattle.lextab_file.specs.File.{slot_text}
use Rattle.lextab_file.specs.Reading.{slot_from}
use Rattle.lextab_file.proofs.Written.{loop_more, loop_fails}
use Rattle.lextab_file.proofs.Columns.{slots_length, slot_is}
use Rattle.lextab_file.proofs.Written.{loop_done}
use Rattle.lextab_file.proofs.writing.states.put_slots.Goals as goal

pub returns-in_err-put_slot-clause-bytes : goal.returns-in_err-put_slot-clause-bytes
returns-in_err-put_slot-clause-bytes g c =
    let p = err_from_is_err_and c.from_residual.result c.from_residual.ensures.1 in
    let n = slots_length c.args.checks.now c.args.nexts.now in
    let low : c.loop-i.i < length (slots_of c.args.checks.now c.args.nexts.now) = let t = c.loop-i-test.true in omega (arith, n) in
    let is = sym (slot_is c.args.checks.now c.args.nexts.now c.loop-i.i (slot_from (get_or c.args.checks.now c.loop-i.i 0, get_or c.args.nexts.now c.loop-i.i 0)) (omega (arith, c.loop-i-test.true)) (omega (arith, c.loop-i-test.true))) in
    rw p.1 (loop_fails g.K.Sink.wrote g.met.K.Sink.wrote_more slot_text (slots_of c.args.checks.now c.args.nexts.now) c.loop-i.i (slot_from (get_or c.args.checks.now c.loop-i.i 0, get_or c.args.nexts.now c.loop-i.i 0)) low is c.args.sink.now c.loop-i.sink c.put_slot.new.sink c.loop-i.invariant.told c.in_err-put_slot.ensures.bytes)

pub loop-i-preserved : goal.loop-i-preserved
loop-i-preserved g c =
    let n = slots_length c.args.checks.now c.args.nexts.now in
    let low : c.loop-i.i < length (slots_of c.args.checks.now c.args.nexts.now) = let t = c.loop-i-test.true in omega (arith, n) in
    let is = sym (slot_is c.args.checks.now c.args.nexts.now c.loop-i.i (slot_from (get_or c.args.checks.now c.loop-i.i 0, get_or c.args.nexts.now c.loop-i.i 0)) (omega (arith, c.loop-i-test.true)) (omega (arith, c.loop-i-test.true))) in
    record {
      told = loop_more g.K.Sink.wrote g.met.K.Sink.wrote_more slot_text (slots_of c.args.checks.now c.args.nexts.now) c.loop-i.i (slot_from (get_or c.args.checks.now c.loop-i.i 0, get_or c.args.nexts.now c.loop-i.i 0)) low is c.args.sink.now c.loop-i.sink c.put_slot.new.sink c.loop-i.invariant.told c.in_ok-put_slot.ensures.bytes;
      good = let a = c.in_ok-put_slot.ensures.failures in let b = c.loop-i.invariant.good in omega arith;
    }

pub returns-clause-bytes : goal.returns-clause-bytes
returns-clause-bytes g c =
    let n = slots_length c.args.checks.now c.args.nexts.now in
    loop_done g.K.Sink.wrote g.met.K.Sink.wrote_more slot_text (slots_of c.args.checks.now c.args.nexts.now) c.loop-i.i c.args.sink.now c.loop-i.sink (omega (arith, n, c.loop-i-test.false)) c.loop-i.invariant.told
