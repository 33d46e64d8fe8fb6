use Rattle.std.proofs.Common.{[], ◌∷◌, length, map, ap, arith}
use Rattle.std.proofs.lemmas.List.{length-append}
use Rattle.lextab_packed.specs.Checks.{bases_of}
use Rattle.lextab_packed.specs.Views.{row_of, slots_of}
use Rattle.lextab_file.specs.Views.{sizes_in}
use Rattle.lextab_file.specs.Seen.{following}
use Rattle.lextab_file.specs.Reading.{many, read_slot, slot_from}
use Rattle.std.proofs.lemmas.Result.{err_from_is_err_and}
use Rattle.lextab_file.proofs.Columns.{one_slot_more}
use Rattle.lextab_file.proofs.Loops.{goes_on, ends, is_done}
use Rattle.lextab_file.proofs.reading.slots.slots.Goals as goal

pub returns-in_err-check : goal.returns-in_err-check
returns-in_err-check c =
    let p = err_from_is_err_and c.from_residual-in_err-check.result c.from_residual-in_err-check.ensures.1 in
    rw (p.1, p.2) (ends (read_slot (sizes_in c.args.counts) (bases_of (map row_of c.args.rows.now))) following c.in_err-check.field-0.0 (slots_of c.loop-i.checks.items c.loop-i.nexts.items) c.args.counts.slots c.loop-i.i c.loop-i.i c.loop-i.rest.now (many (read_slot (sizes_in c.args.counts) (bases_of (map row_of c.args.rows.now))) following c.args.counts.slots 0 c.args.bytes.now) c.loop-i-test.true c.in_err-check.ensures.gives c.loop-i.invariant.read)

pub loop-i-preserved : goal.loop-i-preserved
loop-i-preserved c =
    let one = c.push_reserved.ensures.items in
    let two = c.push_reserved-in-loop-i.ensures.items in
    let e = one_slot_more c.loop-i.checks.items c.loop-i.nexts.items c.in_ok-check.check c.in_ok-check.next c.loop-i.invariant.same_length in
    record {
      count = omega (arith, ap length one, length-append c.loop-i.checks.items (c.in_ok-check.check ∷ []), c.loop-i.invariant.count);
      rest = omega (arith, c.in_ok-check.ensures.rest, c.loop-i.invariant.rest);
      checks_room = omega (arith, c.push_reserved.ensures.capacity, c.loop-i.invariant.checks_room);
      nexts_room = omega (arith, c.push_reserved-in-loop-i.ensures.capacity, c.loop-i.invariant.nexts_room);
      same_length = omega (arith, ap length one, ap length two, length-append c.loop-i.checks.items (c.in_ok-check.check ∷ []), length-append c.loop-i.nexts.items (c.in_ok-check.next ∷ []), c.loop-i.invariant.same_length);
      read = rw (one, two, e) (goes_on (read_slot (sizes_in c.args.counts) (bases_of (map row_of c.args.rows.now))) following (slots_of c.loop-i.checks.items c.loop-i.nexts.items) c.args.counts.slots c.loop-i.i c.loop-i.i c.loop-i.rest.now (slot_from (c.in_ok-check.check, c.in_ok-check.next)) c.in_ok-check.after.now (many (read_slot (sizes_in c.args.counts) (bases_of (map row_of c.args.rows.now))) following c.args.counts.slots 0 c.args.bytes.now) c.loop-i-test.true c.in_ok-check.ensures.gives c.loop-i.invariant.read);
    }

pub returns : goal.returns
returns c = is_done (read_slot (sizes_in c.args.counts) (bases_of (map row_of c.args.rows.now))) following (slots_of c.loop-i.checks.items c.loop-i.nexts.items) c.args.counts.slots c.loop-i.i c.loop-i.i c.loop-i.rest.now (many (read_slot (sizes_in c.args.counts) (bases_of (map row_of c.args.rows.now))) following c.args.counts.slots 0 c.args.bytes.now) c.loop-i-test.false c.loop-i.invariant.read
