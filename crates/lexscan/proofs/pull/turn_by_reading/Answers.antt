use Rattle.std.proofs.Common.{ap, ◌∙◌}
use Rattle.lex_io.specs.SliceSources.{slice_rest, slice_ends}
use Rattle.lexscan.proofs.Pulling as Pull
use Rattle.lexscan.proofs.pull.turn_by_reading.Goals as goal

pub returns : goal.returns
returns g c =
    let M = g.M.Machine.machine c.args.machine.now in
    let k = c.attempt-result.ensures in
    let a = k.attempts in
    let before = c.new.result.source.now in
    let after = c.attempt-result.new.ends.intake.source.now in
    Pull.turned_over M c.args.waiting.now (slice_rest before) (slice_rest after) a.0 a.1 (slice_ends before) (slice_ends after) c.args.scan.now c.attempt-result.new.self c.attempt-result.result
    (ap slice_rest c.new.ensures.value ∙ c.new-source.ensures.bytes) a.2 k.ends a.4 a.5 k.max_reads (Pull.only_these c.attempt-result.result k.read_faults k.write_faults k.too_many k.refused)
    (Pull.has_failed M c.attempt-result.new.ends c.attempt-result.new.self c.attempt-result.result k.next) k.kept
