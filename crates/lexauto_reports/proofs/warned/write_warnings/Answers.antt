use Rattle.std.proofs.Common.{◌++◌, ◌+◌, arith, drop, refl, flat_map}
use Rattle.lexauto_reports.proofs.Parts.{stopped_at, written_at}
use Rattle.lexauto_reports.specs.ReportLines.{warning_line}
use Rattle.lexauto_reports.proofs.warned.write_warnings.Goals as goal

pub returns-in-Err-clause-bytes : goal.returns-in-Err-clause-bytes
returns-in-Err-clause-bytes g c =
    let so_far = c.loop-warning.invariant.0 in
    let some = c.in-Err.ensures.bytes in
    let i = c.loop-warning.warning-index in (
      so_far.0 ++ some.0,
      (some.1.0 ++ flat_map warning_line (drop (i + 1) c.args.warnings.now), stopped_at warning_line _ so_far.0 _ some.0 some.1.0 c.args.warnings.now i _ c.loop-warning-test.true refl so_far.2 some.1.1),
      g.met.K.Sink.wrote_more _ _ _ _ _ so_far.1 some.2,
    )

pub loop-warning-preserved : goal.loop-warning-preserved
loop-warning-preserved g c =
    let so_far = c.loop-warning.invariant.0 in (
      (so_far.0 ++ _, g.met.K.Sink.wrote_more _ _ _ _ _ so_far.1 c.in_default.ensures.bytes, written_at warning_line _ so_far.0 _ c.args.warnings.now c.loop-warning.warning-index _ c.loop-warning-test.true refl so_far.2),
      omega (arith, c.in_default.ensures.failures, c.loop-warning.invariant.1),
    )
