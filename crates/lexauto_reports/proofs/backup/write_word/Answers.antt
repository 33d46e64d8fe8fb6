use Rattle.std.proofs.Common.{◌++◌, ◌+◌, arith, drop, refl, flat_map}
use Rattle.lexauto_reports.proofs.Parts.{stopped_at, written_at}
use Rattle.lexauto_reports.specs.ReportLines.{shown}
use Rattle.lexauto_reports.proofs.backup.write_word.Goals as goal

pub returns-in-Err-clause-bytes : goal.returns-in-Err-clause-bytes
returns-in-Err-clause-bytes g c =
    let so_far = c.loop-byte.invariant.0 in
    let some = c.in-Err.ensures.bytes in
    let i = c.loop-byte.byte-index in (
      so_far.0 ++ some.0,
      (some.1.0 ++ flat_map shown (drop (i + 1) c.args.word.now), stopped_at shown _ so_far.0 _ some.0 some.1.0 c.args.word.now i _ c.loop-byte-test.true refl so_far.2 some.1.1),
      g.met.K.Sink.wrote_more _ _ _ _ _ so_far.1 some.2,
    )

pub loop-byte-preserved : goal.loop-byte-preserved
loop-byte-preserved g c =
    let so_far = c.loop-byte.invariant.0 in (
      (so_far.0 ++ _, g.met.K.Sink.wrote_more _ _ _ _ _ so_far.1 c.in_default.ensures.bytes, written_at shown _ so_far.0 _ c.args.word.now c.loop-byte.byte-index _ c.loop-byte-test.true refl so_far.2),
      omega (arith, c.in_default.ensures.failures, c.loop-byte.invariant.1),
    )
