use Rattle.std.proofs.Common.{◌++◌, ◌+◌, arith, drop, List, ℕ, flat_map}
use Rattle.lexauto_reports.proofs.Parts.{stopped_at, written_at}
use Rattle.std.specs.Borrow.{Bor}
use Rattle.lexauto_reports.proofs.writing.put_all.Goals as goal

pub returns-in-Err-clause-bytes : goal.returns-in-Err-clause-bytes
returns-in-Err-clause-bytes g c =
    let so_far = c.loop-part.invariant.0 in
    let some = c.in-Err.ensures.bytes in
    let i = c.loop-part.part-index in (
      so_far.0 ++ some.0,
      (some.1.0 ++ flat_map (λ (p : Bor (List ℕ)). p.now) (drop (i + 1) c.args.parts.now), stopped_at (λ (p : Bor (List ℕ)). p.now) _ so_far.0 _ some.0 some.1.0 c.args.parts.now i _ c.loop-part-test.true c.as_bytes.ensures.value so_far.2 some.1.1),
      g.met.K.Sink.wrote_more _ _ _ _ _ so_far.1 some.2,
    )

pub loop-part-preserved : goal.loop-part-preserved
loop-part-preserved g c =
    let so_far = c.loop-part.invariant.0 in (
      (so_far.0 ++ _, g.met.K.Sink.wrote_more _ _ _ _ _ so_far.1 c.in_default.ensures.bytes, written_at (λ (p : Bor (List ℕ)). p.now) _ so_far.0 _ c.args.parts.now c.loop-part.part-index _ c.loop-part-test.true c.as_bytes.ensures.value so_far.2),
      omega (arith, c.in_default.ensures.failures, c.loop-part.invariant.1),
    )
