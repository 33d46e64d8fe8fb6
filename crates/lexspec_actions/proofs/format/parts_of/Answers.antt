use Rattle.std.proofs.Common.{arith}
use Rattle.std.proofs.lemmas.Result.{err_from_is_err_and}
use Rattle.lexspec_actions.proofs.PartLemmas.{joined_first, part_refused, part_taken, part_ended}
use Rattle.lexre_bytes.proofs.MemoryLaws.{unless_memory}
use Rattle.lexspec_actions.specs.Views.{format_view}
use Rattle.lexspec_actions.proofs.format.parts_of.Goals as goal

pub loop-byte-init : goal.loop-byte-init
loop-byte-init c = rw c.new.ensures.items (joined_first _)

pub returns-in_err-take-clause-spelled : goal.returns-in_err-take-clause-spelled
returns-in_err-take-clause-spelled c =
    let p = err_from_is_err_and c.from_residual.result c.from_residual.ensures.1 in
    rw (p.1, p.2) (unless_memory _ _ _ (part_refused (format_view c.loop-byte.format) c.args.text.now c.loop-byte.byte-index (omega arith) c.loop-byte.invariant) c.in_err-take.ensures.err)

pub loop-byte-preserved : goal.loop-byte-preserved
loop-byte-preserved c =
    part_taken (format_view c.loop-byte.format) (format_view c.take.new.self) c.args.text.now c.loop-byte.byte-index c.loop-byte-test.true c.loop-byte.invariant c.in_ok-take.ensures.ok

pub returns-clause-spelled : goal.returns-clause-spelled
returns-clause-spelled c =
    rw (← part_ended (format_view c.loop-byte.format) c.args.text.now c.loop-byte.byte-index c.loop-byte-test.false c.loop-byte.invariant) c.finish.ensures.spelled
