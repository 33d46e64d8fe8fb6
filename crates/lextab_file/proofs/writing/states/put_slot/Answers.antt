use Rattle.std.proofs.Common.{ap}
use Rattle.std.specs.Int.{w32, to_be_bytes}
use Rattle.std.proofs.lemmas.Result.{err_from_is_err_and}
use Rattle.lextab_file.proofs.Written.{begun_first, appended_then}
use Rattle.lextab_file.proofs.writing.states.put_slot.Goals as goal

pub returns-in_err-put_long-clause-bytes : goal.returns-in_err-put_long-clause-bytes
returns-in_err-put_long-clause-bytes g c =
    let p = err_from_is_err_and c.from_residual.result c.from_residual.ensures.1 in
    rw p.1 (begun_first (λ xs. g.K.Sink.wrote c.args.sink.now xs c.put_long.new.sink) _ (to_be_bytes w32 c.args.check) (to_be_bytes w32 c.args.next) (ap (to_be_bytes w32) c.from.ensures) c.in_err-put_long.ensures.bytes)

pub returns-clause-bytes : goal.returns-clause-bytes
returns-clause-bytes g c = (appended_then g.K.Sink.wrote g.met.K.Sink.wrote_more c.args.sink.now c.put_long.new.sink _ _ (to_be_bytes w32 c.args.check) _ (to_be_bytes w32 c.args.next) _ (ap (to_be_bytes w32) c.from.ensures) (ap (to_be_bytes w32) c.from-2.ensures) c.in_ok-put_long.ensures.bytes c.put_long-2.ensures.bytes)
