use Rattle.std.proofs.Common.{sym, subst}
use Rattle.liblex_calls.specs.Files.{IsMachineOf}
use Rattle.liblex_calls.specs.Streams.{OpensStream}
use Rattle.liblex_calls.proofs.streaming.open_stream_loaded.Goals as goal

pub returns-in-Err-clause-opened : goal.returns-in-Err-clause-opened
returns-in-Err-clause-opened c file (r, is, are) = subst (λ a. OpensStream file c.args.lines c.close_stream.new.stream a) (sym (c.in-Err.ensures.memory r is)) c.close_stream.ensures

pub returns-in-Ok-clause-opened : goal.returns-in-Ok-clause-opened
returns-in-Ok-clause-opened c file (r, is, are) = c.open_with.ensures file (subst (IsMachineOf file) (sym (c.in-Ok.ensures.found r is)) are)
