use Rattle.std.proofs.Common.{sym, subst}
use Rattle.lex_io.specs.Sink.{Appended}
use Rattle.lexkit.specs.Faults.{with_newline}
use Rattle.lexlook.specs.Failures.{failure_words}
use Rattle.lexlook.proofs.failure.put_words.Goals as goal

pub returns-in-Table-clause-bytes : goal.returns-in-Table-clause-bytes
returns-in-Table-clause-bytes g c = subst (λ f. Appended (λ xs. g.K.Sink.wrote c.args.sink.now xs c.put_all.new.sink) (with_newline (failure_words f)) c.put_all.result) (sym c.in-Table.is) c.put_all.ensures.bytes
