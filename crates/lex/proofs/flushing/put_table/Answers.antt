use Rattle.lex.proofs.Flushed.{flushed_after}
use Rattle.lex.proofs.flushing.put_table.Goals as goal

pub returns-clause-bytes : goal.returns-clause-bytes
returns-clause-bytes g c = flushed_after g.K.Sink.wrote _ _ _ _ _ (g.met.K.Sink.wrote_more _ _ _ _ _) c.in_ok-write_tables.ensures.bytes c.flush.ensures.bytes
