use Rattle.lextab_packed.specs.FlatViews.{tables_of}
use Rattle.lextab_packed.specs.Machines.{table_machine}
use Rattle.lexlook_counts.specs.Places.{HasPlaced}
use Rattle.lexlook_counts.proofs.places.place_source.Given as goal

-- the lines of the tokens so far were written
abbrev pub invariant-steps : goal.invariant-steps
invariant-steps g l = HasPlaced g.S.Source.gave g.S.Source.ends g.S.Source.failures g.K.Sink.wrote g.K.Sink.failures (table_machine (tables_of l.fn.machine)) l.lines l.fn.source l.source l.fn.sink l.sink l.scan
