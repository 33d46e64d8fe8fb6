use Rattle.lextab_packed.specs.FlatViews.{tables_of}
use Rattle.lextab_packed.specs.Machines.{table_machine}
use Rattle.lexlook_counts.specs.Counting.{HasCounted}
use Rattle.lexlook_counts.proofs.counting.count_source.Given as goal

-- the turns so far are counted
abbrev pub invariant-steps : goal.invariant-steps
invariant-steps g l = HasCounted g.S.Source.gave g.S.Source.ends g.S.Source.failures (table_machine (tables_of l.fn.machines.scans)) (table_machine (tables_of l.fn.machines.looks)) l.rules l.conditions l.fn.source l.source l.scan
