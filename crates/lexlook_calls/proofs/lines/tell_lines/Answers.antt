use Rattle.lextab_packed.specs.Machines.{table_machine}
use Rattle.lexlook_calls.specs.Sides.{read_as}
use Rattle.lexlook_calls.proofs.Cutting.{told_of_file}
use Rattle.lexlook_calls.proofs.lines.tell_lines.Goals as goal

pub returns-in-Ok-clause-told : goal.returns-in-Ok-clause-told
returns-in-Ok-clause-told g c = told_of_file g.K.Sink.wrote c.args.options c.args.bytes.now (table_machine c.in-Ok.side.tables) (read_as c.in-Ok.side.spec) c.args.sink.now c.tell_cuts.new.sink c.tell_cuts.result c.in-Ok.ensures.stands c.tell_cuts.ensures.told
