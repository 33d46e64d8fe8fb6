use Rattle.std.proofs.Common.{arith}
use Rattle.lextab_file.proofs.Columns.{slots_length}
use Rattle.lextab_file.proofs.writing.slot_count.Goals as goal

pub returns : goal.returns
returns c = omega (arith, slots_length c.args.parts.now.checks.items c.args.parts.now.nexts.items)
