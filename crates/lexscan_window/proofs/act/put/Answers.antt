use Rattle.std.proofs.Common.{rules}
use Rattle.lexscan_window.proofs.act.put.Goals as goal

pub returns-in-Err-clause-bytes : goal.returns-in-Err-clause-bytes
returns-in-Err-clause-bytes g c = search rules

pub returns-in-Err-clause-sink : goal.returns-in-Err-clause-sink
returns-in-Err-clause-sink g c = search rules
