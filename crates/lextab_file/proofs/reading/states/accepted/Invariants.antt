use Rattle.std.proofs.Common.{◌≡◌, ◌-◌}
use Rattle.lextab_file.specs.Reading.{many, read_accepted, above}
use Rattle.lextab_file.proofs.Loops.{with_front}
use Rattle.lextab_file.proofs.reading.states.accepted.Given as goal

abbrev pub invariant-loop-i : goal.invariant-loop-i
invariant-loop-i l = with_front l.read.items (many (read_accepted l.rules) above (l.count - l.i) l.low l.rest) ≡ many (read_accepted l.rules) above l.count 0 l.bytes
