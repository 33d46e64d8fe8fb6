use Rattle.std.proofs.Common.{◌≡◌, ◌-◌}
use Rattle.lextab_file.specs.Seen.{following}
use Rattle.lextab_file.specs.Reading.{many, read_class}
use Rattle.lextab_file.proofs.Loops.{with_front}
use Rattle.lextab_file.proofs.reading.states.class_map.Given as goal

abbrev pub invariant-loop-i : goal.invariant-loop-i
invariant-loop-i l = with_front l.read.items (many (read_class l.classes) following (256 - l.i) l.i l.rest) ≡ many (read_class l.classes) following 256 0 l.bytes
