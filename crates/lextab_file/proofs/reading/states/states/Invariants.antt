use Rattle.std.proofs.Common.{◌≡◌, ◌-◌, map, length}
use Rattle.lextab_packed.specs.Views.{row_of}
use Rattle.lextab_file.specs.Views.{sizes_in}
use Rattle.lextab_file.specs.Seen.{following}
use Rattle.lextab_file.specs.Reading.{many, read_row}
use Rattle.lextab_file.proofs.Loops.{with_front}
use Rattle.lextab_file.proofs.reading.states.states.Given as goal

abbrev pub invariant-loop-i : goal.invariant-loop-i
invariant-loop-i l = record { length : length l.read.items ≡ l.i; read : with_front (map row_of l.read.items) (many (read_row (sizes_in l.counts) l.rejects) following (l.counts.states - l.i) l.i l.rest) ≡ many (read_row (sizes_in l.counts) l.rejects) following l.counts.states 0 l.bytes }
