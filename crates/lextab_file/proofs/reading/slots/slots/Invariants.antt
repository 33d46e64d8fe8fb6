use Rattle.std.proofs.Common.{◌≡◌, ◌+◌, ◌*◌, ◌/◌, ◌-◌, ◌≤◌, map, min, length}
use Rattle.std.specs.Prelude.{vec_capacity}
use Rattle.lextab_packed.specs.Checks.{bases_of}
use Rattle.lextab_packed.specs.Views.{row_of, slots_of}
use Rattle.lextab_file.specs.Views.{sizes_in}
use Rattle.lextab_file.specs.Seen.{following}
use Rattle.lextab_file.specs.Reading.{many, read_slot}
use Rattle.lextab_file.proofs.Loops.{with_front}
use Rattle.lextab_file.proofs.reading.slots.slots.Given as goal

abbrev pub invariant-loop-i : goal.invariant-loop-i
invariant-loop-i l = record {
  count : length l.checks.items ≡ l.i;
  rest : length l.rest + 8 * l.i ≡ length l.bytes;
  checks_room : min l.counts.slots (length l.bytes / 8) ≤ vec_capacity l.checks;
  nexts_room : min l.counts.slots (length l.bytes / 8) ≤ vec_capacity l.nexts;
  same_length : length l.checks.items ≡ length l.nexts.items;
  read : with_front (slots_of l.checks.items l.nexts.items) (many (read_slot (sizes_in l.counts) (bases_of (map row_of l.rows))) following (l.counts.slots - l.i) l.i l.rest) ≡ many (read_slot (sizes_in l.counts) (bases_of (map row_of l.rows))) following l.counts.slots 0 l.bytes;
}
