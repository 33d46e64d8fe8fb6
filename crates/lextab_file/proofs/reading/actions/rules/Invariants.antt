use Rattle.std.proofs.Common.{◌≡◌, ◌-◌, map}
use Rattle.lextab_packed.specs.Views.{table_rule_of}
use Rattle.lextab_file.specs.Seen.{following}
use Rattle.lextab_file.specs.Reading.{many, read_rule}
use Rattle.lextab_file.proofs.Loops.{with_front}
use Rattle.lextab_file.proofs.reading.actions.rules.Given as goal

abbrev pub invariant-loop-i : goal.invariant-loop-i
invariant-loop-i l = with_front (map table_rule_of l.read.items) (many (λ i. read_rule l.conditions l.stack) following (l.count - l.i) l.i l.rest) ≡ many (λ i. read_rule l.conditions l.stack) following l.count 0 l.bytes
