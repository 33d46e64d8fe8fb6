use Rattle.std.proofs.Common.{◌≡◌, ◌-◌, ◌≤◌, map}
use Rattle.lex_machine.specs.Views.{statement_of}
use Rattle.lextab_file.specs.Views.{seen_of}
use Rattle.lextab_file.specs.Seen.{seen_after, unseen}
use Rattle.lextab_file.specs.Reading.{many, read_statement}
use Rattle.lextab_file.proofs.Loops.{with_front}
use Rattle.lextab_file.proofs.reading.actions.statements.Given as goal

abbrev pub invariant-loop-i : goal.invariant-loop-i
invariant-loop-i l = record { low : l.before.literal ≤ 4096; left : l.before.left ≡ l.count - l.i; read : with_front (map statement_of l.read.items) (many (read_statement l.conditions) seen_after (l.count - l.i) (seen_of l.before) l.rest) ≡ many (read_statement l.conditions) seen_after l.count (unseen l.stack l.count) l.bytes }
