use Rattle.std.proofs.Common.{◌≡◌, ◌+◌, Some, None, false}
use Rattle.lexscan_window.specs.Reads.{end_step}
use Rattle.lexscan.proofs.Lasting.{left_over}
use Rattle.lexscan.proofs.SoFar.{Listed}
use Rattle.lexscan.proofs.token.tokens.Given as goal

abbrev pub invariant-turns : goal.invariant-turns
invariant-turns g l =
    record {
      same_machine : l.scanner.machine.now ≡ l.machine;
      going : l.scanner.scan.state.ended ≡ None;
      most : l.scanner.scan.state.reading.max_reads ≡ 18446744073709551615;
      ends : l.scanner.ends.intake.source.now.ends ≡ 0 + end_step false l.scanner.scan.state.reading.at_end;
      listed : Listed (g.M.Machine.machine l.machine) l.input (Some l.scanner.ends.intake.source.now.rest.now) 0 l.scanner.ends.intake.source.now.ends l.fn.list.items l.list.items l.scanner.scan.state;
    }

-- the text's start goes on, or the place does
abbrev pub decreases-turns : goal.decreases-turns
decreases-turns g l = left_over l.scanner.scan.state.reading.max_reads l.scanner.scan.state
