use Rattle.std.proofs.Common.{◌≡◌, ◌≤◌, length, drop, true}
use Rattle.std.specs.Prelude.{map}
use Rattle.lex_machine.specs.Views.{statement_of}
use Rattle.lexscan_window.specs.Acts.{CarriedTo}
use Rattle.lexscan_window.proofs.act.carry_out.Given as goal

abbrev pub invariant-loop-statement : goal.invariant-loop-statement
invariant-loop-statement g l = record {
  same : l.outlet.sink.ghost_name ≡ l.fn.outlet.sink.ghost_name;
  failures : g.K.Sink.failures l.outlet.sink.now ≡ g.K.Sink.failures l.fn.outlet.sink.now;
  live : l.outlet.live ≡ true;
  inside : l.acting.end ≤ length l.fn.window.bytes;
  carried : CarriedTo g.K.Sink.wrote l.fn.outlet.sink.now l.outlet.sink.now l.fn.window.bytes (map statement_of l.fn.statements) (map statement_of (drop l.statement-index l.fn.statements)) l.fn.acting l.acting;
}
