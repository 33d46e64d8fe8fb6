use Rattle.std.proofs.Common.{◌≡◌, ◌<◌, drop}
use Rattle.lex_semantics.specs.Machine.{state_after, walk}
use Rattle.lexlook_tables.proofs.same.deeds.state_after.Given as goal

abbrev pub invariant-loop-byte : goal.invariant-loop-byte
invariant-loop-byte g l = record {
  known : l.state < g.M.Machine.states l.machine;
  walked : walk (g.M.Machine.machine l.machine) l.state (drop l.byte-index l.text) ≡ state_after (g.M.Machine.machine l.machine) l.condition l.line_start l.text;
}
