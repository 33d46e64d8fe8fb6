use Rattle.std.proofs.Common.{◌≡◌, ◌≤◌, length, drop, true}
use Rattle.std.specs.Prelude.{filter_map}
use Rattle.lex_semantics.specs.PlainMachine.{match_of}
use Rattle.lexscan_matching.specs.Descends.{conditions_of, Passed}
use Rattle.lexscan_matching.proofs.descent.try_rules.Given as goal

abbrev pub invariant-loop-rule : goal.invariant-loop-rule
invariant-loop-rule g l =
    let M = g.M.Machine.machine l.fn.machine in
    record {
      same : l.outlet.sink.ghost_name ≡ l.fn.outlet.sink.ghost_name;
      failures : g.K.Sink.failures l.outlet.sink.now ≡ g.K.Sink.failures l.fn.outlet.sink.now;
      live : l.outlet.live ≡ true;
      inside : l.acting.end ≤ length l.fn.window.bytes;
      passed : Passed M g.K.Sink.wrote l.fn.outlet.sink.now l.outlet.sink.now l.fn.window.bytes l.fn.at (filter_map (match_of M l.fn.len) l.fn.rules) (filter_map (match_of M l.fn.len) (drop l.rule-index l.fn.rules)) (conditions_of l.fn.acting) (conditions_of l.acting);
    }
