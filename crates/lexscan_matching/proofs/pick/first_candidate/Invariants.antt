use Rattle.std.proofs.Common.{◌≡◌, drop}
use Rattle.std.specs.Prelude.{filter_map}
use Rattle.lex_semantics.specs.PlainMachine.{match_of}
use Rattle.lexscan_matching.proofs.pick.first_candidate.Given as goal

abbrev pub invariant-loop-rule : goal.invariant-loop-rule
invariant-loop-rule g l =
    let M = g.M.Machine.machine l.fn.machine in
    record {
      left : filter_map (match_of M l.fn.len) l.fn.rules ≡ filter_map (match_of M l.fn.len) (drop l.rule-index l.fn.rules);
    }
