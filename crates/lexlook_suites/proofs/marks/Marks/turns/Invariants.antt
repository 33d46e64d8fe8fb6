use Rattle.std.proofs.Common.{drop}
use Rattle.lexlook_suites.specs.Passed.{ArePassed}
use Rattle.lexlook_suites.proofs.Turned.{Turning}
use Rattle.lexlook_suites.proofs.marks.Marks.turns.Given as goal

abbrev pub invariant-loop-token : goal.invariant-loop-token
invariant-loop-token l = record {
  turning : Turning l.dfa.parts l.input l.tokens l.fn.self l.self l.at (drop l.token-index l.tokens);
  passed : ArePassed l.dfa.parts l.self l.input l.memo;
}
