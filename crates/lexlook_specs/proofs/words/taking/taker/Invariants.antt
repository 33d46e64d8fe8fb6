use Rattle.std.proofs.Common.{◌≡◌, drop}
use Rattle.lexlook_specs.proofs.Takers.{first_kept}
use Rattle.lexlook_specs.proofs.words.taking.taker.Given as goal

abbrev pub invariant-loop-rule : goal.invariant-loop-rule
invariant-loop-rule l = first_kept l.rejects l.rules ≡ first_kept l.rejects (drop l.rule-index l.rules)
