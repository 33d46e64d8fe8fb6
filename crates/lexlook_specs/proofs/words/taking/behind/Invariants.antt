use Rattle.std.proofs.Common.{◌≡◌, drop}
use Rattle.lexlook_specs.specs.Placing.{behind}
use Rattle.lexlook_specs.proofs.words.taking.behind.Given as goal

abbrev pub invariant-loop-place : goal.invariant-loop-place
invariant-loop-place l = behind l.rejects l.rules l.rule ≡ behind l.rejects (drop l.place l.rules) l.rule
