use Rattle.std.proofs.Common.{◌≡◌, ◌++◌, take, drop}
use Rattle.lexlook_specs.specs.Placing.{takers}
use Rattle.lexlook_specs.proofs.words.taking.taken.Given as goal

abbrev pub invariant-loop-place : goal.invariant-loop-place
invariant-loop-place l = takers l.rejects l.rules ≡ take l.place l.rules ++ takers l.rejects (drop l.place l.rules)
