use Rattle.std.proofs.Common.{◌≡◌, drop}
use Rattle.lexre.specs.Reading.{is_among}
use Rattle.lexre.proofs.name_cache.is_among.Given as goal

abbrev pub invariant-loop-known : goal.invariant-loop-known
invariant-loop-known l = is_among l.name (drop l.known-index l.names) ≡ is_among l.name l.names
