use Rattle.std.proofs.Common.{◌≡◌, drop}
use Rattle.lex_semantics.specs.Active.{contains}
use Rattle.lexauto.proofs.starts.contains.Given as goal

abbrev pub invariant-loop-other : goal.invariant-loop-other
invariant-loop-other l = contains (drop l.other-index l.numbers) l.number ≡ contains l.numbers l.number
