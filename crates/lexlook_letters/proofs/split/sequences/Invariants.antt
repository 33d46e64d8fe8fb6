use Rattle.std.proofs.Common.{[], take}
use Rattle.lexlook_letters.specs.Encoding.{InOneOf, IsEncodingOf}
use Rattle.lexlook_letters.specs.Sequences.{AddsWords}
use Rattle.lexlook_letters.proofs.split.sequences.Given as goal

abbrev pub invariant-loop-range : goal.invariant-loop-range
invariant-loop-range l = AddsWords [] l.found.items (IsEncodingOf (InOneOf (take l.range-index l.ranges)))
