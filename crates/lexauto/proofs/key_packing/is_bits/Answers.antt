use Rattle.std.proofs.Common.{rules, ◌≡◌, ◌<◌, length}
use Rattle.std.specs.Prelude.{slice_index}
use Rattle.lexauto.proofs.PositionBits.{bits_increase}
use Rattle.lexauto.proofs.key_packing.is_bits.Goals as goal

pub returns-then-not-is_empty : goal.returns-then-not-is_empty
returns-then-not-is_empty c = λ h.
    let kept = c.args.kept.now in
    let some : 0 < length kept = search rules in
    let first : slice_index kept 0 ≡ 0 = search rules in
    bits_increase kept some first
