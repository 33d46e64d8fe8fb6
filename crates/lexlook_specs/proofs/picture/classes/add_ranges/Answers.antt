use Rattle.std.proofs.Common.{arith}
use Rattle.lexlook_specs.specs.Classes.{share}
use Rattle.lexlook_specs.specs.Pictures.{quoted}
use Rattle.lexlook_specs.specs.Sets.{set_of}
use Rattle.lexlook_specs.proofs.Joining.{more_in_range, ranges_are}
use Rattle.lexlook_specs.proofs.picture.classes.add_ranges.Goals as goal

pub loop-byte-preserved : goal.loop-byte-preserved
loop-byte-preserved c = more_in_range (λ b. quoted (share (set_of c.args.set) b)) _ _ _ c.loop-byte.byte c.loop-byte.invariant c.in_ok-add_share.ensures

pub returns : goal.returns
returns c = ranges_are (set_of c.args.set) _ _ c.loop-byte.byte (omega arith) c.loop-byte.invariant
