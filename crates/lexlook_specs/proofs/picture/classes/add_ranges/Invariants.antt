use Rattle.std.proofs.Common.{◌≡◌, ◌++◌, flat_map}
use Rattle.std.specs.List.{range_with_len}
use Rattle.lexlook_specs.specs.Classes.{share}
use Rattle.lexlook_specs.specs.Pictures.{quoted}
use Rattle.lexlook_specs.specs.Sets.{set_of}
use Rattle.lexlook_specs.proofs.picture.classes.add_ranges.Given as goal

abbrev pub invariant-loop-byte : goal.invariant-loop-byte
invariant-loop-byte l = l.text.items ≡ l.fn.text.items ++ flat_map (λ b. quoted (share (set_of l.set) b)) (range_with_len 0 l.byte)
