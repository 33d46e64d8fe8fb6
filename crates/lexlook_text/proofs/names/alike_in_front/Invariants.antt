use Rattle.std.proofs.Common.{◌≡◌, ◌+◌, length}
use Rattle.lexlook_text.specs.Names.{alike}
use Rattle.lexlook_text.proofs.names.alike_in_front.Given as goal

-- what was counted, and what the rests have alike
abbrev pub invariant-bytes : goal.invariant-bytes
invariant-bytes l = record {
  counted : l.count + alike l.left l.right ≡ alike l.word l.name;
  front : l.count + length l.left ≡ length l.word;
  front_of_name : l.count + length l.right ≡ length l.name;
}

abbrev pub decreases-bytes : goal.decreases-bytes
decreases-bytes l = length l.left
