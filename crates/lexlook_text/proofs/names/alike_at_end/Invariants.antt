use Rattle.std.proofs.Common.{◌≡◌, ◌+◌, length, reverse}
use Rattle.lexlook_text.specs.Names.{alike}
use Rattle.lexlook_text.proofs.names.alike_at_end.Given as goal

-- what was counted, and what the fronts have alike at their ends
abbrev pub invariant-bytes : goal.invariant-bytes
invariant-bytes l = record {
  counted : l.count + alike (reverse l.left) (reverse l.right) ≡ alike (reverse l.word) (reverse l.name);
  back : l.count + length l.left ≡ length l.word;
}

abbrev pub decreases-bytes : goal.decreases-bytes
decreases-bytes l = length l.left
