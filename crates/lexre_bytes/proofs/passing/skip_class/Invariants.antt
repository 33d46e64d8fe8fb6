use Rattle.std.proofs.Common.{◌≡◌, ◌<◌, ◌≤◌, length}
use Rattle.lexre_bytes.specs.Stops.{stop_of}
use Rattle.lexre_bytes.specs.Unread.{unread, after_part}
use Rattle.lexre_bytes.proofs.PassingLaws.{ClassSo}
use Rattle.lexre_bytes.proofs.passing.skip_class.Given as goal

abbrev pub invariant-loop-first : goal.invariant-loop-first
invariant-loop-first l = record { so : ClassSo l.text l.rest; shorter : length l.rest < length l.text; known : length l.stop ≤ length l.rest → l.stop ≡ stop_of l.rest; left : unread after_part l.text ≡ unread after_part l.rest }

abbrev pub decreases-loop-first : goal.decreases-loop-first
decreases-loop-first l = length l.rest
