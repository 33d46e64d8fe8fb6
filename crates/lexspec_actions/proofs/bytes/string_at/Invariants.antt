use Rattle.std.proofs.Common.{◌≤◌, length}
use Rattle.lexspec_actions.proofs.ByteLemmas.{StringSo}
use Rattle.lexspec_actions.proofs.bytes.string_at.Given as goal

abbrev pub invariant-loop-first : goal.invariant-loop-first
invariant-loop-first l = record { so : StringSo l.text l.bytes.items l.rest; shorter : length l.rest ≤ length l.text }

abbrev pub decreases-loop-first : goal.decreases-loop-first
decreases-loop-first l = length l.rest
