use Rattle.std.proofs.Common.{◌≡◌, ◌<◌, ◌≤◌, ◌^◌, suc, true, false, ℕ, List, Option, length}
use Rattle.lex_semantics.specs.ByteSets.{ByteSet, HasByte}
use Rattle.lexre_bytes.specs.ClassSets.{members_at}
use Rattle.lexre_bytes.specs.Stops.{stop_of}
use Rattle.lexre_bytes.proofs.ClassLaws.{onto}
use Rattle.lexre_bytes.proofs.expressions.members_at.Given as goal

-- the elements so far, with those that come
abbrev pub invariant-loop-stop : goal.invariant-loop-stop
invariant-loop-stop l = record {
  so_far : ◌≡◌ {A = Option (ByteSet × List ℕ)} (members_at (suc (length l.text)) true l.text) (onto l.set (members_at (suc (length l.rest)) false l.rest));
  is_set : l.set < 2 ^ 256;
  some : HasByte l.set;
  known : length l.stop ≤ length l.rest → l.stop ≡ stop_of l.rest;
}

abbrev pub decreases-loop-stop : goal.decreases-loop-stop
decreases-loop-stop l = length l.rest
