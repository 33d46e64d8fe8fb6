use Rattle.std.proofs.Common.{◌≡◌, ℕ, ◌+◌, ◌-◌, ◌*◌, ◌≤◌, length, []}
use Rattle.std.specs.FinMap.{get}
use Rattle.lexre.specs.Counting.{state_nodes}
use Rattle.lexre_bytes.specs.Lexical.{symbol_at}
use Rattle.lexre.specs.Names.{AreKnown, open_of, trees_of}
use Rattle.lexre.specs.Reading.{lowered}
use Rattle.lexre.specs.Running.{state, fresh}
use Rattle.lexre.specs.Soundness.{IsSoundState}
use Rattle.lexre.specs.StackViews.{state_of}
use Rattle.lexre.proofs.CycleLaws.{EndsWith}
use Rattle.lexre.proofs.OneTree.{limit}
use Rattle.lexre.proofs.ReaderLaws.{Agree, nothing_at}
use Rattle.lexre.proofs.reader.+read.Given as goal

abbrev pub decreases-read_name : goal.decreases-read_name
decreases-read_name l = 3 * l.left

abbrev pub decreases-read_within : goal.decreases-read_within
decreases-read_within l = 3 * l.left + 2

abbrev pub decreases-step : goal.decreases-step
decreases-step l = 3 * l.stack.now.left + 1

-- what is left to read gives what the whole text gives, also where fewer may be opened, as long as there are some to
-- spare; the nodes so far are counted, what is kept of names is known, and those that are open are those from before
abbrev pub invariant-read_within-loop-rest : goal.invariant-read_within-loop-rest
invariant-read_within-loop-rest l = record {
  agree : Agree l.scope.options.posix (symbol_at l.scope.options.fold) (get l.scope.definitions.now) (nothing_at l.scope.options.fold) (state_of l.stack) l.rest (state fresh [] l.left) l.text;
  lower : (e : ℕ) → e ≤ l.spare → Agree l.scope.options.posix (symbol_at l.scope.options.fold) (get l.scope.definitions.now) (nothing_at l.scope.options.fold) (lowered e (state_of l.stack)) l.rest (state fresh [] (l.left - e)) l.text;
  below : l.spare ≤ l.left;
  below_now : l.spare ≤ l.stack.left;
  within : limit (state_of l.stack) ≡ l.left;
  counted : state_nodes (state_of l.stack) ≡ l.nodes;
  few : l.nodes ≤ l.room;
  sound : IsSoundState (state_of l.stack);
  known : AreKnown l.scope.options l.scope.definitions.now (trees_of l.names);
  same_open : open_of l.names ≡ open_of l.initial.names;
  ends : EndsWith l.scope.options.posix (symbol_at l.scope.options.fold) (get l.scope.definitions.now) l.text l.rest;
}

abbrev pub decreases-read_within-loop-rest : goal.decreases-read_within-loop-rest
decreases-read_within-loop-rest l = length l.rest
