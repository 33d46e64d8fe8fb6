-- How a scan by pieces stands. (What is written is that of POSIX and flex; the rest is own.)
use Rattle.std.specs.Prelude.{◌≡◌, ℕ, ◌-◌, ◌^◌, ◌≤◌, min, Bool, true, false, List, ◌++◌, length, drop, None}
use Rattle.lex_semantics.specs.Text.{IsText, BeginsWith}
use Rattle.lex_semantics.specs.Rules.{Rules}
use Rattle.lex_semantics.specs.Acting.{Ending, Status, StackFault}
use Rattle.lex_semantics.specs.Run.{Run}
use Rattle.lex_semantics.specs.Demand.{Consistent}
use Rattle.lex_semantics.specs.Machine.{Machine, rules_of_machine}
use Rattle.liblex_calls.specs.Files.{IsMachineOf}
use Rattle.liblex_calls.specs.Rules.{rules_machine}
use Rattle.lexscan_window.specs.declared.state.State.{State}
use Rattle.lexscan.specs.Pushes.{Fed, AsksForMore}
use Rattle.lexscan.specs.Scanners.{push_machine, push_state, push_waiting}
use Rattle.liblex_calls.specs.Backlogs.{rest}
use Rattle.liblex_calls.specs.declared.stage.Stage.{Stage}
use Rattle.liblex_calls.specs.declared.stage.Stage.TheVariants as stages
use Rattle.liblex_calls.specs.declared.piece_scan.PieceScan.{PieceScan}

-- the machine of a scan
abbrev pub scan_machine : PieceScan → Machine
scan_machine p = rules_machine (push_machine p.scanner)

-- Over every input that this may be the beginning of, or all of if its end was told, the run writes this and ends so.
abbrev pub RunsAll : Rules → Bool → List ℕ → List ℕ → Ending → Type 0
RunsAll R told fed out ending = (x : List ℕ) → Consistent fed told x → Run R x out ending

-- Over each of these inputs, what the run writes begins with this.
abbrev pub OutputBegins : Rules → Bool → List ℕ → List ℕ → Type 0
OutputBegins R told fed out =
    (x : List ℕ) → Consistent fed told x → (w : List ℕ) (ending : Ending) → Run R x w ending → BeginsWith w out

-- What was fed and what was written, by how far the scan has come. While it goes on, the next turn asks for more than
-- all that was fed: what was written is all that these bytes decide.
abbrev pub StandsAt : Machine → Stage → Bool → List ℕ → List ℕ → State → List ℕ → Type 0
StandsAt M stages.Going told fed out s waiting =
    (told ≡ false) × (s.ended ≡ None) × (h : Fed M fed out s waiting) × AsksForMore (rules_of_machine M) h.turns fed
StandsAt M (stages.Ended status) told fed out s waiting = RunsAll (rules_of_machine M) told fed out (Status status)
StandsAt M stages.Stack told fed out s waiting = RunsAll (rules_of_machine M) told fed out StackFault
StandsAt M stages.OutOfMemory told fed out s waiting = OutputBegins (rules_of_machine M) told fed out
StandsAt M stages.TooManyReads told fed out s waiting =
    OutputBegins (rules_of_machine M) told fed out × (2 ^ 64 - 1 ≤ length fed)

-- A scan by the rules of this file was fed these bytes, and these were handed out. Its end was told, or not. With those
-- that are still to be handed out they are all that was written.
pub record Progress (file : List ℕ) (told : Bool) (fed out : List ℕ) (p : PieceScan) : Type 0 where
  pub machine : IsMachineOf file (scan_machine p)
  pub text : IsText fed
  pub finished : p.finished ≡ told
  pub stands : StandsAt (scan_machine p) p.stage told fed (out ++ rest p.backlog) (push_state p.scanner)
      (push_waiting p.scanner)

-- What counts as fed with a piece more: once the end was told, nothing more does.
abbrev pub fed_with : Bool → List ℕ → List ℕ → List ℕ
fed_with true fed piece = fed
fed_with false fed piece = fed ++ piece

-- The first of the bytes that were to be handed out stand at the front of the buffer, as many as there is room for, and
-- the rest of it is as it was. How many there were is told, and those that had no room are still to be handed out.
pub record HandsOn (file : List ℕ) (told : Bool) (fed out : List ℕ) (p : PieceScan) (old new : List ℕ)
    (count : ℕ) : Type 0 where
  pub handed : List ℕ
  pub buffer : new ≡ handed ++ drop (length handed) old
  pub size : length handed ≡ min (length old) count
  pub count_is : count ≡ length (handed ++ rest p.backlog)
  pub progress : Progress file told fed (out ++ handed) p

-- How far a scan has come after a call, and all the bytes that the call hands out or leaves, by how far it had come and
-- what waited to be handed out. Of a scan that goes on these bytes begin with what waited. One that has ended or
-- stopped stays so, and they are what waited.
abbrev pub Continues : Stage → List ℕ → Stage → List ℕ → Type 0
Continues stages.Going waited after bytes = BeginsWith bytes waited
Continues before waited after bytes = (after ≡ before) × (bytes ≡ waited)

-- so does a scan, where a call hands these bytes out
abbrev pub Follows : PieceScan → List ℕ → PieceScan → Type 0
Follows p handed q = Continues p.stage (rest p.backlog) q.stage (handed ++ rest q.backlog)
