-- What the calls of a scan by pieces leave in what a program in C holds of it. (Own.)
use Rattle.std.specs.Prelude.{◌≡◌, ℕ, Bool, true, false, List, [], length, take, Some, None}
use Rattle.lextab_packed.specs.Table.{Table}
use Rattle.lextab_file.specs.File.{IsFileOf}
use Rattle.liblex_calls.specs.Buffers.{NothingOut}
use Rattle.liblex_calls.specs.Backlogs.{rest}
use Rattle.liblex_calls.specs.Stages.{feed_answer, finish_answer, status_in}
use Rattle.liblex_calls.specs.Progress.{Progress, HandsOn, Follows}
use Rattle.liblex_calls.specs.Handles.{open_in}
use Rattle.liblex_calls.specs.declared.answer.Answer.{Answer}
use Rattle.liblex_calls.specs.declared.answer.Answer.TheVariants as answers
use Rattle.liblex_calls.specs.declared.stage.Stage.TheVariants as stages
use Rattle.liblex_calls.specs.declared.handle.Scan.{Scan}
use Rattle.liblex_calls.specs.declared.piece_scan.PieceScan.{PieceScan}

-- the scan is open, by the rules of this file, was fed these bytes, and these were handed out
abbrev pub Scanning : List ℕ → Bool → List ℕ → List ℕ → Scan → Type 0
Scanning file told fed out scan = (p : PieceScan) × (open_in scan ≡ Some p) × Progress file told fed out p

-- the scan is open, and goes on
abbrev pub IsGoing : Scan → Type 0
IsGoing scan = (p : PieceScan) × (open_in scan ≡ Some p) × (p.stage ≡ stages.Going)

-- What beginning a scan leaves, by what it answers.
abbrev pub OpensScan : List ℕ → Scan → Answer → Type 0
OpensScan file scan answers.Done = Scanning file false [] [] scan × IsGoing scan
OpensScan file scan answers.Refused = ((t : Table) → IsFileOf t file → ⊥) × (open_in scan ≡ None)
OpensScan file scan answers.OutOfMemory = open_in scan ≡ None
OpensScan file scan answers.TooSmall = ⊥
OpensScan file scan answers.Ended = ⊥
OpensScan file scan answers.Closed = ⊥
OpensScan file scan answers.More = ⊥
OpensScan file scan answers.Stack = ⊥
OpensScan file scan answers.TooManyReads = ⊥

-- What a feed leaves: the answer says whether bytes are left to be handed out, and else how far the scan has come.
abbrev pub FeedsInto : List ℕ → Bool → List ℕ → List ℕ → Scan → List ℕ → List ℕ → ℕ → Answer → Type 0
FeedsInto file told fed out scan old new count answer =
    (p : PieceScan) × (open_in scan ≡ Some p) × HandsOn file told fed out p old new count
    × (answer ≡ feed_answer p.stage (length (rest p.backlog)))

-- And what the end of the input leaves.
abbrev pub FinishesInto : List ℕ → List ℕ → List ℕ → Scan → List ℕ → List ℕ → ℕ → ℕ → Answer → Type 0
FinishesInto file fed out scan old new count status answer =
    (p : PieceScan) × (open_in scan ≡ Some p) × HandsOn file true fed out p old new count
    × (answer ≡ finish_answer p.stage (length (rest p.backlog))) × (status ≡ status_in p.stage)

-- A call leaves a scan that is closed so, and hands out nothing.
abbrev pub StaysClosed : Scan → List ℕ → List ℕ → ℕ → Answer → Type 0
StaysClosed scan old new count answer = (answer ≡ answers.Closed) × NothingOut old new count × (open_in scan ≡ None)

-- A call leaves a scan that is open so, as it follows from how it stood; what it hands out stands at the front of the
-- buffer.
abbrev pub StaysOpen : Scan → Scan → List ℕ → ℕ → Type 0
StaysOpen old new buffer count =
    (p : PieceScan) → open_in old ≡ Some p → (q : PieceScan) × (open_in new ≡ Some q) × Follows p (take count buffer) q
