-- What several turns in one go do. yymore may keep bytes of the text before the first match and after the last.
use Rattle.std.specs.Prelude.{◌≡◌, ℕ, ◌+◌, ◌-◌, ◌<◌, ◌≤◌, Bool, true, false, List, [], ◌∷◌, ◌++◌, length, take, drop, get_or, ◌==◌, if◌then◌else◌, None, Result, Ok, Err}
use Rattle.lex_io.specs.declared.sink.Sink as Sink
use Rattle.lex_semantics.specs.Spec as S
use Rattle.lex_semantics.specs.Machine.{Machine, walk}
use Rattle.lex_machine.specs.Glances.{FirstDoes}
use Rattle.lex_machine.specs.Singles.{Singles}
use Rattle.lexscan_matching.specs.Glanced.{NoneAfter}
use Rattle.lexscan_window.specs.Intakes.{sink_of, sink_name, can_write}
use Rattle.lexscan_window.specs.declared.intake.Outlet.{Outlet}
use Rattle.lexscan_window.specs.declared.state.TextPlace.{TextPlace}
use Rattle.lexscan_window.specs.declared.state.State.{State}
use Rattle.lexscan_window.specs.declared.error.RunError.{RunError}
use Rattle.lexscan_window.specs.declared.error.RunError.TheVariants.{Write}
use Rattle.lexscan.specs.declared.burst.Burst.{Burst}
use Rattle.lexscan.specs.declared.starts.Starts.{Starts}
use Rattle.lexscan.specs.TurnInvariants.{TurnInvariant, AfterRefusal}

-- whether a line starts after so many bytes of a text, where one starts at its front or not (flex, Patterns: `^`)
abbrev pub starts_line : Bool → List ℕ → ℕ → Bool
starts_line line text count = if count == 0 then line else get_or text (count - 1) 0 == 10

-- the states, below a number, where a match starts in a condition: inside a line, and at the start of one
pub record AreStarts (M : Machine) (states condition : ℕ) (s : Starts) : Type 0 where
  pub inside : s.inside ≡ M.start condition false
  pub at_line : s.at_line ≡ M.start condition true
  pub known : (s.inside < states) × (s.at_line < states)

-- Some of the first bytes were passed, each a match by itself of this kind, and these are left. (This project's.)
pub record Passed (Is : Machine → ℕ → ℕ → Type 0) (M : Machine) (condition first : ℕ) (bytes left : List ℕ) : Type 0
  where
    pub count : ℕ
    pub singles : Singles Is M condition first bytes count
    pub left_is : left ≡ drop count bytes

-- The first of these bytes, so many of them, are the longest match of a walk, whose rule keeps all of it and does
-- yymore alone. (flex, Actions: yymore.)
abbrev pub IsMoreMatch : Machine → ℕ → List ℕ → ℕ → ℕ → Type 0
IsMoreMatch M first bytes count keep =
    (1 ≤ keep) × (keep ≤ count) × NoneAfter M first bytes keep count
    × FirstDoes M (walk M first (take keep bytes)) (S.More ∷ [])

-- A state between two turns, with these bytes held, so many of them kept before the next match, and so many taken.
pub record Between (v : State) (bytes : List ℕ) (kept taken condition : ℕ) (line : Bool)
    (stack : List ℕ) : Type 0 where
  pub bytes_are : v.reading.window.bytes ≡ bytes
  pub taken_is : v.reading.taken ≡ taken
  pub at_end : v.reading.at_end ≡ false
  pub at : v.place.at ≡ kept
  pub line_is : v.place.line_start ≡ line
  pub condition_is : v.place.condition ≡ condition
  pub stack_is : v.acting.stack ≡ stack
  pub going : v.ended ≡ None

-- The invariant after n turns holds of each such state that has not failed.
abbrev pub AllInvariant : Machine → ℕ → List ℕ → List ℕ → List ℕ → ℕ → ℕ → ℕ → Bool → List ℕ → Type 0
AllInvariant M n given out bytes kept taken condition line stack =
    (v : State) → Between v bytes kept taken condition line stack → v.failed ≡ false → TurnInvariant M n given out v

-- Some turns over a text, of which the first bytes are held, and some of these kept before the first match: they are
-- done with the bytes up to that at `done`, have kept so many more before the next match, and asked for those up to
-- `asked`.
pub record TurnsMade {K : Type 0} (M : Machine) (wrote : K → List ℕ → K → Type 0) (t u : K) (text : List ℕ)
    (held kept condition : ℕ) (line : Bool) (done kept' asked condition' : ℕ) (line' : Bool) : Type 0 where
  pub turns : ℕ
  pub out : List ℕ
  pub sink : wrote t out u
  pub stand : (n : ℕ) (given before : List ℕ) (taken : ℕ) (stack : List ℕ)
      → AllInvariant M n given before (take held text) kept taken condition line stack →
      AllInvariant M (turns + n) (given ++ drop held (take asked text)) (before ++ out) (drop done (take asked text))
      kept' (taken + (asked - held)) condition' line' stack

-- The burst was stopped: the turn after some others was refused, since the sink failed.
pub record BurstStopped {K : Type 0} (M : Machine) (wrote : K → List ℕ → K → Type 0) (t u : K) (text : List ℕ)
    (held kept condition : ℕ) (line : Bool) (done kept' asked condition' : ℕ) (line' : Bool) : Type 0 where
  pub turns : ℕ
  pub out : List ℕ
  pub sink : wrote t out u
  pub before : ℕ
  pub few : held ≤ before
  pub more : before ≤ asked
  pub refusal : (n : ℕ) (given had : List ℕ) (taken : ℕ) (stack : List ℕ)
      → AllInvariant M n given had (take held text) kept taken condition line stack →
      (v : State) → Between v (drop done (take asked text)) kept' (taken + (asked - held)) condition' line' stack
      → v.failed ≡ true →
      AfterRefusal M (turns + n) (given ++ drop held (take before text)) (drop before (take asked text)) (had ++ out) v
      Write

abbrev pub BurstsBy : {K : Type 0} → Bool → Machine → (K → List ℕ → K → Type 0) → K → K → List ℕ → ℕ → ℕ → ℕ → Bool
    → Burst → ℕ → Type 0
BurstsBy false M wrote t u text held kept condition line b kept' =
    TurnsMade M wrote t u text held kept condition line b.done kept' b.asked b.condition b.line_start
BurstsBy true M wrote t u text held kept condition line b kept' =
    BurstStopped M wrote t u text held kept condition line b.done kept' b.asked b.condition b.line_start

abbrev pub fault_of : Bool → ℕ
fault_of true = 1
fault_of false = 0

-- A burst was made over a text, of which so many bytes were held, and so many of these kept before the first match:
-- what it wrote, where it led, and how many bytes it keeps before the next match.
module _ {K : Type 0} {of_sink : Sink.Ghosts K} where
  pub record BurstMade (M : Machine) (o o' : Outlet K of_sink) (text : List ℕ) (count before : ℕ) (place : TextPlace)
      (b : Burst) (after : ℕ) : Type 0 where
    pub same : sink_name o' ≡ sink_name o
    pub bursts : BurstsBy b.fault M of_sink.wrote (sink_of o) (sink_of o') text count before place.condition
        place.line_start b after
    pub failures : of_sink.failures (sink_of o') ≡ of_sink.failures (sink_of o) + fault_of b.fault
    pub live : b.fault ≡ false → can_write o' ≡ true
    pub condition : b.condition < M.conditions
    pub no_earlier : before ≤ b.done + after
    pub kept : b.done + after ≤ b.asked
    pub held : count ≤ b.asked
    pub asked : b.asked ≤ length text

-- After a burst the scan is at the place where it led, with what it asked for taken.
pub record Advanced (b : Burst) (got : ℕ) (old new : State) : Type 0 where
  pub held : new.reading.window.bytes ≡ drop b.done (old.reading.window.bytes ++ take got old.reading.window.ahead)
  pub taken : new.reading.taken ≡ old.reading.taken + got
  pub at_end : new.reading.at_end ≡ old.reading.at_end
  pub max_reads : new.reading.max_reads ≡ old.reading.max_reads
  pub at : new.place.at ≡ 0
  pub line_start : new.place.line_start ≡ b.line_start
  pub condition : new.place.condition ≡ b.condition
  pub stack : new.acting.stack ≡ old.acting.stack
  pub ended : new.ended ≡ old.ended
  pub failed : new.failed ≡ old.failed

-- Several turns preserve the invariant: where it holds after n turns, it holds after some more, with their bytes
-- appended; or the turn after some of them was refused.
abbrev pub BurstPreserves : Machine → State → State → List ℕ → List ℕ → Result ℕ RunError → Type 0
BurstPreserves M old new got wrote (Ok count) =
    (turns : ℕ)
    × ((n : ℕ) (given out : List ℕ) → TurnInvariant M n given out old
    → TurnInvariant M (turns + n) (given ++ got) (out ++ wrote) new)
BurstPreserves M old new got wrote (Err e) =
    (turns : ℕ) × (had more : List ℕ) × (got ≡ had ++ more)
    × ((n : ℕ) (given out : List ℕ) → TurnInvariant M n given out old
    → AfterRefusal M (turns + n) (given ++ had) more (out ++ wrote) new e)

-- The text starts no earlier, nor does the match.
pub record NoEarlier (old new : State) : Type 0 where
  pub start : old.reading.taken - length old.reading.window.bytes ≤ new.reading.taken - length new.reading.window.bytes
  pub place : old.reading.taken - length old.reading.window.bytes + old.place.at ≤ new.reading.taken - length
      new.reading.window.bytes + new.place.at
