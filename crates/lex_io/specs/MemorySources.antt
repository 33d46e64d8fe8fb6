-- What the source over memory holds, and what it answers.
use Rattle.std.specs.Prelude.{ℕ, zero, suc, ◌-◌, List, take, Result, Ok, Err, Option, Some, None}
use Rattle.lex_io.specs.declared.memory_source.MemorySource.{MemorySource}
use Rattle.lex_io.specs.declared.memory_source.Pause.{Pause}
use Rattle.lex_io.specs.declared.memory_source.Pause.TheVariants.{Fault, End}

-- the bytes that the source has not given yet
abbrev pub rest_of : MemorySource → List ℕ
rest_of source = source.rest.now

-- how often `next` was called
abbrev pub call_count : MemorySource → ℕ
call_count source = source.calls

-- how often it answered the end, and failed
abbrev pub ends_of : MemorySource → ℕ
ends_of source = source.ends

abbrev pub source_failures : MemorySource → ℕ
source_failures source = source.failures

-- where it will pause, counted in calls
abbrev pub pause_of : MemorySource → Option Pause
pause_of source = source.pause

-- of some bytes, those before the pause
abbrev pub before_pause : Option Pause → List ℕ → List ℕ
before_pause None bytes = bytes
before_pause (Some (Fault n)) bytes = take n bytes
before_pause (Some (End n)) bytes = take n bytes

-- the bytes that it shows: those that it will give before it pauses
abbrev pub shown_of : MemorySource → List ℕ
shown_of source = before_pause source.pause source.rest.now

-- a pause is as many calls nearer, where it comes no sooner
abbrev pub nearer_by : ℕ → Option Pause → Option Pause
nearer_by count None = None
nearer_by count (Some (Fault n)) = Some (Fault (n - count))
nearer_by count (Some (End n)) = Some (End (n - count))

-- a pause is one call nearer, and then it is past
abbrev pub nearer : Option Pause → Option Pause
nearer None = None
nearer (Some (Fault zero)) = None
nearer (Some (Fault (suc n))) = Some (Fault n)
nearer (Some (End zero)) = None
nearer (Some (End (suc n))) = Some (End n)

-- the answer is a fault, or the end
abbrev pub IsFault : {E : Type 0} → Result (Option ℕ) E → Type 0
IsFault (Ok answer) = ⊥
IsFault (Err e) = Unit {0}

abbrev pub IsEnd : {E : Type 0} → Result (Option ℕ) E → Type 0
IsEnd (Ok (Some byte)) = ⊥
IsEnd (Ok None) = Unit {0}
IsEnd (Err e) = ⊥
