-- What taking bytes into the window does, over the two ends and what is kept of the source, before and after.
use Rattle.std.specs.Prelude.{◌≡◌, ℕ, ◌+◌, ◌<◌, ◌≤◌, max, Bool, true, false, ◌++◌, length, Option, Result, OnOk, OnErr, IfOk, IfErr, IsErrOf, ◌⊎◌, if◌then◌else◌}
use Rattle.lex_io.specs.Source.{given}
use Rattle.lex_io.specs.declared.source.Source as Source
use Rattle.lex_io.specs.declared.sink.Sink as Sink
use Rattle.lex_semantics.specs.ByteSets.{bit_of}
use Rattle.lex_semantics.specs.Machine.{Machine}
use Rattle.lex_semantics.specs.Text.{IsText}
use Rattle.lexscan_window.specs.declared.intake.Intake.{Intake}
use Rattle.lexscan_window.specs.declared.intake.Outlet.{Outlet}
use Rattle.lexscan_window.specs.declared.state.Reading.{Reading}
use Rattle.lexscan_window.specs.Window.{StatesKept}
use Rattle.lexscan_window.specs.declared.walk.Walk.{Walk}
use Rattle.lexscan_window.specs.declared.error.RunError.{RunError}
use Rattle.lexscan_window.specs.declared.error.RunError.TheVariants.{TooManyReads, OutOfMemory, Stack, Failed}
use Rattle.lexscan_window.specs.Intakes.{source_of, source_name, can_read, sink_of, sink_name, can_write}
use Rattle.lexscan_window.specs.Reads.{Took, IsThere, IsWanted, IsShort, is_end, read_fault_count}
use Rattle.lexscan_window.specs.Ends.{SourceLeft, NothingPut}
use Rattle.lexscan_window.specs.Walks.{Grown, ends_at}

module _ {S K : Type 0} {of_source : Source.Ghosts S} {of_sink : Sink.Ghosts K} where
  -- The source was asked for one byte: it stands in the window, or the end was answered, or nothing was taken.
  pub record ByteTaken (i i' : Intake S of_source) (o o' : Outlet K of_sink) (old new : Reading)
      (result : Result (Option ℕ) RunError) : Type 0 where
    pub same : source_name i' ≡ source_name i
    pub same_sink : sink_name o' ≡ sink_name o
    pub put : NothingPut of_sink.wrote of_sink.failures (sink_of o) (sink_of o') (can_write o') result
    pub tied : OnOk result (of_source.waits (source_of i) ≡ true → of_sink.flushed (sink_of o') ≡ true)
    pub byte : of_source.gave (source_of i) (given result) (source_of i')
    pub text : IsText (given result)
    pub ends : of_source.ends (source_of i') ≡ of_source.ends (source_of i) + (if is_end result then 1 else 0)
    pub failures : of_source.failures (source_of i') ≡ of_source.failures (source_of i) + read_fault_count result
    pub live : OnOk result (new.at_end ≡ false → can_read i' ≡ true)
    pub held : new.window.bytes ≡ old.window.bytes ++ given result
    pub taken : new.taken ≡ old.taken + length (given result)
    pub at_end : new.at_end ≡ is_end result
    pub max_reads : new.max_reads ≡ old.max_reads
    pub few_reads : new.taken + bit_of new.at_end + read_fault_count result ≤ new.max_reads
    pub too_many : IsErrOf result TooManyReads → old.taken ≡ old.max_reads
    pub at_limit : old.taken ≡ old.max_reads → IsErrOf result TooManyReads
    pub not_failed : IsErrOf result Failed → ⊥
    pub not_stack : IsErrOf result Stack → ⊥

  -- Bytes that the source has ready were walked over into the window, or one was read; what is refused is refused
  -- before that.
  pub record WindowFilled (M : Machine) (states : ℕ) (i i' : Intake S of_source) (o o' : Outlet K of_sink)
      (old new : Reading) (first : ℕ) (result : Result Walk RunError) : Type 0 where
    pub same : source_name i' ≡ source_name i
    pub same_sink : sink_name o' ≡ sink_name o
    pub put : NothingPut of_sink.wrote of_sink.failures (sink_of o) (sink_of o') (can_write o') result
    pub tied : OnOk result (of_source.waits (source_of i) ≡ true → of_sink.flushed (sink_of o') ≡ true)
    pub ready : IfOk result (λ walk. walk.count ≤ max 1 (length (of_source.ready (source_of i))))
    pub took : Took of_source.gave (source_of i) (source_of i') old new
    pub source : SourceLeft of_source.ends of_source.failures (source_of i) (source_of i') (can_read i') old new result
    pub grown : IfOk result (λ walk. Grown M old new first walk)
    pub at_end : IfOk result (λ walk. new.at_end ≡ ends_at walk.stop)
    pub some : IfOk result (λ walk. ends_at walk.stop ≡ false → 1 ≤ walk.count)
    pub known : IfOk result (λ walk. walk.state < states)
    pub known_before : IfOk result (λ walk. walk.before < states)
    pub unchanged : OnErr result ((new.window.bytes ≡ old.window.bytes) × (new.at_end ≡ false))
    pub too_many : IsErrOf result TooManyReads → new.taken ≡ new.max_reads
    pub at_limit : old.taken ≡ old.max_reads → IsErrOf result TooManyReads

  -- The window has a byte at this place, and the path has room for its state; or the source has answered its end.
  pub record ByteFetched (i i' : Intake S of_source) (o o' : Outlet K of_sink) (old new : Reading)
      (path path' : StatesKept) (next : ℕ) (result : Result Bool RunError) : Type 0 where
    pub same : source_name i' ≡ source_name i
    pub same_sink : sink_name o' ≡ sink_name o
    pub put : NothingPut of_sink.wrote of_sink.failures (sink_of o) (sink_of o') (can_write o') result
    pub took : Took of_source.gave (source_of i) (source_of i') old new
    pub there : IfOk result (λ there. IsThere old new next there)
    pub wanted : OnErr result (IsWanted old new next ⊎ IsShort old new next)
    pub source : SourceLeft of_source.ends of_source.failures (source_of i) (source_of i') (can_read i') old new result
    pub states : path'.states ≡ path.states
    pub room : IfOk result (λ there. there ≡ true → path'.room ≡ true)
    pub too_many : IsErrOf result TooManyReads → (new.taken ≡ new.max_reads) × IsWanted old new next
    pub at_limit : next ≡ length old.window.bytes → old.at_end ≡ false → old.taken ≡ old.max_reads
        → IsErrOf result TooManyReads
    pub short : next < length old.window.bytes → IfErr result (λ e. e ≡ OutOfMemory)
