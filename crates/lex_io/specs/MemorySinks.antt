-- What the sink over memory holds, and when it fails.
use Rattle.std.specs.Prelude.{ℕ, ◌-◌, min, Bool, List, Option, Some, None}
use Rattle.lex_io.specs.declared.memory_sink.MemorySink.{MemorySink}

-- all that was appended to the sink
abbrev pub written_of : MemorySink → List ℕ
written_of sink = sink.written.items

-- how many bytes more it takes, if they are counted
abbrev pub room_of : MemorySink → Option ℕ
room_of sink = sink.room

-- the next flush fails
abbrev pub flush_fails : MemorySink → Bool
flush_fails sink = sink.flush_fails

-- a flush was answered since the last `put`
abbrev pub is_flushed : MemorySink → Bool
is_flushed sink = sink.flushed

-- how often it failed
abbrev pub failures_of : MemorySink → ℕ
failures_of sink = sink.failures

-- how many of n bytes the room takes
abbrev pub fitting : Option ℕ → ℕ → ℕ
fitting None n = n
fitting (Some room) n = min n room

-- the room that n bytes leave
abbrev pub left : Option ℕ → ℕ → Option ℕ
left None n = None
left (Some room) n = Some (room - n)
