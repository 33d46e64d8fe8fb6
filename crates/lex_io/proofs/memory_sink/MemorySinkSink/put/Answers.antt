use Rattle.std.proofs.Common.{take, drop, sym, rules, take-append-drop}
use Rattle.lex_io.proofs.memory_sink.MemorySinkSink.put.Goals as goal

pub returns-then-count-bytes-clause-bytes : goal.returns-then-count-bytes-clause-bytes
returns-then-count-bytes-clause-bytes c =
    (take c.room_for-count.result c.args.bytes.now, (drop c.room_for-count.result c.args.bytes.now, sym (take-append-drop _ _)), search rules)
