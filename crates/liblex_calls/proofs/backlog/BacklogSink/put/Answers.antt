use Rattle.std.proofs.Common.{◌++◌, take, drop, ap, ◌∙◌, arith}
use Rattle.std.proofs.lemmas.List.{length-take-le, drop-append-le}
use Rattle.liblex_calls.proofs.backlog.BacklogSink.put.Goals as goal

pub returns-in-Ok-clause-bytes : goal.returns-in-Ok-clause-bytes
returns-in-Ok-clause-bytes c =
    let s = c.make_room.new.self in
    let held = take s.end s.buffer.items in
    let t = c.append.new.self in
    ap (λ n. drop n (take t.end t.buffer.items)) c.append.ensures.from ∙ ap (drop s.from) c.append.ensures.bytes
    ∙ drop-append-le s.from held c.args.bytes.now (omega (arith, length-take-le s.end s.buffer.items s.in_buffer, s.inside)) ∙ ap (λ l. l ++ c.args.bytes.now) c.make_room.ensures.bytes
