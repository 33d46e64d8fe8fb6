use Rattle.liblex_calls.proofs.streaming.open_stream.Goals as goal

pub returns-in-Ok : goal.returns-in-Ok
returns-in-Ok c = c.open_with.ensures c.args.file.now c.in-Ok.ensures.found
