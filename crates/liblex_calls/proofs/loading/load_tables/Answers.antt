use Rattle.liblex_calls.proofs.loading.load_tables.Goals as goal

pub returns-in-Ok : goal.returns-in-Ok
returns-in-Ok c = c.hold.ensures c.args.file.now c.in-Ok.ensures.found
