use Rattle.liblex_calls.proofs.listing.tokens_into.Goals as goal

pub returns-in-Ok : goal.returns-in-Ok
returns-in-Ok c = c.tokens_by_rules.ensures c.args.file.now c.in-Ok.ensures.found
