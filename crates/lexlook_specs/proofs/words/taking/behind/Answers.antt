use Rattle.lexauto_dfa.proofs.Accepting.{among_get}
use Rattle.lexlook_specs.proofs.words.taking.behind.Goals as goal

pub bounds-rejects-rules : goal.bounds-rejects-rules
bounds-rejects-rules c = c.requires _ (among_get c.args.rules.now c.loop-place.place c.loop-place-test.true)
