use Rattle.lexscan_window.proofs.Marks.{among_at}
use Rattle.lexscan_matching.proofs.back.note_passed.Goals as goal

pub note_place-requires-clause-passed : goal.note_place-requires-clause-passed
note_place-requires-clause-passed g c = c.requires.passed _ (among_at c.args.passed.now c.places.index _ c.places-test.true)
