use Rattle.lexlook_calls.proofs.SamePictures.{one_picture_by}
use Rattle.lexlook_calls.proofs.laws.one_picture.Goals as goal

pub returns : goal.returns
returns c = one_picture_by c.one_automaton.ensures
