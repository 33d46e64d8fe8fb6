use Rattle.std.proofs.Common.{refl}
use Rattle.lexlook_letters.proofs.laws.examples_of_texts.Goals as goal

pub returns : goal.returns
returns c = record { group = refl; tree = refl; counted = refl; alone = refl; apart = refl; lengths = refl; ends = refl }
