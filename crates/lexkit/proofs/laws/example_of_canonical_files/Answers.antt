use Rattle.lexkit.proofs.CanonicalOfTwo.{canonical_of_two}
use Rattle.lexkit.proofs.laws.example_of_canonical_files.Goals as goal

pub returns : goal.returns
returns c = canonical_of_two c.examples_of_packings.ensures c.packing_of_same_moves.ensures
