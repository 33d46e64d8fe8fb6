use Rattle.lexkit.proofs.SameTables.{files}
use Rattle.lexkit.proofs.laws.one_file.Goals as goal

pub returns : goal.returns
returns c S T f g same (ta, goes_a, a) (tb, goes_b, b) =
    files S T f g same (c.same_rules_answers.ensures S T same) ta tb goes_a goes_b a b c.one_packing.ensures c.packing_of_same_moves.ensures
