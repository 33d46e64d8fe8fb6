use Rattle.lexre.specs.Views.{tree_of}
use Rattle.lexspec.proofs.CutLaws.{no_cut, if_none}
use Rattle.lexspec.proofs.cuts.cut_by.Goals as goal

pub returns-in_err-count-clause-none : goal.returns-in_err-count-clause-none
returns-in_err-count-clause-none c =
    if_none c.from_residual.result _ (rw c.in-Some.is (no_cut (tree_of c.args.head.now) (tree_of c.in-Some.after) c.in_default-fixed_length.ensures.none c.in_err-count.ensures.none))
