use Rattle.lexre.specs.Views.{tree_of}
use Rattle.lexspec.proofs.FixedLaws.{one_is_fixed, none_is_fixed}
use Rattle.lexspec.proofs.cuts.fixed_length.Goals as goal

pub returns-clause-found : goal.returns-clause-found
returns-clause-found c = one_is_fixed (tree_of c.args.pattern.now) c.requires c.one_length.result c.one_length.ensures

pub returns-clause-none : goal.returns-clause-none
returns-clause-none c = none_is_fixed (tree_of c.args.pattern.now) c.requires c.one_length.result c.one_length.ensures
