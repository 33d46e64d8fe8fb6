use Rattle.std.specs.Prelude.{option_map}
use Rattle.lexre.specs.Views.{tree_of}
use Rattle.lexspec.specs.SubjectViews.{trailing_of}
use Rattle.lexspec.proofs.ItemLaws.{no_sides_cut}
use Rattle.lexspec.proofs.rule_text.read_sides.Goals as goal

pub returns-in-None-clause-none : goal.returns-in-None-clause-none
returns-in-None-clause-none c =
    no_sides_cut c.args.declarations.now c.args.head.now (trailing_of c.args.trail) (tree_of c.in-Ok.pattern) (option_map tree_of c.in-Ok-read_trail.pattern)
    c.in-Ok.ensures.found c.in-Ok-read_trail.ensures.found c.in-None.ensures.none
