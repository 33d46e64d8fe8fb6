use Rattle.std.proofs.Common.{map}
use Rattle.lex_semantics.specs.Shapes.{AreSoundTrees, HasPart}
use Rattle.lex_semantics.specs.Tree.{trees}
use Rattle.lexre.specs.Views.{tree_of}
use Rattle.lextest_parts.proofs.patterns.lengthened.Given as goal

abbrev pub invariant-loop : goal.invariant-loop
invariant-loop l = AreSoundTrees (trees (map tree_of l.parts.items)) × HasPart (trees (map tree_of l.parts.items))
