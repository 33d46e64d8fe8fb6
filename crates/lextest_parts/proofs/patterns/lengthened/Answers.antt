use Rattle.std.proofs.Common.{List, [], ◌∷◌, ◌++◌, map}
use Rattle.lex_semantics.specs.Shapes.{IsSoundTree, AreSoundTrees, HasPart}
use Rattle.lex_semantics.specs.Tree.{trees}
use Rattle.lexre.specs.Views.{tree_of}
use Rattle.lexre.specs.declared.pattern.Pattern.{Pattern}
use Rattle.lextest_parts.proofs.patterns.lengthened.Goals as goal

one_more : (ps : List Pattern) (p : Pattern) → AreSoundTrees (trees (map tree_of ps)) → IsSoundTree (tree_of p) → AreSoundTrees (trees (map tree_of (ps ++ p ∷ [])))
one_more [] p sound here = (here, tt)
one_more (q ∷ ps) p sound here = (sound.0, one_more ps p sound.1 here)

some_part : (ps : List Pattern) (p : Pattern) → HasPart (trees (map tree_of (ps ++ p ∷ [])))
some_part [] p = λ e. cc
some_part (q ∷ ps) p = λ e. cc

pub loop-preserved : goal.loop-preserved
loop-preserved c = rw c.in_ok-push.ensures.items (one_more _ _ c.loop.invariant.0 c.byte.ensures, some_part _ _)
