use Rattle.std.proofs.Common.{◌≡◌, map, drop}
use Rattle.lex_semantics.specs.Tree.{trees}
use Rattle.lexre.specs.Views.{emptied_each, tree_of}
use Rattle.lexre.proofs.pattern.are_bare.Given as goal

-- if what is left is emptied already, so are all
abbrev pub invariant-loop-pattern : goal.invariant-loop-pattern
invariant-loop-pattern l =
    emptied_each (trees (map tree_of (drop l.pattern-index l.patterns))) ≡ trees (map tree_of (drop l.pattern-index l.patterns))
    → emptied_each (trees (map tree_of l.patterns)) ≡ trees (map tree_of l.patterns)
