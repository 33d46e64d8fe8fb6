-- What is kept of names while the rules of a file are read.
use Rattle.lexspec_lines.specs.declared.declarations.Declarations.{Declarations}
use Rattle.lexre.specs.Names.{AreKnown, trees_of}
use Rattle.lexre.specs.declared.name_cache.NameCache.{NameCache}

-- each name stands for the tree that is kept of it, under these declarations
abbrev pub AreKept : Declarations → NameCache → Type 0
AreKept d names = AreKnown d.options d.definitions (trees_of names)
