-- The trees that are kept of the names that were read.
use Rattle.std.specs.Prelude.{◌≡◌, ℕ, nat_le, if◌then◌else◌, List, map, Option, Some, None}
use Rattle.std.specs.Cmp.Lexicographic.{slice_cmp}
use Rattle.std.specs.FinMap.{FinMap, get}
use Rattle.std.specs.Ordering.{nat_cmp}
use Rattle.lex_semantics.specs.Shapes.{IsSoundTree}
use Rattle.lex_semantics.specs.Tree.{Tree}
use Rattle.lexre.specs.Definitions.{Definitions}
use Rattle.lexre.specs.Entries.{map_of}
use Rattle.lexre.specs.Reading.{StandsIn}
use Rattle.lexre.specs.Views.{tree_of}
use Rattle.lexre.specs.declared.name_cache.Kept.{Kept}
use Rattle.lexre.specs.declared.name_cache.NameCache.{NameCache}
use Rattle.lexre.specs.declared.options.ReadOptions.{ReadOptions}

-- the names that are being read, the outermost first
abbrev pub open_of : NameCache → List (List ℕ)
open_of names = map (λ v. v.items) names.being_read.items

-- names to trees, each with how many parentheses and names have to be opened for it
abbrev pub NamedTrees : Type 0
NamedTrees = FinMap (slice_cmp nat_cmp) (Tree × ℕ)

abbrev pub tree_kept : Kept → Tree × ℕ
tree_kept k = (tree_of k.tree.pattern, k.needed)

abbrev pub trees_of : NameCache → NamedTrees
trees_of names = map_of tree_kept names.kept.entries

-- what is kept of a name, unless it needs more than may be opened
abbrev pub usable : ℕ → Option (Tree × ℕ) → Option (Tree × ℕ)
usable left None = None
usable left (Some k) = if nat_le k.1 left then Some k else None

-- each name stands for the tree that is kept of it, which is sound
abbrev pub AreKnown : ReadOptions → Definitions → NamedTrees → Type 0
AreKnown how definitions trees =
    (n : List ℕ) (t : Tree) (needed : ℕ) → get trees n ≡ Some (t, needed) → StandsIn how definitions needed n t
    × IsSoundTree t
