-- Which tree a text spells. (POSIX, lex, Regular Expressions in lex; flex, Patterns. The bounds are this project's.)
use Rattle.std.specs.Prelude.{ℕ, ◌≤◌, List}
use Rattle.std.specs.FinMap.{get}
use Rattle.lex_semantics.specs.Tree.{Tree}
use Rattle.lex_semantics.specs.Shapes.{nodes}
use Rattle.lexre.specs.Definitions.{Definitions}
use Rattle.lexre.specs.Grammar.{SpellsWithin}
use Rattle.lexre_bytes.specs.Lexical.{symbol_at}
use Rattle.lexre.specs.Limits.{max_open, max_nodes}
use Rattle.lexre.specs.declared.options.ReadOptions.{ReadOptions}

-- The text is a pattern, and this is its tree: there are not too many parentheses and names open at one place, and not
-- too many nodes. Under `fold` letters stand for both cases, and under `posix` intervals apply to series.
abbrev pub Spells : ReadOptions → Definitions → List ℕ → Tree → Type 0
Spells how definitions text tree =
    SpellsWithin how.posix (symbol_at how.fold) (get definitions) max_open text tree × (nodes tree ≤ max_nodes)
