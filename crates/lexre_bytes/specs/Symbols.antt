-- The symbols of a pattern. (POSIX, lex, Regular Expressions in lex; intervals as in flex, Patterns.)
use Rattle.std.specs.Prelude.{◌≡◌, ℕ, Bool, List, [], ◌∷◌}
use Rattle.lex_semantics.specs.Reading.{Reader}
use Rattle.lex_semantics.specs.Reading as reading
use Rattle.lex_semantics.specs.Tree.{Tree, Trees, trees, Empty}

pub data Symbol : Type 0 where
  -- what is an item by itself: a byte, an escape, `.`, a class, or a text in quotes
  item : Tree → Symbol
  -- `{name}`
  name : List ℕ → Symbol
  opening : Symbol
  closing : Symbol
  bar : Symbol
  -- `*`, `+` or `?`, or in braces `{m,n}` or `{m,}`: the tree that it makes of the one to its left
  sign : (braces : Bool) → (Tree → Tree) → Symbol

-- the tree of these parts: none are the empty text, and one is itself
abbrev pub grouped : (Trees → Tree) → List Tree → Tree
grouped made [] = Empty
grouped made (t ∷ []) = t
grouped made (t ∷ u ∷ ts) = made (trees (t ∷ u ∷ ts))

-- where a text begins with a symbol: the symbol, and what follows it
abbrev pub Lexer : Type 0
Lexer = Reader Symbol

-- the text is these symbols, one after another
abbrev pub IsCut : Reader Symbol → List ℕ → List Symbol → Type 0
IsCut symbol_at text ss = reading.IsReadAs symbol_at (λ t. t ≡ []) text ss
