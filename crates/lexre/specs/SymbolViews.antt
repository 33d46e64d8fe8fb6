-- What a `Symbol` stands for.
use Rattle.std.specs.Prelude.{ℕ, true, false, List, Option, Some, None}
use Rattle.lex_semantics.specs.Tree.{Tree, Star, Repeat}
use Rattle.lexre_bytes.specs.Symbols.{item, name, opening, closing, bar, sign}
use Rattle.lexre_bytes.specs.Symbols as symbols
use Rattle.lexre.specs.Views.{tree_of}
use Rattle.lexre.specs.declared.symbols.Sign.{Sign}
use Rattle.lexre.specs.declared.symbols.Sign.TheVariants.{AnyTimes, OnceOrMore, AtMostOnce}
use Rattle.lexre.specs.declared.symbols.Symbol.{Symbol}

-- the tree that a sign makes
abbrev pub signed : Sign → Tree → Tree
signed AnyTimes = Star
signed OnceOrMore = λ t. Repeat t 1 None
signed AtMostOnce = λ t. Repeat t 0 (Some 1)

abbrev pub symbol_of : Symbol → symbols.Symbol
symbol_of (Symbol.Item pattern) = item (tree_of pattern)
symbol_of (Symbol.Name letters) = name letters.now
symbol_of Symbol.Opening = opening
symbol_of Symbol.Closing = closing
symbol_of Symbol.Bar = bar
symbol_of (Symbol.Sign s) = sign false (signed s)
symbol_of (Symbol.Interval least most) = sign true (λ t. Repeat t least most)

-- a symbol and what follows it, if the text begins with one
abbrev pub Front : Type 0
Front = Option (symbols.Symbol × List ℕ)
