-- What a refusal means.
use Rattle.std.specs.Prelude.{◌≡◌, ℕ, ◌<◌, List, Option, Some}
use Rattle.lex_semantics.specs.Shapes.{nodes}
use Rattle.lexre_bytes.specs.Symbols.{Symbol, item}
pub use Rattle.lexre_bytes.specs.PatternMemory.{UnlessPatternMemory}
use Rattle.lexre.specs.Limits.{max_nodes}

-- how many nodes the tree of a symbol has
abbrev pub size_of : Symbol → ℕ
size_of (item t) = nodes t
size_of _ = 0

-- what begins a text is no symbol, or one that has too many nodes by itself
abbrev pub IsRefused : Option (Symbol × List ℕ) → Type 0
IsRefused front =
    (s : Symbol) (rest : List ℕ) → ◌≡◌ {A = Option (Symbol × List ℕ)} front (Some (s, rest)) → max_nodes < size_of s
