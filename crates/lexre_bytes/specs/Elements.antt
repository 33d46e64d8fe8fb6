-- What a `ClassItem` of a class stands for.
use Rattle.std.specs.Prelude.{ℕ, List, Option, None, Bool, codes, ◌&&◌, not, take, drop}
use Rattle.lex_semantics.specs.ByteSets.{ByteSet, named_set}
use Rattle.lexre_bytes.specs.Lexical.{span}
use Rattle.lexre_bytes.specs.declared.class_item.ClassItem.{ClassItem}
use Rattle.lex_semantics.specs.Reading.{begins}
use Rattle.std.specs.List.{list_any}
use Rattle.lex_semantics.specs.Active.{contains}

-- the set of an element, if it has one
abbrev pub Element : Type 0
Element = Option ByteSet

-- `[:name:]`
abbrev pub named : List ℕ → Element
named letters = named_set letters

-- what may not stand in a class
abbrev pub unsupported : Element
unsupported = None

abbrev pub element_of : ClassItem → Element
element_of (ClassItem.Span lo hi) = span lo hi
element_of (ClassItem.Named letters) = named letters.now
element_of (ClassItem.Refused fault) = unsupported

-- a `-` that is followed by anything but an unescaped `]`
abbrev pub is_range : List ℕ → Bool
is_range t = begins (codes "-") t && list_any (λ c. not (contains (codes "]") c)) (take 1 (drop 1 t))
