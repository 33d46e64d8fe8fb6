-- Signs on items: an item may be left out, repeated, or both. (This project's.)
use Rattle.std.specs.Prelude.{Bool, true, false, Some, None}
use Rattle.lex_semantics.specs.Tree.{Tree, Star, Repeat}
use Rattle.lexauto_positions.specs.declared.layout.Operator.{Operator}
use Rattle.lexauto_positions.specs.declared.layout.Operator.TheVariants as S

-- whether the item may be left out
abbrev pub skips : Operator → Bool
skips S.Optional = true
skips S.Plus = false
skips S.Star = true

-- whether the item may be repeated
abbrev pub repeats : Operator → Bool
repeats S.Optional = false
repeats S.Plus = true
repeats S.Star = true

-- the item under the sign
abbrev pub signed : Operator → Tree → Tree
signed S.Optional t = Repeat t 0 (Some 1)
signed S.Plus t = Repeat t 1 None
signed S.Star t = Star t
