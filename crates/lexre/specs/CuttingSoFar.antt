-- What is known of a rule's pattern up to a place, and what the pieces that follow make of it.
use Rattle.std.specs.Prelude.{ℕ, zero, suc, ◌-◌, Bool, true, ◌||◌, List, [], ◌∷◌, Option, Some, None}
use Rattle.lex_semantics.specs.Reading.{◌>>=◌}
use Rattle.lexre.specs.Pieces.{Piece, opens, closes, slash, dollar, other, slashes, ends_with_dollar, first_of, has_two}
use Rattle.lexre.specs.declared.cutting.Kind.{Kind}
use Rattle.lexre.specs.declared.cutting.Kind.TheVariants.{Opens, Closes, Slash, Dollar, Other}
use Rattle.lexre.specs.declared.cutting.CuttingSoFar.{CuttingSoFar}

abbrev pub piece_of : Kind → Piece
piece_of Opens = opens
piece_of Closes = closes
piece_of Slash = slash
piece_of Dollar = dollar
piece_of Other = other

-- How many parentheses are open behind a piece, where n are before it. None behind a slash inside parentheses.
abbrev pub depth_past : ℕ → Piece → Option ℕ
depth_past n opens = Some (suc n)
depth_past n closes = Some (n - 1)
depth_past zero slash = Some zero
depth_past (suc n) slash = None
depth_past n dollar = Some n
depth_past n other = Some n

-- the first slash, by that of the part before, and the slashes that follow
abbrev pub first_with : Option ℕ → List ℕ → Option ℕ
first_with None places = first_of places
first_with (Some at) places = Some at

abbrev pub two_with : Bool → Option ℕ → List ℕ → Bool
two_with two None places = two || has_two places
two_with two (Some at) [] = two
two_with two (Some at) (next ∷ places) = true

abbrev pub special_with : Bool → List (Piece × ℕ) → Bool
special_with special [] = special
special_with special (p ∷ ps) = ends_with_dollar (p ∷ ps)

-- the first slash, whether there is a second, and whether the last piece is a `$`; or none where a slash is inside
-- parentheses
abbrev pub Ending : Type 0
Ending = Option (Option ℕ × Bool × Bool)

unfoldable pub ending : CuttingSoFar → List (Piece × ℕ) → Ending
ending p ps =
    slashes p.depth ps >>= λ places. Some
    (first_with p.slash places, two_with p.two p.slash places, special_with p.dollar ps)
