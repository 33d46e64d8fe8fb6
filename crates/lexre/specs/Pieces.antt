-- A pattern's pieces, by their kinds and places, as the code takes them one after another.
use Rattle.std.specs.Prelude.{◌≡◌, ℕ, zero, suc, ◌+◌, ◌-◌, Bool, true, false, ◌==◌, if◌then◌else◌, List, [], ◌∷◌, length, Option, Some, None}
use Rattle.lex_semantics.specs.Reading.{◌>>=◌, Reader, is_white}
use Rattle.lexre.specs.Cutting.{piece_at}

pub data Piece : Type 0 where
  opens : Piece
  closes : Piece
  slash : Piece
  dollar : Piece
  -- any other byte, an escape, a text in quotes, or a class
  other : Piece

-- the kind of the piece that the text begins with
abbrev pub kind_of : List ℕ → Piece
kind_of [] = other
kind_of (c ∷ t) =
    if c == 40 then opens
    else if c == 41 then closes
    else if c == 47 then slash
    else if c == 36 then dollar
    else other

unfoldable pub kind_at : Reader Piece
kind_at t = piece_at t >>= λ (u, rest). Some (kind_of t, rest)

-- the text ends there, or goes on with a blank or a newline
abbrev pub IsEnd : List ℕ → Type 0
IsEnd [] = Unit {0}
IsEnd (c ∷ t) = is_white c ≡ true

-- The text, which stands at the place `at`, begins with these pieces, each with its place, up to the end of the
-- pattern.
abbrev pub IsPieces : ℕ → List ℕ → List (Piece × ℕ) → ℕ → Type 0
IsPieces at text [] end = IsEnd text × (end ≡ at)
IsPieces at text (p ∷ ps) end =
    (rest : List ℕ) × (kind_at text ≡ Some (p.0, rest)) × (p.1 ≡ at)
    × IsPieces (at + (length text - length rest)) rest ps end

-- The places of the slashes outside parentheses, or none where one is inside. n are open before, and a closing one with
-- none open counts for nothing.
unfoldable pub slashes : ℕ → List (Piece × ℕ) → Option (List ℕ)
slashes n [] = Some []
slashes n ((opens, at) ∷ ps) = slashes (suc n) ps
slashes n ((closes, at) ∷ ps) = slashes (n - 1) ps
slashes zero ((slash, at) ∷ ps) = slashes zero ps >>= λ places. Some (at ∷ places)
slashes (suc n) ((slash, at) ∷ ps) = None
slashes n ((dollar, at) ∷ ps) = slashes n ps
slashes n ((other, at) ∷ ps) = slashes n ps

abbrev pub is_dollar : Piece → Bool
is_dollar opens = false
is_dollar closes = false
is_dollar slash = false
is_dollar dollar = true
is_dollar other = false

-- a `$` that comes last is special
unfoldable pub ends_with_dollar : List (Piece × ℕ) → Bool
ends_with_dollar [] = false
ends_with_dollar (p ∷ []) = is_dollar p.0
ends_with_dollar (p ∷ q ∷ ps) = ends_with_dollar (q ∷ ps)

abbrev pub first_of : List ℕ → Option ℕ
first_of [] = None
first_of (at ∷ places) = Some at

abbrev pub has_two : List ℕ → Bool
has_two [] = false
has_two (at ∷ []) = false
has_two (at ∷ next ∷ places) = true

-- a cutting, by the kinds and places of the pieces
pub record IsCutSo (text : List ℕ) (end : ℕ) (first_slash : Option ℕ) (two special : Bool) : Type 0 where
  pub pieces : List (Piece × ℕ)
  pub cut : IsPieces 0 text pieces end
  pub places : List ℕ
  pub outside : slashes 0 pieces ≡ Some places
  pub first : first_slash ≡ first_of places
  pub second : two ≡ has_two places
  pub last : special ≡ ends_with_dollar pieces
