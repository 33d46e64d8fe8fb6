-- What a `Piece` stands for.
use Rattle.std.specs.Prelude.{ℕ, List}
use Rattle.lexlook_text.specs.declared.pieces.Piece.{Piece}

-- its place and its bytes
abbrev pub piece_of : Piece → ℕ × List ℕ
piece_of p = (p.at, p.text.now)
