-- Literals of actions, and actions in normal form: no literal is empty, and no two are neighbours.
-- (POSIX, lex, Actions in lex, has the literals; the normal form is this project's.)
use Rattle.std.specs.Prelude.{ℕ, List, [], ◌∷◌, ◌++◌}
use Rattle.lex_semantics.specs.Spec.{Statement, Print}

-- the bytes that a statement prints as they stand
abbrev pub literal_of : Statement → List ℕ
literal_of (Print bs) = bs
literal_of _ = []

-- a statement before others in normal form: an empty literal is dropped, and one before another is joined with it
abbrev pub prepend : Statement → List Statement → List Statement
prepend (Print []) ss = ss
prepend (Print (b ∷ bs)) (Print more ∷ ss) = Print (b ∷ bs ++ more) ∷ ss
prepend s ss = s ∷ ss

abbrev pub normal : List Statement → List Statement
normal [] = []
normal (s ∷ ss) = prepend s (normal ss)
