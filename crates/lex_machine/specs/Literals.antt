-- The bytes that an action writes beside the text. (POSIX, Actions in lex.)
use Rattle.std.specs.Prelude.{ℕ, suc, length, List, [], ◌∷◌, ⊤}
use Rattle.lex_semantics.specs.Spec.{Statement}
use Rattle.lex_semantics.specs.Literals.{literal_of}
use Rattle.lex_semantics.specs.Text.{IsText}

-- each of the list meets P at its place, the places being counted from i on
abbrev pub Each : {A : Type 0} → (ℕ → A → Type 0) → ℕ → List A → Type 0
Each P i [] = ⊤
Each P i (x ∷ xs) = P i x × Each P (suc i) xs

-- Names that the code has for how many bytes a statement prints as they stand, and for what they are.

abbrev pub literal_bytes : Statement → ℕ
literal_bytes s = length (literal_of s)

abbrev pub HasText : ℕ → Statement → Type 0
HasText i s = IsText (literal_of s)
