-- States whose first rule does yymore alone. (flex, Actions.)
use Rattle.std.specs.Prelude.{◌≡◌, ℕ, Bool, true, false, List, [], ◌∷◌}
use Rattle.lex_semantics.specs.Spec as S
use Rattle.lex_semantics.specs.Machine.{Machine}
use Rattle.lex_semantics.specs.Text.{flag}

-- an action that is yymore alone
abbrev pub is_more : List S.Statement → Bool
is_more (S.More ∷ []) = true
is_more ss = false

-- the same of a rule that keeps all of a match
abbrev pub more_keeping : S.Cut → List S.Statement → Bool
more_keeping S.Whole ss = is_more ss
more_keeping cut ss = false

abbrev pub more_first : Machine → List ℕ → Bool
more_first M [] = false
more_first M (rule ∷ others) = more_keeping (M.cut rule) (M.statements rule)

-- whether the first rule that a state accepts does that
abbrev pub does_more : Machine → ℕ → Bool
does_more M s = more_first M (M.accepts s)

-- each state of which that is told
abbrev pub TellMore : Machine → List Bool → Type 0
TellMore M mores = (s : ℕ) → flag mores s ≡ true → does_more M s ≡ true
