-- Names from their ends.
use Rattle.std.proofs.Common.{◌≡◌, ◌∙◌, ℕ, List, [], ◌∷◌, ◌++◌, reverse, ap}
use Rattle.std.proofs.lemmas.List.{reverse-append}

pub last_first : (s rest : List ℕ) (a : ℕ) → s ≡ rest ++ a ∷ [] → reverse s ≡ a ∷ reverse rest
last_first s rest a is = ap reverse is ∙ reverse-append rest (a ∷ [])
