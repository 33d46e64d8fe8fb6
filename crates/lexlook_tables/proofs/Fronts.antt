-- One element more of a list that is gone over.
use Rattle.std.proofs.Common.{◌≡◌, ℕ, zero, suc, ◌+◌, ◌<◌, List, [], ◌∷◌, length, take, ◌⊎◌, inl, inr, subst, get_or, arith}
use Rattle.std.proofs.lemmas.List.{take_more}
use Rattle.lex_semantics.specs.Text.{Among, Ascending}
use Rattle.lexlook_tables.proofs.Searches.{among_either}

pub among_front : (xs : List ℕ) (k x : ℕ) → k < length xs → Among (take (k + 1) xs) x → Among (take k xs) x ⊎ (x ≡ get_or xs k 0)
among_front xs k x lt at = among_either (take k xs) (get_or xs k 0) x (subst (λ l. Among l x) (take_more xs k 0 lt) at)

-- of numbers that ascend a smaller one is in front
pub among_before : (xs : List ℕ) (k y : ℕ) → Ascending xs → k < length xs → Among xs y → y < get_or xs k 0 → Among (take k xs) y
among_before [] k y asc lt at less = absurd at
among_before (x ∷ xs) zero y asc lt (inl e) less = absurd (omega (arith, e, less))
among_before (x ∷ xs) zero y asc lt (inr at) less = absurd (let more = asc.0 y at in omega (arith, more, less))
among_before (x ∷ xs) (suc k) y asc lt (inl e) less = inl e
among_before (x ∷ xs) (suc k) y asc lt (inr at) less = inr (among_before xs k y asc.1 (omega (arith, lt)) at less)
