-- What the sink between slices keeps. (Own.)
use Rattle.std.specs.Prelude.{◌≡◌, ℕ, List, [], ◌++◌}
use Rattle.std.proofs.Common.{sym, ap, ◌∙◌, append-nil, append_assoc}

-- the sink grew by these bytes
abbrev pub Kept : List ℕ → List ℕ → List ℕ → Type 0
Kept old new bytes = new ≡ old ++ bytes

pub Kept-nil : (a : List ℕ) → Kept a a []
Kept-nil a = sym (append-nil a)

pub Kept-trans : (a b c : List ℕ) (xs ys : List ℕ) → Kept a b xs → Kept b c ys → Kept a c (xs ++ ys)
Kept-trans a b c xs ys p q = q ∙ ap (λ l. l ++ ys) p ∙ append_assoc a xs ys
