-- What the calls of a sink over memory do to its bytes.
use Rattle.std.specs.Prelude.{◌≡◌, ℕ, List, [], ◌++◌}
use Rattle.std.proofs.Common.{sym, ap, ◌∙◌, append-nil, append_assoc}

-- the sink grew by these bytes
abbrev pub Grows : List ℕ → List ℕ → List ℕ → Type 0
Grows old new bytes = new ≡ old ++ bytes

pub Grows-nil : (a : List ℕ) → Grows a a []
Grows-nil a = sym (append-nil a)

pub Grows-trans : (a b c : List ℕ) (xs ys : List ℕ) → Grows a b xs → Grows b c ys → Grows a c (xs ++ ys)
Grows-trans a b c xs ys p q = q ∙ ap (λ l. l ++ ys) p ∙ append_assoc a xs ys
