-- What the calls of a source over memory do to its bytes.
use Rattle.std.specs.Prelude.{◌≡◌, ℕ, true, false, List, [], ◌++◌}
use Rattle.std.proofs.Common.{◌<◌, ◌^◌, sym, ap, ◌∙◌, append_assoc, lit<}

-- the source lost these bytes
abbrev pub Takes : List ℕ → List ℕ → List ℕ → Type 0
Takes rest rest' bytes = rest ≡ bytes ++ rest'

pub Takes-trans : (a b c : List ℕ) (xs ys : List ℕ) → Takes a b xs → Takes b c ys → Takes a c (xs ++ ys)
Takes-trans a b c xs ys p q = p ∙ ap (λ l. xs ++ l) q ∙ sym (append_assoc xs ys c)

-- a source that never waits may have bytes ready
pub never-waits : (ready : List ℕ) → false ≡ true → ready ≡ []
never-waits ready e = absurd (no e)
  where
    no : false ≡ true → ⊥
    no p = cc

-- the count of failures of an end that never fails
pub never-fails : 0 < 2 ^ 64
never-fails = lit< tt
