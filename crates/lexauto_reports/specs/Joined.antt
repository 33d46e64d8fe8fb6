-- Texts put one after the other.
use Rattle.std.specs.Prelude.{ℕ, List, flat_map}
use Rattle.std.specs.Borrow.{Bor}

-- the bytes of all parts
abbrev pub joined : List (Bor (List ℕ)) → List ℕ
joined parts = flat_map (λ part. part.now) parts
