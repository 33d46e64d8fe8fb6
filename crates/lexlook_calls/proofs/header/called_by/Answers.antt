use Rattle.std.proofs.Common.{◌≡◌, ◌<◌, ℕ, List, [], ◌∷◌, ◌++◌, length, codes, refl, arith}
use Rattle.std.specs.Prelude.{decimal}
use Rattle.lexlook_calls.specs.Headers.{called_by}

by_name : (line : ℕ) (name : List ℕ) → 0 < length name → codes "RULE_" ++ name ≡ called_by line name
by_name line [] h = absurd (omega (arith, h))
by_name line (b ∷ name) h = refl

by_line : (line : ℕ) (name : List ℕ) → length name ≡ 0 → codes "LINE_" ++ decimal line ≡ called_by line name
by_line line [] e = refl
by_line line (b ∷ name) e = absurd (omega (arith, e))
