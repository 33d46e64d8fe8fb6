-- Where the positions of rules begin.
use Rattle.std.proofs.Common.{◌≡◌, ℕ, zero, suc, ◌+◌, ◌≤◌, List, [], ◌∷◌, Some, drop, refl, ap, ◌∙◌, arith}
use Rattle.std.specs.Prelude.{slice_get}
use Rattle.lex_semantics.specs.Spec.{Rule}
use Rattle.lex_semantics.specs.Subsets.{positions_of_rule, all_positions, base_of}

pub base_low : (rules : List Rule) (base j : ℕ) → base ≤ base_of rules base j
base_low [] base j = omega arith
base_low (r ∷ rules) base zero = omega arith
base_low (r ∷ rules) base (suc j) = let h = base_low rules (base + positions_of_rule r) j in omega (arith, h)

pub base_up : (rules : List Rule) (base i j : ℕ) → i ≤ j → base_of rules base i ≤ base_of rules base j
base_up [] base i j h = omega arith
base_up (r ∷ rules) base zero j h = base_low (r ∷ rules) base j
base_up (r ∷ rules) base (suc i) zero h = absurd (omega (arith, h))
base_up (r ∷ rules) base (suc i) (suc j) h = base_up rules (base + positions_of_rule r) i j (omega (arith, h))

pub base_within : (rules : List Rule) (base i : ℕ) → base_of rules base i ≤ base + all_positions rules
base_within [] base i = omega arith
base_within (r ∷ rules) base zero = omega arith
base_within (r ∷ rules) base (suc i) = let h = base_within rules (base + positions_of_rule r) i in omega (arith, h)

pub base_first : (rules : List Rule) (base : ℕ) → base_of rules base 0 ≡ base
base_first [] base = refl
base_first (r ∷ rules) base = refl

-- the next rule's begin behind those of this one
pub base_next : (rules : List Rule) (base i : ℕ) (r : Rule) → slice_get rules i ≡ Some r → base_of rules base (suc i) ≡ base_of rules base i + positions_of_rule r
base_next [] base i r at = absurd cc
base_next (q ∷ rules) base zero r at =
    let same : q ≡ r = cc in
    base_first rules (base + positions_of_rule q) ∙ ap (λ (z : Rule). base + positions_of_rule z) same
base_next (q ∷ rules) base (suc i) r at = base_next rules (base + positions_of_rule q) i r at

-- those of the rules behind the first i
pub base_behind : (rules : List Rule) (base i n : ℕ) → base_of (drop i rules) (base_of rules base i) n ≡ base_of rules base (i + n)
base_behind [] base zero n = refl
base_behind [] base (suc i) n = refl
base_behind (r ∷ rules) base zero n = let e : n ≡ 0 + n = omega arith in ap (base_of (r ∷ rules) base) e
base_behind (r ∷ rules) base (suc i) n =
    let e : suc (i + n) ≡ suc i + n = omega arith in
    base_behind rules (base + positions_of_rule r) i n ∙ ap (base_of (r ∷ rules) base) e
