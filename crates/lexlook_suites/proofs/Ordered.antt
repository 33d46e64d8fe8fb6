-- Each byte comes once.
use Rattle.std.proofs.lemmas.Bool.Decides.{nat_tests}
use Rattle.std.proofs.Common.{◌≡◌, ◌∙◌, ◌<◌, ◌+◌, ◌-◌, ℕ, zero, suc, Bool, true, inl, inr, refl, ap, arith}
use Rattle.std.specs.Prelude.{◌==◌, ◌&&◌, nat_lt, if◌then◌else◌}
use Rattle.std.proofs.lemmas.Bool.{and_parts, cases_eq, eqb-true}
use Rattle.lexlook_suites.specs.Orders.{byte_at}

low_is : (a b : ℕ) → nat_lt a b ≡ true → a < b
low_is a b e = grind (arith, nat_tests)

all_below : (ℕ → Bool) → ℕ → Bool
all_below f zero = true
all_below f (suc n) = f n && all_below f n

-- as which byte it comes
rank : ℕ → ℕ
rank b =
    if nat_lt b 9 then b + 247
    else if nat_lt b 32 then b + 86
    else if nat_lt b 97 then b - 6
    else if nat_lt b 123 then b - 97
    else if nat_lt b 127 then b - 32
    else b - 9

all_at : (f : ℕ → Bool) (n b : ℕ) → b < n → all_below f n ≡ true → f b ≡ true
unfolding all_below
all_at f zero b low all = absurd (omega (arith, low))
all_at f (suc n) b low all =
    let two = and_parts (f n) (all_below f n) all in
    elim (cases_eq b n) [
      | inl same ↦ ap f same ∙ two.0
      | inr other ↦ all_at f n b (omega (arith, low, other)) two.1
    ]

low_ranks : all_below (λ r. nat_lt (byte_at r) 256) 256 ≡ true
unfolding byte_at all_below
low_ranks = refl

pub byte_low : (r : ℕ) → r < 256 → byte_at r < 256
byte_low r low = low_is (byte_at r) 256 (all_at (λ r. nat_lt (byte_at r) 256) 256 r low low_ranks)

all_ranks : all_below (λ b. nat_lt (rank b) 256 && (byte_at (rank b) == b)) 256 ≡ true
unfolding byte_at all_below rank
all_ranks = refl

pub rank_of : (b : ℕ) → b < 256 → (r : ℕ) × (r < 256) × (byte_at r ≡ b)
rank_of b low =
    let two = and_parts (nat_lt (rank b) 256) (byte_at (rank b) == b) (all_at (λ b. nat_lt (rank b) 256 && (byte_at (rank b) == b)) 256 b low all_ranks) in
    (rank b, low_is (rank b) 256 two.0, eqb-true (byte_at (rank b)) b two.1)
