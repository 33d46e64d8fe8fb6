-- Numbers by their lowest six bits and what stands above.
use Rattle.std.proofs.Common.{◌≡◌, ℕ, ◌+◌, ◌*◌, ◌/◌, ◌%◌, ◌≤◌, inl, inr, ap, arith}
use Rattle.lexlook_letters.specs.Cutting.{IsWhole}

-- what lies between has parts that lie between
pub parted : (first last c : ℕ) → IsWhole first last → first ≤ c → c ≤ last
    → (first / 64 ≤ c / 64) × (c / 64 ≤ last / 64) × (first % 64 ≤ c % 64) × (c % 64 ≤ last % 64)
parted first last c (inl same) l m = (omega arith, omega arith, omega arith, omega arith)
parted first last c (inr (zeros, ones)) l m = (omega arith, omega arith, omega arith, omega arith)

-- parts that lie between are those of a number that does
pub put_together : (first last q r : ℕ) → IsWhole first last → first / 64 ≤ q → q ≤ last / 64 → first % 64 ≤ r → r ≤ last % 64
    → (first ≤ q * 64 + r) × (q * 64 + r ≤ last) × ((q * 64 + r) / 64 ≡ q) × ((q * 64 + r) % 64 ≡ r)
put_together first last q r (inl same) a b c d = (omega arith, omega arith, omega arith, omega arith)
put_together first last q r (inr (zeros, ones)) a b c d = (omega arith, omega arith, omega arith, omega arith)

-- the lowest six bits are in order
pub low_order : (first last : ℕ) → first ≤ last → IsWhole first last → first % 64 ≤ last % 64
low_order first last h (inl same) = omega arith
low_order first last h (inr (zeros, ones)) = omega arith

-- Where what stands above differs, it may end earlier.
pub wider : (first end above : ℕ) → IsWhole first end → (first / 64 ≡ end / 64 → ⊥) → first / 64 ≤ above → above ≤ end / 64
    → IsWhole first (above * 64 + 63) × (first ≤ above * 64 + 63) × (above * 64 + 63 ≤ end) × ((above * 64 + 63) / 64 ≡ above)
wider first end above (inl same) differ l m = absurd (differ same)
wider first end above (inr (zeros, ones)) differ l m =
    (let low : (above * 64 + 63) % 64 ≡ 63 = omega arith in inr (zeros, low), omega arith, omega arith, omega arith)

-- where what stands above is the same, so is what stands above that
pub same_above : (first last : ℕ) → first / 64 ≡ last / 64 → IsWhole (first / 64) (last / 64)
same_above first last same = inl (ap (λ n. n / 64) same)

pub same_twice : (first last : ℕ) → first / 64 ≡ last / 64 → IsWhole (first / 64 / 64) (last / 64 / 64)
same_twice first last same = inl (ap (λ n. n / 64 / 64) same)
