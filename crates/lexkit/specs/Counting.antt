-- Counting bytes, while the number fits 64 bits. (This project's.)
use Rattle.std.proofs.Common.{◌≡◌, ℕ, ◌+◌, ◌^◌, ◌<◌, List, [], ◌++◌, length, arith, length-append}

-- the number after these bytes
abbrev pub Counts : ℕ → List ℕ → ℕ → Type 0
Counts before bytes after = before + length bytes < 2 ^ 64 → after ≡ before + length bytes

pub counts_none : (n : ℕ) → Counts n [] n
counts_none n h = omega arith

pub counts_more : (a b c : ℕ) (xs ys : List ℕ) → Counts a xs b → Counts b ys c → Counts a (xs ++ ys) c
counts_more a b c xs ys f g h =
    let l = length-append xs ys in
    let first = f (omega (arith, l, h)) in
    let second = g (omega (arith, l, h, first)) in
    omega (arith, l, first, second)

pub none_failed : 0 < 2 ^ 64
none_failed = omega arith
