-- What is told of one rule more.
use Rattle.std.proofs.Common.{◌≡◌, ◌∙◌, ℕ, zero, suc, ◌+◌, List, ◌++◌, ap, sym, append_assoc, append-nil, arith, flat_map}
use Rattle.std.specs.List.{range_with_len}
use Rattle.lexlook_check.specs.Takings.{TakenTexts}

range_more : (f : ℕ → List TakenTexts) (a n : ℕ) → flat_map f (range_with_len a (n + 1)) ≡ flat_map f (range_with_len a n) ++ f (a + n)
range_more f a zero = let e : a ≡ a + 0 = omega arith in append-nil (f a) ∙ ap f e
range_more f a (suc n) =
    let e : suc n + 1 ≡ suc (n + 1) = omega arith in
    let d : a + 1 + n ≡ a + suc n = omega arith in
    ap (λ (k : ℕ). flat_map f (range_with_len a k)) e ∙ ap (λ (l : List TakenTexts). f a ++ l) (range_more f (a + 1) n)
    ∙ sym (append_assoc (f a) (flat_map f (range_with_len (a + 1) n)) (f (a + 1 + n)))
    ∙ ap (λ (k : ℕ). (f a ++ flat_map f (range_with_len (a + 1) n)) ++ f k) d

pub more_told : (f : ℕ → List TakenTexts) (told next : List TakenTexts) (n : ℕ) → told ≡ flat_map f (range_with_len 0 n) → next ≡ told ++ f n → next ≡ flat_map f (range_with_len 0 (n + 1))
more_told f told next n e h =
    let d : n ≡ 0 + n = omega arith in
    h ∙ ap (λ (l : List TakenTexts). l ++ f n) e ∙ ap (λ (k : ℕ). flat_map f (range_with_len 0 n) ++ f k) d ∙ sym (range_more f 0 n)
