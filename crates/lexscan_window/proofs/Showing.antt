-- The bytes held, and those shown after them.
use Rattle.std.proofs.Common.{◌≡◌, ℕ, ◌+◌, ◌-◌, ◌≤◌, List, ◌++◌, length, take, drop, take-add, sym, ap, ◌∙◌, arith}
use Rattle.std.proofs.lemmas.List.{take-take, drop-append-le, length-take, length-take-le, drop-take}

-- the bytes up to a place among those shown
pub shown_after : (start end shown k : ℕ) (items : List ℕ) → start ≤ end → end ≤ length items → k ≤ length (take (shown - end) (drop end items)) →
    drop start (take (end + k) items) ≡ drop start (take end items) ++ take k (take (shown - end) (drop end items))
shown_after start end shown k items le inside few =
    ap (drop start) (take-add end k items)
    ∙ drop-append-le start (take end items) (take k (drop end items)) (omega (arith, le, length-take-le end items inside))
    ∙ ap (λ l. drop start (take end items) ++ l) (sym (take-take k (shown - end) (drop end items) (omega (arith, few, length-take (shown - end) (drop end items)))))

-- the same, taken after dropping
pub shown_slice : (start end shown k : ℕ) (items : List ℕ) → start ≤ end → end ≤ length items → k ≤ length (take (shown - end) (drop end items)) →
    take (end + k - start) (drop start items) ≡ drop start (take end items) ++ take k (take (shown - end) (drop end items))
shown_slice start end shown k items le inside few =
    let size : start + (end + k - start) ≡ end + k = omega (arith, le) in
    sym (drop-take start (end + k - start) items) ∙ ap (λ n. drop start (take n items)) size ∙ shown_after start end shown k items le inside few
