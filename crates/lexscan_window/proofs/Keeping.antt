-- The bytes kept behind, and the text of a match at their end.
use Rattle.std.proofs.Common.{◌≡◌, ℕ, ◌+◌, ◌-◌, ◌≤◌, List, ◌++◌, length, take, drop, take-add, sym, ap, ◌∙◌, append-nil, arith}
use Rattle.std.proofs.Math.Seq.{drop-append_seam}
use Rattle.std.proofs.lemmas.List.{take-take, length-append, length-take-le, length-drop, drop-take}
use Rattle.lexscan_window.specs.Window.{last_of}

-- how many bytes stand before a place of the buffer
pub fits_in : (start end n : ℕ) (items : List ℕ) → start ≤ end → end ≤ length items → n ≤ length (drop start (take end items)) → start + n ≤ end
fits_in start end n items le inside few = omega (arith, le, few, length-drop start (take end items), length-take-le end items inside)

-- what is dropped is kept behind
pub behind_more : (start end n : ℕ) (items : List ℕ) → start + n ≤ end → take (start + n) items ≡ take start items ++ take n (drop start (take end items))
behind_more start end n items le =
    let size : start + (end - start) ≡ end = omega (arith, le) in
    take-add start n items
    ∙ ap (λ l. take start items ++ l)
    (sym (take-take n (end - start) (drop start items) (omega (arith, le))) ∙ ap (take n) (sym (drop-take start (end - start) items) ∙ ap (λ m. drop start (take m items)) size))

-- a slice before a place
pub slice_before : (start end at count s : ℕ) (items : List ℕ) → start + at ≤ end → end ≤ length items → s ≡ start + at - count →
    take (start + at - s) (drop s items) ≡ last_of count (take start items ++ take at (drop start (take end items)))
slice_before start end at count s items le inside is =
    let size : s + (start + at - s) ≡ start + at = omega (arith, is) in
    let before : s ≡ length (take (start + at) items) - count = omega (arith, is, length-take-le (start + at) items (omega (arith, le, inside))) in
    sym (drop-take s (start + at - s) items)
    ∙ ap (λ m. drop s (take m items)) size
    ∙ ap (λ m. drop m (take (start + at) items)) before
    ∙ ap (last_of count) (behind_more start end at items le)

ends_with : (b t : List ℕ) (n : ℕ) → length t ≡ n → last_of n (b ++ t) ≡ t
ends_with b t n e =
    let front : length (b ++ t) - n ≡ length b = omega (arith, e, length-append b t) in
    ap (λ m. drop m (b ++ t)) front ∙ drop-append_seam b t

-- the text of a match, where the next text begins with it
pub text_stays : (b w held : List ℕ) (end at : ℕ) → end ≤ length w → held ≡ w → at ≡ end → last_of end (b ++ take at held) ≡ take end w
text_stays b w held end at inside is place =
    ap (λ l. last_of end (b ++ take at l)) is ∙ ap (λ k. last_of end (b ++ take k w)) place ∙ ends_with b (take end w) end (length-take-le end w inside)

-- the text of a match, where it was dropped
pub text_dropped : (b b' w held : List ℕ) (end at : ℕ) → end ≤ length w → b' ≡ b ++ take end w → at ≡ 0 → last_of end (b' ++ take at held) ≡ take end w
text_dropped b b' w held end at inside is place =
    ap (λ k. last_of end (b' ++ take k held)) place ∙ ap (last_of end) (append-nil b' ∙ is) ∙ ends_with b (take end w) end (length-take-le end w inside)
