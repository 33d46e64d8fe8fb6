-- Tokens of which few bytes are kept, and what they are drawn out to.
use Rattle.std.proofs.Common.{rules, ◌≡◌, ℕ, zero, suc, ◌+◌, ◌^◌, ◌<◌, ◌≤◌, inl, inr, ◌⊎◌, min, List, [], ◌∷◌, ◌++◌, length, take, drop, refl, sym, ap, ◌∙◌, length-append, append_assoc, take-append-drop, arith}
use Rattle.std.specs.Prelude.{slice_set, slice_index_or}
use Rattle.std.proofs.lemmas.List.{take_all, drop_all, take_at, drop_at, drop-drop, append-nil, nil_from_length, length-take}
use Rattle.lexscan.specs.Series.{end_of}
use Rattle.lexscan.specs.declared.series.BriefToken.{BriefToken}
use Rattle.liblex_calls.specs.Brief.{long_token, long_tokens}
use Rattle.liblex_calls.specs.declared.listing.TextToken.{TextToken}

pub drawn_length : (start : ℕ) (ts : List BriefToken) → length (long_tokens start ts) ≡ length ts
drawn_length start [] = refl
drawn_length start (t ∷ ts) = ap suc (drawn_length (start + t.length) ts)

-- one token more
pub drawn_more : (start : ℕ) (ts : List BriefToken) (t : BriefToken) → long_tokens start (ts ++ t ∷ []) ≡ long_tokens start ts ++ long_token (end_of start ts) t ∷ []
drawn_more start [] t = refl
drawn_more start (u ∷ ts) t = ap (λ l. long_token start u ∷ l) (drawn_more (start + u.length) ts t)

-- others behind them
pub end_with : (start : ℕ) (ts us : List BriefToken) → end_of start (ts ++ us) ≡ end_of (end_of start ts) us
end_with start [] us = refl
end_with start (t ∷ ts) us = end_with (start + t.length) ts us

pub drawn_with : (start : ℕ) (ts us : List BriefToken) → long_tokens start (ts ++ us) ≡ long_tokens start ts ++ long_tokens (end_of start ts) us
drawn_with start [] us = refl
drawn_with start (t ∷ ts) us = ap (λ l. long_token start t ∷ l) (drawn_with (start + t.length) ts us)

-- the first of them
pub drawn_take : (start : ℕ) (ts : List BriefToken) (n : ℕ) → long_tokens start (take n ts) ≡ take n (long_tokens start ts)
drawn_take start ts zero = refl
drawn_take start [] (suc n) = refl
drawn_take start (t ∷ ts) (suc n) = ap (λ l. long_token start t ∷ l) (drawn_take (start + t.length) ts n)

-- Of all tokens the first some end no later.
no_earlier : (start : ℕ) (ts : List BriefToken) → start ≤ end_of start ts
no_earlier start [] = omega arith
no_earlier start (t ∷ ts) = omega (arith, no_earlier (start + t.length) ts)

pub end_within : (start : ℕ) (ts : List BriefToken) (i : ℕ) → end_of start (take i ts) ≤ end_of start ts
end_within start ts zero = no_earlier start ts
end_within start [] (suc i) = omega arith
end_within start (t ∷ ts) (suc i) = end_within (start + t.length) ts i

-- the tokens from a place on
pub drop_next : (ts : List BriefToken) (i : ℕ) (d : BriefToken) → i < length ts → drop i ts ≡ slice_index_or ts i d ∷ drop (suc i) ts
drop_next [] i d low = absurd (omega (arith, low))
drop_next (t ∷ ts) zero d low = refl
drop_next (t ∷ ts) (suc i) d low = drop_next ts i d (omega (arith, low))

pub next_small : (ts : List BriefToken) (start i : ℕ) (d : BriefToken) → i < length ts → end_of start (drop i ts) < 2 ^ 64 → start + (slice_index_or ts i d).length < 2 ^ 64
next_small ts start i d low small =
    let t = slice_index_or ts i d in
    let le = no_earlier (start + t.length) (drop (suc i) ts) in
    omega (arith, le, ap (end_of start) (drop_next ts i d low), small)

-- the token at a place
pub end_next : (start : ℕ) (ts : List BriefToken) (i : ℕ) (d : BriefToken) → i < length ts → end_of start (take (suc i) ts) ≡ end_of start (take i ts) + (slice_index_or ts i d).length
end_next start [] i d low = absurd (omega (arith, low))
end_next start (t ∷ ts) zero d low = refl
end_next start (t ∷ ts) (suc i) d low = end_next (start + t.length) ts i d (omega (arith, low))

pub drawn_at : (start : ℕ) (ts : List BriefToken) (i : ℕ) (d : BriefToken) (e : TextToken) → i < length ts → slice_index_or (long_tokens start ts) i e ≡ long_token (end_of start (take i ts)) (slice_index_or ts i d)
drawn_at start [] i d e low = absurd (omega (arith, low))
drawn_at start (t ∷ ts) zero d e low = refl
drawn_at start (t ∷ ts) (suc i) d e low = drawn_at (start + t.length) ts i d e (omega (arith, low))

-- an item more at the front of a buffer
pub put_more : {A : Type 0} (items old : List A) (i : ℕ) (d : A) → i < length items → i < length old → slice_set (take i items ++ drop i old) i (slice_index_or items i d) ≡ take (suc i) items ++ drop (suc i) old
put_more [] old i d low high = absurd (omega (arith, low))
put_more (t ∷ ts) [] i d low high = absurd (omega (arith, high))
put_more (t ∷ ts) (o ∷ os) zero d low high = search rules
put_more (t ∷ ts) (o ∷ os) (suc i) d low high = ap (λ l. t ∷ l) (put_more ts os i d (omega (arith, low)) (omega (arith, high)))

pub take_next : (ts : List BriefToken) (i : ℕ) (d : BriefToken) → i < length ts → take (suc i) ts ≡ take i ts ++ slice_index_or ts i d ∷ []
take_next [] i d low = absurd (omega (arith, low))
take_next (t ∷ ts) zero d low = refl
take_next (t ∷ ts) (suc i) d low = ap (λ l. t ∷ l) (take_next ts i d (omega (arith, low)))

-- A turn of a loop over tokens, of which the first begins at a place.
module _ (ts : List BriefToken) (first i start : ℕ) (d : BriefToken) (low : i < length ts) (is : start ≡ end_of first (take i ts)) where
  next : suc i ≡ i + 1
  next = omega arith

  pub next_fits : end_of first ts < 2 ^ 64 → start + (slice_index_or ts i d).length < 2 ^ 64
  next_fits small = omega (arith, is, end_next first ts i d low, end_within first ts (suc i), small)

  -- where the next one begins
  pub next_there : start + (slice_index_or ts i d).length ≡ end_of first (take (i + 1) ts)
  next_there = ap (λ s. s + (slice_index_or ts i d).length) is ∙ sym (end_next first ts i d low) ∙ ap (λ k. end_of first (take k ts)) next

  pub next_end : (t : TextToken) → t ≡ long_token start (slice_index_or ts i d) → t.end ≡ end_of first (take (i + 1) ts)
  next_end t e = ap (λ (u : TextToken). u.end) e ∙ next_there

  -- one more is put into a buffer, or appended to a list
  pub next_put : (old buffer : List TextToken) (t : TextToken) → t ≡ long_token start (slice_index_or ts i d) → i < length old → buffer ≡ take i (long_tokens first ts) ++ drop i old → slice_set buffer i t ≡ take (i + 1) (long_tokens first ts) ++ drop (i + 1) old
  next_put old buffer t e high so_far =
      let items = long_tokens first ts in
      let same : t ≡ slice_index_or items i t = e ∙ ap (λ s. long_token s (slice_index_or ts i d)) is ∙ sym (drawn_at first ts i d t low) in
      ap (λ b. slice_set b i t) so_far ∙ ap (λ y. slice_set (take i items ++ drop i old) i y) same ∙ put_more items old i t (omega (arith, low, drawn_length first ts)) high ∙ ap (λ n. take n items ++ drop n old) next

  pub next_listed : (old list : List TextToken) (t : TextToken) → t ≡ long_token start (slice_index_or ts i d) → list ≡ old ++ long_tokens first (take i ts) → list ++ t ∷ [] ≡ old ++ long_tokens first (take (i + 1) ts)
  next_listed old list t e so_far =
      ap (λ l. l ++ t ∷ []) so_far ∙ append_assoc old (long_tokens first (take i ts)) (t ∷ []) ∙ ap (λ y. old ++ (long_tokens first (take i ts) ++ y ∷ [])) (e ∙ ap (λ s. long_token s (slice_index_or ts i d)) is)
      ∙ ap (λ l. old ++ l) (sym (drawn_more first (take i ts) (slice_index_or ts i d)) ∙ ap (long_tokens first) (sym (take_next ts i d low)) ∙ ap (λ k. long_tokens first (take k ts)) next)

-- no more are appended than there are
pub few_listed : (old list : List TextToken) (first i : ℕ) (ts : List BriefToken) → list ≡ old ++ long_tokens first (take i ts) → length list ≤ length old + length ts
few_listed old list first i ts is = omega (arith, ap length is, length-append old (long_tokens first (take i ts)), drawn_length first (take i ts), length-take i ts)

pub either_way : (a b : ℕ) → (a ≤ b) ⊎ (b ≤ a)
either_way a b = grind arith

-- as many items as there are and as there is room for
pub front_put : {A : Type 0} (items old : List A) (n room : ℕ) → length items ≡ n → room ≡ min n (length old) → (n ≤ length old) ⊎ (length old ≤ n) → take room items ++ drop room old ≡ take (length old) items ++ drop n old
front_put items old n room size is (inl le) =
    let same : room ≡ n = omega (arith, is, le) in
    ap (λ k. take k items ++ drop k old) same ∙ ap (λ l. l ++ drop n old) (take_all n items (omega (arith, size)) ∙ sym (take_all (length old) items (omega (arith, size, le))))
front_put items old n room size is (inr le) =
    let same : room ≡ length old = omega (arith, is, le) in
    ap (λ k. take k items ++ drop k old) same ∙ ap (λ l. take (length old) items ++ l) (drop_all (length old) old (omega arith) ∙ sym (drop_all n old le))

-- Some items were put at the front of a buffer, and others behind them.
pub both_put : {A : Type 0} (xs ys old mid new : List A) (n : ℕ) → n ≡ length xs → n + length ys ≤ length old → mid ≡ take (length old) xs ++ drop n old → take n new ≡ take n mid → take (length ys) (drop n new) ≡ ys → drop (n + length ys) new ≡ drop (n + length ys) mid →
    new ≡ take (length old) (xs ++ ys) ++ drop (length (xs ++ ys)) old
both_put xs ys old mid new n size few was front behind rest =
    let sum : length (xs ++ ys) ≡ n + length ys = omega (arith, length-append xs ys, size) in
    let first_half : mid ≡ xs ++ drop n old = was ∙ ap (λ l. l ++ drop n old) (take_all (length old) xs (omega (arith, size, few))) in
    let first : take n new ≡ xs = front ∙ ap (take n) first_half ∙ take_at xs (drop n old) n (sym size) in
    let left : drop n mid ≡ drop n old = ap (drop n) first_half ∙ drop_at xs (drop n old) n (sym size) in
    let last : drop (n + length ys) new ≡ drop (n + length ys) old = rest ∙ sym (drop-drop (length ys) n mid) ∙ ap (drop (length ys)) left ∙ drop-drop (length ys) n old in
    let back : drop n new ≡ ys ++ drop (n + length ys) old = sym (take-append-drop (length ys) (drop n new)) ∙ ap (λ l. l ++ drop (length ys) (drop n new)) behind ∙ ap (λ l. ys ++ l) (drop-drop (length ys) n new ∙ last) in
    sym (take-append-drop n new) ∙ ap (λ l. l ++ drop n new) first ∙ ap (λ l. xs ++ l) back ∙ sym (append_assoc xs ys (drop (n + length ys) old))
    ∙ ap (λ l. l ++ drop (n + length ys) old) (sym (take_all (length old) (xs ++ ys) (omega (arith, sum, few)))) ∙ ap (λ k. take (length old) (xs ++ ys) ++ drop k old) (sym sum)

-- A token more is kept in few bytes, where all others are.
pub brief_more : (ts : List BriefToken) (long : List TextToken) (b : BriefToken) (t : TextToken) → length long ≡ 0 → long_token (end_of 0 ts) b ≡ t → long_tokens 0 (ts ++ b ∷ []) ++ long ≡ (long_tokens 0 ts ++ long) ++ t ∷ []
brief_more ts long b t none is =
    let empty : long ≡ [] = nil_from_length long none in
    let all = long_tokens 0 ts in
    ap (λ l. long_tokens 0 (ts ++ b ∷ []) ++ l) empty ∙ append-nil (long_tokens 0 (ts ++ b ∷ [])) ∙ drawn_more 0 ts b ∙ ap (λ y. all ++ y ∷ []) is
    ∙ ap (λ l. l ++ t ∷ []) (sym (ap (λ l. all ++ l) empty ∙ append-nil all))

-- Several tokens more are kept so, where all others are, and the first begins where the last of those ends.
pub brief_several : (ts us : List BriefToken) (long : List TextToken) (start : ℕ) → length long ≡ 0 → start ≡ end_of 0 ts → long_tokens 0 (ts ++ us) ++ long ≡ (long_tokens 0 ts ++ long) ++ long_tokens start us
brief_several ts us long start none is =
    let empty : long ≡ [] = nil_from_length long none in
    let all = long_tokens 0 ts in
    ap (λ l. long_tokens 0 (ts ++ us) ++ l) empty ∙ append-nil (long_tokens 0 (ts ++ us)) ∙ drawn_with 0 ts us ∙ ap (λ n. all ++ long_tokens n us) (sym is)
    ∙ ap (λ l. l ++ long_tokens start us) (sym (ap (λ l. all ++ l) empty ∙ append-nil all))
