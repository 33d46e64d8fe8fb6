-- What rules are called.
use Rattle.std.proofs.Common.{◌≡◌, ◌<◌, ◌≤◌, ◌∙◌, ◌++◌, ℕ, List, [], Vec, true, false, get_or, length, map, ap, sym, append-nil, arith}
use Rattle.std.proofs.lemmas.List.{get_or-map}
use Rattle.std.proofs.lemmas.List.Sums.{position_or_len_is}
use Rattle.lex_semantics.specs.ByteSets.{same_bytes}
use Rattle.lexlook_specs.proofs.Joining.{in_six}
use Rattle.lexlook_calls.specs.Headers.{first_called}

-- a name that is read is that of the list
pub item_at : {Y : Type 0} (names : List (Vec ℕ Y)) (i : ℕ) (name : Vec ℕ Y) → i < length names → name ≡ get_or names i name → name.items ≡ get_or (map (λ n. n.items) names) i []
item_at {Y} names i name h e = ap (λ n. n.items) e ∙ sym (get_or-map (λ (n : Vec ℕ Y). n.items) names i name [] h)

-- the first place at which a list has what it has at this one
pub is_first : (names : List (List ℕ)) (i k : ℕ) → k ≤ i → i < length names → ((j : ℕ) → j < k → same_bytes (get_or names i []) (get_or names j []) ≡ false) → same_bytes (get_or names i []) (get_or names k []) ≡ true → k ≡ first_called names i
is_first names i k low within before here =
    sym (position_or_len_is (same_bytes (get_or names i [])) names k [] (omega (arith, low, within)) before (λ h. here))

-- two names that are read are the same just where those of the list are
pub same_named : {Y : Type 0} (names : List (Vec ℕ Y)) (i j : ℕ) (x y : Vec ℕ Y) (a b : List ℕ) → i < length names → j < length names → x ≡ get_or names i x → y ≡ get_or names j y → a ≡ x.items → b ≡ y.items
    → same_bytes a b ≡ same_bytes (get_or (map (λ n. n.items) names) i []) (get_or (map (λ n. n.items) names) j [])
same_named names i j x y a b hi hj ex ey ea eb =
    ap (λ l. same_bytes l b) (ea ∙ item_at names i x hi ex) ∙ ap (same_bytes (get_or (map (λ n. n.items) names) i [])) (eb ∙ item_at names j y hj ey)

-- five parts that were appended
pub in_five : (old a b c d e one two three four text : List ℕ) → one ≡ old ++ a → two ≡ one ++ b → three ≡ two ++ c → four ≡ three ++ d → text ≡ four ++ e → text ≡ old ++ (a ++ (b ++ (c ++ (d ++ (e ++ [])))))
in_five old a b c d e one two three four text h1 h2 h3 h4 h5 = in_six old a b c d e [] one two three four text text h1 h2 h3 h4 h5 (sym (append-nil text))
