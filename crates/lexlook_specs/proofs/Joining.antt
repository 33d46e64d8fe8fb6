-- Texts that are made part by part.
use Rattle.std.proofs.Common.{◌≡◌, ℕ, zero, suc, ◌+◌, ◌<◌, ◌==◌, Bool, true, false, not, cond, if◌then◌else◌, codes, List, [], ◌∷◌, ◌++◌, length, map, get_or, Some, inl, inr, refl, ap, sym, subst, ◌∙◌, append_assoc, append-nil, arith, flat_map}
use Rattle.std.specs.Prelude.{slice_get, slice_index}
use Rattle.std.specs.List.{range_with_len, count_by}
use Rattle.std.proofs.lemmas.Grind.{flat_map-append}
use Rattle.std.proofs.lemmas.List.FromFn.{get_or-map-range_with_len, length-map-range_with_len}
use Rattle.std.proofs.lemmas.List.Sums.{sum_by-cons}
use Rattle.std.proofs.lemmas.List.{ext_get_or, get_or-map}
use Rattle.std.specs.Borrow.{Bor}
use Rattle.lexlook_specs.specs.Classes.{all_bytes, ranges, size, share, is_mostly_full, opening_of, class_of}
use Rattle.lexlook_specs.specs.Pictures.{quoted, quoted_byte, edge_at, edges, accepting_line, node_line}
use Rattle.lex_semantics.specs.Text.{Among}

pub flat_map-range_more : (f : ℕ → List ℕ) (a n : ℕ) → flat_map f (range_with_len a (n + 1)) ≡ flat_map f (range_with_len a n) ++ f (a + n)
flat_map-range_more f a zero = let e : a ≡ a + 0 = omega arith in append-nil (f a) ∙ ap f e
flat_map-range_more f a (suc n) =
    let e : suc n + 1 ≡ suc (n + 1) = omega arith in
    let d : a + 1 + n ≡ a + suc n = omega arith in
    ap (λ (k : ℕ). flat_map f (range_with_len a k)) e ∙ ap (λ l. f a ++ l) (flat_map-range_more f (a + 1) n)
    ∙ sym (append_assoc (f a) (flat_map f (range_with_len (a + 1) n)) (f (a + 1 + n)))
    ∙ ap (λ (k : ℕ). (f a ++ flat_map f (range_with_len (a + 1) n)) ++ f k) d

-- the parts of the first n numbers, and one part more
pub more_in_range : (f : ℕ → List ℕ) (old text next : List ℕ) (n : ℕ) → text ≡ old ++ flat_map f (range_with_len 0 n) → next ≡ text ++ f n
    → next ≡ old ++ flat_map f (range_with_len 0 (n + 1))
more_in_range f old text next n e h =
    let d : n ≡ 0 + n = omega arith in
    h ∙ ap (λ l. l ++ f n) e ∙ append_assoc old (flat_map f (range_with_len 0 n)) (f n)
    ∙ ap (λ (k : ℕ). old ++ (flat_map f (range_with_len 0 n) ++ f k)) d
    ∙ ap (λ l. old ++ l) (sym (flat_map-range_more f 0 n))

pub flat_map-flat_map : (f g : ℕ → List ℕ) (xs : List ℕ) → flat_map f (flat_map g xs) ≡ flat_map (λ x. flat_map f (g x)) xs
flat_map-flat_map f g [] = refl
flat_map-flat_map f g (x ∷ xs) = flat_map-append f (g x) (flat_map g xs) ∙ ap (λ l. flat_map f (g x) ++ l) (flat_map-flat_map f g xs)

-- the ranges of a set, in quotes
quoted_ranges : (set : ℕ → Bool) → flat_map (λ b. quoted (share set b)) all_bytes ≡ quoted (ranges set)
unfolding ranges
quoted_ranges set = sym (flat_map-flat_map quoted_byte (share set) all_bytes)

bytes_are : (n : ℕ) → n ≡ 256 → range_with_len 0 n ≡ all_bytes
unfolding all_bytes
bytes_are n e = ap (range_with_len 0) e

pub ranges_are : (set : ℕ → Bool) (old text : List ℕ) (n : ℕ) → n ≡ 256 → text ≡ old ++ flat_map (λ b. quoted (share set b)) (range_with_len 0 n) → text ≡ old ++ quoted (ranges set)
ranges_are set old text n e h =
    h ∙ ap (λ l. old ++ flat_map (λ b. quoted (share set b)) l) (bytes_are n e) ∙ ap (λ l. old ++ l) (quoted_ranges set)

-- a row is the list of its elements
row_is : (row : List ℕ) (n : ℕ) → length row ≡ n → map (slice_index row) (range_with_len 0 n) ≡ row
row_is row n e = ext_get_or 0 _ _ (length-map-range_with_len (slice_index row) 0 n ∙ sym e)
    (λ i h. (
    let g : i < n = omega (arith, h, length-map-range_with_len (slice_index row) 0 n) in
    get_or-map-range_with_len (slice_index row) 0 n i i 0 g (omega arith)))

count_by-map : (p : ℕ → Bool) (f : ℕ → ℕ) (xs : List ℕ) → count_by p (map f xs) ≡ count_by (λ x. p (f x)) xs
count_by-map p f [] = refl
count_by-map p f (x ∷ xs) =
    sum_by-cons (λ y. cond (p y) 1 0) (f x) (map f xs) ∙ ap (λ (n : ℕ). cond (p (f x)) 1 0 + n) (count_by-map p f xs)
    ∙ sym (sum_by-cons (λ y. cond (p (f y)) 1 0) x xs)

size_of : (p : ℕ → Bool) → count_by p all_bytes ≡ size p
unfolding size
size_of p = refl

-- how often a target stands in a row
pub size_is : (row : List ℕ) (target : ℕ) → length row ≡ 256 → count_by (λ x. x == target) row ≡ size (λ b. slice_index row b == target)
size_is row target e =
    ap (count_by (λ x. x == target)) (sym (row_is row (length row) refl)) ∙ count_by-map (λ x. x == target) (slice_index row) (range_with_len 0 (length row))
    ∙ ap (count_by (λ b. slice_index row b == target)) (bytes_are (length row) e) ∙ size_of (λ b. slice_index row b == target)

-- the parts of a class, one after the other, are the class
pub class_is : (set : ℕ → Bool) (others : Bool) → others ≡ is_mostly_full set
    → (opening_of others ++ quoted (ranges (λ b. if others then not (set b) else set b))) ++ codes "]" ≡ quoted (class_of set)
class_is set true e =
    ap (λ l. 91 ∷ 94 ∷ l) (sym (flat_map-append quoted_byte (ranges (λ b. not (set b))) (93 ∷ [])))
    ∙ ap (λ (v : Bool). quoted (if v then opening_of true ++ (ranges (λ b. not (set b)) ++ codes "]") else opening_of false ++ (ranges set ++ codes "]"))) e
class_is set false e =
    ap (λ l. 91 ∷ l) (sym (flat_map-append quoted_byte (ranges set) (93 ∷ [])))
    ∙ ap (λ (v : Bool). quoted (if v then opening_of true ++ (ranges (λ b. not (set b)) ++ codes "]") else opening_of false ++ (ranges set ++ codes "]"))) e

-- three parts that are appended one after the other
pub three_parts : (old first second third text one two all : List ℕ) → one ≡ old ++ first → two ≡ one ++ second → (first ++ second) ++ third ≡ all → text ≡ two ++ third → text ≡ old ++ all
three_parts old first second third text one two all p q e h =
    h ∙ ap (λ l. l ++ third) (q ∙ ap (λ l. l ++ second) p ∙ append_assoc old first second) ∙ append_assoc old (first ++ second) third ∙ ap (λ l. old ++ l) e

edges_of : (s : ℕ) (go : ℕ → ℕ) → flat_map (edge_at s go) all_bytes ≡ edges s go
unfolding edges
edges_of s go = refl

pub edges_are : (s : ℕ) (go : ℕ → ℕ) (old text : List ℕ) (n : ℕ) → n ≡ 256 → text ≡ old ++ flat_map (edge_at s go) (range_with_len 0 n) → text ≡ old ++ edges s go
edges_are s go old text n e h = h ∙ ap (λ l. old ++ flat_map (edge_at s go) l) (bytes_are n e) ∙ ap (λ l. old ++ l) (edges_of s go)

-- an element that is read is among the list
pub among_read : (xs : List ℕ) (i : ℕ) → i < length xs → Among xs (slice_index xs i)
among_read [] i h = absurd (omega (arith, h))
among_read (x ∷ xs) zero h = inl refl
among_read (x ∷ xs) (suc i) h = inr (among_read xs i (omega (arith, h)))

-- a state that accepts some rule
pub accepting : (lines : List ℕ) (s : ℕ) (rules : List ℕ) → 0 < length rules → accepting_line lines s rules ≡ node_line lines s rules
accepting lines s [] h = absurd (omega (arith, h))
accepting lines s (i ∷ is) h = refl

-- a part more was appended
pub and_then : (old done part text next : List ℕ) → text ≡ old ++ done → next ≡ text ++ part → next ≡ old ++ (done ++ part)
and_then old done part text next h n = n ∙ ap (λ l. l ++ part) h ∙ append_assoc old done part

-- three parts that were appended, and six
pub in_three : (old a b c one two text : List ℕ) → one ≡ old ++ a → two ≡ one ++ b → text ≡ two ++ c → text ≡ old ++ (a ++ (b ++ (c ++ [])))
in_three old a b c one two text p q r =
    let e : (a ++ b) ++ c ≡ a ++ (b ++ (c ++ [])) = simp (append_assoc, append-nil) in
    and_then old (a ++ b) c two text (and_then old a b one two p q) r ∙ ap (λ l. old ++ l) e

pub in_six : (old a b c d e f one two three four five text : List ℕ) → one ≡ old ++ a → two ≡ one ++ b → three ≡ two ++ c → four ≡ three ++ d → five ≡ four ++ e → text ≡ five ++ f
    → text ≡ old ++ (a ++ (b ++ (c ++ (d ++ (e ++ (f ++ []))))))
in_six old a b c d e f one two three four five text h1 h2 h3 h4 h5 h6 =
    let n : ((((a ++ b) ++ c) ++ d) ++ e) ++ f ≡ a ++ (b ++ (c ++ (d ++ (e ++ (f ++ []))))) = simp (append_assoc, append-nil) in
    let four_is : four ≡ old ++ (((a ++ b) ++ c) ++ d) =
    and_then old ((a ++ b) ++ c) d three four (and_then old (a ++ b) c two three (and_then old a b one two h1 h2) h3) h4 in
    and_then old ((((a ++ b) ++ c) ++ d) ++ e) f five text (and_then old (((a ++ b) ++ c) ++ d) e four five four_is h5) h6 ∙ ap (λ l. old ++ l) n

-- a name is that of its condition
pub name_at : (names : List (Bor (List ℕ))) (i : ℕ) (name : Bor (List ℕ)) → i < length names → name ≡ get_or names i name → name.now ≡ get_or (map (λ n. n.now) names) i []
name_at names i name h e = ap (λ n. n.now) e ∙ sym (get_or-map (λ (n : Bor (List ℕ)). n.now) names i name [] h)

-- what holds of each element of a list holds of those of a longer one, if it holds of the last
pub each_pushed : {A : Type 0} (P : ℕ → A → Type 0) (xs : List A) (x : A) → ((i : ℕ) (y : A) → slice_get xs i ≡ Some y → P i y) → P (length xs) x → (i : ℕ) (y : A) → slice_get (xs ++ x ∷ []) i ≡ Some y → P i y
each_pushed P [] x each here zero y e = (let same : x ≡ y = cc in subst (P 0) same here)
each_pushed P [] x each here (suc i) y e = absurd cc
each_pushed P (z ∷ xs) x each here zero y e = each 0 y e
each_pushed P (z ∷ xs) x each here (suc i) y e = each_pushed (λ j. P (suc j)) xs x (λ j v f. each (suc j) v f) here i y e
