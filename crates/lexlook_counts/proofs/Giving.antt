-- How often rules were given up, with one match more.
use Rattle.std.proofs.Common.{◌≡◌, ◌≢◌, ◌∙◌, ℕ, ◌+◌, ◌-◌, ◌^◌, ◌<◌, ◌≤◌, min, Bool, cond, List, [], ◌∷◌, ◌++◌, length, get_or, set, replicate, sym, ap, arith, append-nil, append_assoc}
use Rattle.std.specs.Prelude.{◌==◌, count_by}
use Rattle.std.proofs.lemmas.Bool.{eq-eqb, ne_eqb}
use Rattle.std.proofs.lemmas.List.{get_or-replicate, length-replicate}
use Rattle.std.proofs.lemmas.List.FromFn.{fill_by_all, get_or-map-range_with_len, length-map-range_with_len}
use Rattle.std.proofs.lemmas.List.Sums.{sum_by_push}
use Rattle.lexlook_counts.specs.Descending.{CountsMore}
use Rattle.lexlook_counts.specs.GivenUp.{given_count, given_counts}
use Rattle.lexlook_counts.proofs.Tallying.{alike_in_range, set_in_range}

one_given : (rules : List ℕ) (i k : ℕ) → count_by (λ r. r == k) (rules ++ i ∷ []) ≡ count_by (λ r. r == k) rules + cond (i == k) 1 0
one_given rules i k = sum_by_push (λ (r : ℕ). cond (r == k) 1 0) rules i

more_given : (rules : List ℕ) (i n next : ℕ) → n ≡ given_count rules i → next ≡ min (n + 1) (2 ^ 64 - 1) → next ≡ given_count (rules ++ i ∷ []) i
more_given rules i n next is more =
    let one = one_given rules i i ∙ ap (λ (b : Bool). count_by (λ r. r == i) rules + cond b 1 0) (eq-eqb i i (omega arith)) in
    omega (arith, is, more, one)

still_given : (rules : List ℕ) (i k : ℕ) → i ≢ k → given_count rules k ≡ given_count (rules ++ i ∷ []) k
still_given rules i k other =
    let none = one_given rules i k ∙ ap (λ (b : Bool). count_by (λ r. r == k) rules + cond b 1 0) (ne_eqb i k other) in
    omega (arith, none)

-- a rule that there is, and one that there is not
pub counts_one : (n i : ℕ) (rules : List ℕ) (y next : ℕ) (xs : List ℕ) → xs ≡ given_counts n rules → i < length xs → y ≡ get_or xs i 0 → next ≡ min (y + 1) (2 ^ 64 - 1) → set xs i next ≡ given_counts n (rules ++ i ∷ [])
counts_one n i rules y next xs is low was more =
    let size : length xs ≡ n = ap length is ∙ length-map-range_with_len (given_count rules) 0 n in
    let had : y ≡ given_count rules i = was ∙ ap (λ l. get_or l i 0) is ∙ get_or-map-range_with_len (given_count rules) 0 n i i 0 (omega (arith, low, size)) (omega arith) in
    set_in_range 0 (given_count rules) (given_count (rules ++ i ∷ [])) n i next xs is low (more_given rules i y next had more)
    (λ k other. still_given rules i k (λ e. other (sym e)))

pub counts_past : (n i : ℕ) (rules xs : List ℕ) → xs ≡ given_counts n rules → length xs ≤ i → xs ≡ given_counts n (rules ++ i ∷ [])
counts_past n i rules xs is past =
    let size : length xs ≡ n = ap length is ∙ length-map-range_with_len (given_count rules) 0 n in
    is ∙ alike_in_range 0 (given_count rules) (given_count (rules ++ i ∷ [])) n (λ k low. still_given rules i k (λ e. omega (arith, e, low, size, past)))

pub counts_none : (n : ℕ) (xs : List ℕ) → xs ≡ replicate n 0 → xs ≡ given_counts n []
counts_none n xs is =
    fill_by_all (given_count []) xs n 0 (ap length is ∙ length-replicate n 0) (λ k low. ap (λ l. get_or l k 0) is ∙ get_or-replicate n k 0 0 low)

-- ---- counts of several, one after another

pub same_more : (xs : List ℕ) → CountsMore xs xs []
same_more xs n before is = is ∙ ap (given_counts n) (sym (append-nil before))

pub then_more : (xs ys zs rules others : List ℕ) → CountsMore xs ys rules → CountsMore ys zs others → CountsMore xs zs (rules ++ others)
then_more xs ys zs rules others h k n before is = k n (before ++ rules) (h n before is) ∙ ap (given_counts n) (append_assoc before rules others)

pub by_equal : (xs ys rules others : List ℕ) → rules ≡ others → CountsMore xs ys rules → CountsMore xs ys others
by_equal xs ys rules others e h n before is = h n before is ∙ ap (λ l. given_counts n (before ++ l)) e
