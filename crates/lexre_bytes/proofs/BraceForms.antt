-- What stands between braces is what it is step by step.
use Rattle.std.proofs.Common.{◌≡◌, ℕ, Bool, true, false, not, ◌&&◌, nat_le, if◌then◌else◌, List, [], ◌∷◌, take, drop, Option, Some, None, refl, ap, ◌∙◌, arith}
use Rattle.std.specs.Prelude.{codes}
use Rattle.std.specs.List.{list_any}
use Rattle.std.specs.Option.{option_or}
use Rattle.std.proofs.lemmas.Bool.Decides.{nat_tests}
use Rattle.lex_semantics.specs.ByteSets.{is_alpha, is_upper, is_lower, is_digit}
use Rattle.lex_semantics.specs.Reading.{◌>>=◌, is_empty, begins, take_up_to, take_run, starts_name, goes_on_name, value}
use Rattle.lexre_bytes.specs.Lexical.{after_word, run_at, number_at, name_at, bounded, interval_at, braces_at}
use Rattle.lexre_bytes.specs.BraceSteps.{braces_from, interval}
use Rattle.lexre_bytes.specs.BraceSteps as steps
use Rattle.lexre_bytes.specs.Symbols.{Symbol, name}
use Rattle.lexre_bytes.proofs.SignLaws.{by_sign, turned}

abbrev Found : Type 0
Found = Option (Symbol × List ℕ)

pub or_none : {A : Type 0} (o : Option A) → option_or o None ≡ o
or_none None = refl
or_none (Some x) = refl

-- a run has no byte just where the first byte fails the test
run_empty : (test : ℕ → Bool) (t : List ℕ) → is_empty (take_run test t).0 ≡ not (list_any test (take 1 t))
unfolding take_up_to
run_empty test [] = refl
run_empty test (c ∷ t) = go (test c) refl
  where
    go : (b : Bool) → test c ≡ b → is_empty (take_run test (c ∷ t)).0 ≡ not (list_any test (c ∷ []))
    go true e = rw e refl
    go false e = rw e refl

bounded_is : (m n : ℕ) (rest : List ℕ) → ◌≡◌ {A = Found} (bounded m (Some n) rest) (steps.bounded m n rest)
unfolding bounded steps.bounded
bounded_is m n rest = refl

open_is : (m : ℕ) (rest : List ℕ) → ◌≡◌ {A = Found} (bounded m None rest) (if nat_le m 255 then Some (interval m None, rest) else None)
unfolding bounded
open_is m rest = go (nat_le m 255)
  where
    go : (b : Bool) → ◌≡◌ {A = Found} (if b && nat_le 1 255 && nat_le 255 255 then Some (interval m None, rest) else None) (if b then Some (interval m None, rest) else None)
    go true = refl
    go false = refl

-- after the least number, as the definition says, and step by step
upper : ℕ → List ℕ → Found
upper m u = number_at u >>= λ (n, after). after_word (codes "}") after >>= bounded m (Some n)

after_least : ℕ → List ℕ → Found
after_least m rest =
    option_or (after_word (codes "}") rest >>= bounded m (Some m)) (after_word (codes ",") rest >>= λ u. option_or (after_word (codes "}") u >>= bounded m None) (upper m u))

upper_from : ℕ → List ℕ → Found
upper_from m u =
    let (most, after) = take_run is_digit u in
    if not (is_empty most) && begins (codes "}") after then steps.bounded m (value 10 most) (drop 1 after) else None

least_from : ℕ → List ℕ → Found
least_from m rest =
    if begins (codes "}") rest then steps.bounded m m (drop 1 rest)
    else if begins (codes ",}") rest then (if nat_le m 255 then Some (interval m None, drop 2 rest) else None)
    else if begins (codes ",") rest then upper_from m (drop 1 rest)
    else None

upper_is : (m : ℕ) (u : List ℕ) → ◌≡◌ {A = Found} (upper m u) (upper_from m u)
unfolding upper upper_from number_at run_at after_word bounded steps.bounded
upper_is m u = go (is_empty (take_run is_digit u).0) (begins (codes "}") (take_run is_digit u).1)
  where
    n : ℕ
    n = value 10 (take_run is_digit u).0

    go : (a b : Bool)
        → ◌≡◌ {A = Found} (((if a then None else Some ((take_run is_digit u).0, (take_run is_digit u).1)) >>= λ (digits, rest). Some (value 10 digits, rest)) >>= λ (n, after).
        (if begins (codes "}") after then Some (drop 1 after) else None) >>= bounded m (Some n))
        (if not a && begins (codes "}") (take_run is_digit u).1 then steps.bounded m n (drop 1 (take_run is_digit u).1) else None)
    go true b = refl
    go false b = closed (begins (codes "}") (take_run is_digit u).1)
      where
        closed : (b : Bool) → ◌≡◌ {A = Found} ((if b then Some (drop 1 (take_run is_digit u).1) else None) >>= bounded m (Some n)) (if b then steps.bounded m n (drop 1 (take_run is_digit u).1) else None)
        closed true = refl
        closed false = refl

no_upper : (m : ℕ) (v : List ℕ) → ◌≡◌ {A = Found} (upper m (125 ∷ v)) None
unfolding upper number_at run_at take_up_to is_digit
no_upper m v = refl

after_comma : (m : ℕ) (u : List ℕ) → ◌≡◌ {A = Found} (option_or (after_word (codes "}") u >>= bounded m None) (upper m u))
    (if begins (codes ",}") (44 ∷ u) then (if nat_le m 255 then Some (interval m None, drop 1 u) else None) else upper_from m u)
unfolding after_word
after_comma m [] = upper_is m []
after_comma m (d ∷ v) = by_sign d 125
    (λ e. rw e (rw (no_upper m v) (or_none (bounded m None v) ∙ open_is m v)))
    (λ n. rw (turned d 125 n) (upper_is m (d ∷ v)))

least_is : (m : ℕ) (rest : List ℕ) → ◌≡◌ {A = Found} (after_least m rest) (least_from m rest)
unfolding after_least least_from after_word
least_is m [] = refl
least_is m (c ∷ u) = by_sign c 125
    (λ e. rw e (or_none (bounded m (Some m) u) ∙ bounded_is m m u))
    (λ n. rw (turned c 125 n) (by_sign c 44
    (λ e. rw e (after_comma m u))
    (λ k. rw (turned c 44 k) refl)))

interval_is : (t : List ℕ) → list_any is_digit (take 1 t) ≡ true → ◌≡◌ {A = Found} (interval_at t) (steps.interval_at t)
unfolding interval_at number_at run_at steps.interval_at after_least least_from upper upper_from
interval_is t h = let e : is_empty (take_run is_digit t).0 ≡ false = run_empty is_digit t ∙ ap not h in rw e (least_is (value 10 (take_run is_digit t).0) (take_run is_digit t).1)

no_interval : (t : List ℕ) → list_any is_digit (take 1 t) ≡ false → ◌≡◌ {A = Found} (interval_at t) None
unfolding interval_at number_at run_at
no_interval t h = let e : is_empty (take_run is_digit t).0 ≡ true = run_empty is_digit t ∙ ap not h in rw e refl

abbrev name_from : List ℕ → Found
name_from t = let (letters, rest) = take_run goes_on_name t in after_word (codes "}") rest >>= λ after. Some (name letters, after)

abbrev name_is : List ℕ → Found
name_is t = name_at t >>= λ (letters, rest). after_word (codes "}") rest >>= λ after. Some (name letters, after)

pub digit_no_name : (c : ℕ) → list_any is_digit (c ∷ []) ≡ true → list_any starts_name (c ∷ []) ≡ false
unfolding is_digit is_alpha is_upper is_lower
digit_no_name c h = grind (arith, nat_tests)

no_name : (t : List ℕ) → list_any is_digit (take 1 t) ≡ true → ◌≡◌ {A = Found} (name_is t) None
unfolding name_at
no_name [] h = cc
no_name (c ∷ t) h = rw (digit_no_name c h) refl

name_only : (t : List ℕ) → ◌≡◌ {A = Found} (name_is t) (if list_any starts_name (take 1 t) then name_from t else None)
unfolding name_at
name_only t = go (list_any starts_name (take 1 t))
  where
    go : (b : Bool) → ◌≡◌ {A = Found} ((if b then Some (take_run goes_on_name t) else None) >>= λ (letters, rest). after_word (codes "}") rest >>= λ after. Some (name letters, after)) (if b then name_from t else None)
    go true = refl
    go false = refl

pub braces_is : (t : List ℕ) → ◌≡◌ {A = Found} (braces_at t) (braces_from t)
unfolding braces_at braces_from
braces_is t = go (list_any is_digit (take 1 t)) refl
  where
    go : (b : Bool) → list_any is_digit (take 1 t) ≡ b → ◌≡◌ {A = Found} (option_or (interval_at t) (name_is t)) (if b then steps.interval_at t else if list_any starts_name (take 1 t) then name_from t else None)
    go true h = rw (interval_is t h, no_name t h) (or_none (steps.interval_at t))
    go false h = rw (no_interval t h) (name_only t)
