-- Reading from the front of a text: the value, and what follows it. None means that nothing there is spelled so.
-- (POSIX, lex, Definitions in lex: names and blanks; numbers as in C.)
use Rattle.std.specs.Prelude.{◌≡◌, ℕ, suc, ◌+◌, ◌*◌, ◌%◌, Bool, ◌||◌, ◌==◌, if◌then◌else◌, List, [], ◌∷◌, length, fold, Option, Some, option_and_then, nat_eq}
use Rattle.std.specs.List.{starts_with}
use Rattle.lex_semantics.specs.ByteSets.{same_bytes, is_alpha, is_alnum, is_blank, is_digit}

-- one step after another, where each may refuse
infixl 10 ◌>>=◌
abbrev pub ◌>>=◌ : {A B : Type 0} → Option A → (A → Option B) → Option B
o >>= f = option_and_then f o

abbrev pub Reader : Type 0 → Type 0
Reader A = List ℕ → Option (A × List ℕ)

-- The text is these items, one after another, up to a rest that is done.
abbrev pub IsReadAs : {A : Type 0} → Reader A → (List ℕ → Type 0) → List ℕ → List A → Type 0
IsReadAs item_at Done text [] = Done text
IsReadAs item_at Done text (x ∷ xs) = (rest : List ℕ) × (item_at text ≡ Some (x, rest)) × IsReadAs item_at Done rest xs

abbrev pub is_empty : List ℕ → Bool
is_empty t = same_bytes t []

abbrev pub begins : List ℕ → List ℕ → Bool
begins word t = starts_with nat_eq t word

-- at most n bytes at the front that pass the test, and what follows them
unfoldable pub take_up_to : ℕ → (ℕ → Bool) → List ℕ → List ℕ × List ℕ
take_up_to (suc n) test (c ∷ t) =
    if test c then (let (cs, rest) = take_up_to n test t in (c ∷ cs, rest)) else ([], c ∷ t)
take_up_to n test t = ([], t)

-- all the bytes at the front that pass the test, and what follows them
abbrev pub take_run : (ℕ → Bool) → List ℕ → List ℕ × List ℕ
take_run test t = take_up_to (length t) test t

-- what follows the blanks at the front
abbrev pub after_blanks : List ℕ → List ℕ
after_blanks t = (take_run is_blank t).1

-- a blank or a newline
abbrev pub is_white : ℕ → Bool
is_white c = is_blank c || c == 10

-- A name is a letter or `_`, and then letters, digits, `_` and `-`. (flex, Format of the Input File.)
abbrev pub starts_name : ℕ → Bool
starts_name c = is_alpha c || c == 95

abbrev pub goes_on_name : ℕ → Bool
goes_on_name c = is_alnum c || c == 95 || c == 45

abbrev pub digit_of : ℕ → ℕ
digit_of c = if is_digit c then c % 16 else c % 16 + 9

-- the number that the digits write
abbrev pub value : ℕ → List ℕ → ℕ
value radix digits = fold (λ n d. n * radix + digit_of d) 0 digits

-- A name that the code and proofs have for what follows the bytes at the front that pass the test.
abbrev pub after_run : (ℕ → Bool) → List ℕ → List ℕ
after_run test t = (take_run test t).1
