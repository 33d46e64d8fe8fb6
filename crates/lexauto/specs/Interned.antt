-- Where a key stands in the table: the keys of one row are chained, each to the one before it.
use Rattle.std.specs.Prelude.{ℕ, zero, suc, ◌+◌, ◌*◌, ◌/◌, ◌%◌, ◌^◌, cond, List, [], ◌∷◌, length, map, nat_lt, slice_index_or, Option, Some, None}
use Rattle.std.specs.Str.{bytes_eq}
use Rattle.lexauto.specs.declared.interner.KeptKey.{KeptKey}

-- how many rows there are
abbrev pub rows : ℕ
rows = 1024

-- the place of no key
abbrev pub no_key : ℕ
no_key = 4294967295

-- a hash of numbers, after those that made this one
abbrev pub digest : ℕ → List ℕ → ℕ
digest hash [] = hash
digest hash (n ∷ ns) = digest ((hash + n) % 2 ^ 64 * 11400714819323198485 % 2 ^ 64) ns

abbrev pub row_of : List ℕ → ℕ
row_of kept = digest 0 kept / 2 ^ 54

-- the lists that are kept, and for each of them the place of the one before it in its row
abbrev pub lists_in : List KeptKey → List (List ℕ)
lists_in keys = map (λ k. k.key.items) keys

abbrev pub befores_in : List KeptKey → List ℕ
befores_in keys = map (λ k. k.before) keys

-- the first place where the list stands, from this place on and backwards, of so many places at most
abbrev pub chained : List (List ℕ) → List ℕ → ℕ → ℕ → List ℕ → Option ℕ
chained lists befores zero at kept = None
chained lists befores (suc n) at kept =
    cond (nat_lt at (length lists))
    (cond (bytes_eq (slice_index_or lists at []) kept) (Some at)
    (chained lists befores n (slice_index_or befores at 0) kept)) None

abbrev pub found : List KeptKey → ℕ → List ℕ → Option ℕ
found keys at kept = chained (lists_in keys) (befores_in keys) (length keys) at kept
