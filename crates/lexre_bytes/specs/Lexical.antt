-- The symbols of a pattern, by their bytes. None means that the text begins with no symbol.
-- (POSIX, lex, Regular Expressions in lex: quotes, escapes, bracket expressions, definitions; flex, Patterns.)
use Rattle.std.specs.Prelude.{ℕ, zero, suc, Bool, true, false, not, ◌&&◌, ◌==◌, nat_le, nat_lt, nat_eq, if◌then◌else◌, List, [], ◌∷◌, ◌++◌, map, slice_get, find, zip, length, take, drop, Option, Some, None, unwrap_or, codes, is_none, ◌||◌}
use Rattle.std.specs.List.{ends_with, list_any}
use Rattle.std.specs.Option.{option_or}
use Rattle.lex_semantics.specs.ByteSets.{ByteSet, single, complement, named_set, is_alpha, is_digit, set_of, has, within, other_case}
use Rattle.lex_semantics.specs.Reading.{◌>>=◌, Reader, is_empty, begins, take_run, starts_name, goes_on_name, value}
use Rattle.lex_semantics.specs.Active.{contains}
use Rattle.lex_semantics.specs.Escapes.{simple_escape, is_octal, octal_at, hexadecimal_at, byte_with, until_quote}
use Rattle.lex_semantics.specs.Tree.{Tree, Set, Cat, Star, Repeat}
use Rattle.lexre_bytes.specs.Symbols.{Symbol, item, name, opening, closing, bar, sign, grouped}
use Rattle.lexre_bytes.specs.Limits.{max_times}

-- what follows the word, where the text begins with it
unfoldable pub after_word : List ℕ → List ℕ → Option (List ℕ)
after_word word t = if begins word t then Some (drop (length word) t) else None

-- the bytes at the front that pass the test, at least one, and what follows them
unfoldable pub run_at : (ℕ → Bool) → Reader (List ℕ)
run_at test t = let (bytes, rest) = take_run test t in if is_empty bytes then None else Some (bytes, rest)

-- a number in digits
unfoldable pub number_at : Reader ℕ
number_at t = run_at is_digit t >>= λ (digits, rest). Some (value 10 digits, rest)

-- a name: a letter or `_`, and letters, digits, `_` and `-`
unfoldable pub name_at : Reader (List ℕ)
name_at t = if list_any starts_name (take 1 t) then Some (take_run goes_on_name t) else None

-- under `fold` a set has each letter in both cases (flex, Scanner Options: case-insensitive)
abbrev pub folded : Bool → ByteSet → ByteSet
folded fold s = if fold then set_of (λ b. has s b || has s (other_case b)) else s

-- Escapes.

-- After a backslash: the byte, and what follows it. A newline cannot be escaped, and `x` without a digit is itself.
unfoldable pub escape_at : Reader ℕ
escape_at t = slice_get t 0 >>= λ c.
    if contains (codes "\n") c then None
    else if is_octal c then octal_at t
    else option_or (after_word (codes "x") t >>= hexadecimal_at) (Some (simple_escape c, drop 1 t))

-- Texts in quotes.

-- the bytes of a text in quotes, after its first quote, and what follows its last
abbrev pub quoted_bytes : Reader (List ℕ)
quoted_bytes t = until_quote (byte_with escape_at) (suc (length t)) t

-- its bytes in order, where a byte alone is its set
unfoldable pub quoted_tree : Bool → List ℕ → Tree
quoted_tree fold bs = grouped Cat (map (λ b. Set (folded fold (single b))) bs)

-- Bracket expressions, here called classes.

-- An element of a class is read as its set. It has none where it may not stand: `[:^name:]`, `[=a=]`, `[.a.]`, a class
-- name that there is not, a range from a greater byte to a smaller one, or one whose second end is no byte.

-- the bytes from the first to the second, both in it
unfoldable pub span : ℕ → ℕ → Option ByteSet
span lo hi = if nat_le lo hi then Some (set_of (within lo hi)) else None

-- this front, at least one letter, and `:]`: the letters, and what follows
unfoldable pub class_name_at : List ℕ → Reader (List ℕ)
class_name_at front t = after_word front t >>= λ u. run_at is_alpha u >>= λ (letters, rest).
    after_word (codes ":]") rest >>= λ after. Some (letters, after)

-- `[` and this mark, at least one byte that is no `]` and no newline, then the mark and `]`: what follows
unfoldable pub enclosed_by : List ℕ → List ℕ → Option (List ℕ)
enclosed_by mark t = after_word (codes "[" ++ mark) t >>= λ u.
    let (bytes, rest) = take_run (λ b. not (contains (codes "]\n") b)) u in
    if nat_lt 1 (length bytes) && ends_with nat_eq bytes mark then after_word (codes "]") rest else None

-- An element between brackets, and what follows it: `[:name:]` has the set of that class, and `[:^name:]`, `[=a=]` and
-- `[.a.]` have none.
unfoldable pub bracketed_at : Reader (Option ByteSet)
bracketed_at t =
    option_or (class_name_at (codes "[:") t >>= λ (letters, rest). Some (named_set letters, rest))
    (option_or (class_name_at (codes "[:^") t >>= λ (letters, rest). Some rest)
    (option_or (enclosed_by (codes "=") t) (enclosed_by (codes ".") t)) >>= λ rest. Some (None, rest))

-- after the first end of a range and its `-`: its set, and what follows it
unfoldable pub range_at : ℕ → Reader (Option ByteSet)
range_at lo t =
    option_or (bracketed_at t >>= λ (e, rest). Some (None, rest))
    (byte_with escape_at t >>= λ (hi, rest). Some (span lo hi, rest))

-- An element between brackets, a range, or a byte. A range is a byte and a `-` before anything but an unescaped `]`.
unfoldable pub element_at : Reader (Option ByteSet)
element_at t = option_or (bracketed_at t) (byte_with escape_at t >>= λ (lo, rest).
    if begins (codes "-") rest && list_any (λ c. not (contains (codes "]") c)) (take 1 (drop 1 rest))
    then range_at lo (drop 1 rest)
    else Some (span lo lo, rest))

-- The elements up to the closing bracket, and what follows it. A `]` that comes first is an element. The number bounds
-- them.
unfoldable pub elements_at : ℕ → Bool → Reader (List (Option ByteSet))
elements_at zero first t = None
elements_at (suc n) first t =
    if begins (codes "]") t && not first then Some ([], drop 1 t)
    else element_at t >>= λ (e, rest). elements_at n false rest >>= λ (es, after). Some (e ∷ es, after)

-- after the opening bracket: whether the class is negated, its elements, and what follows it
unfoldable pub class_at : List ℕ → Option (Bool × List (Option ByteSet) × List ℕ)
class_at t =
    let negated = begins (codes "^") t in
    elements_at (length t) true (if negated then drop 1 t else t) >>= λ (es, rest). Some (negated, es, rest)

-- the bytes of all elements, if each has a set: closed under case first, and negated then, where a byte is left
unfoldable pub class_set : Bool → Bool → List (Option ByteSet) → Option ByteSet
class_set fold negated es =
    let u = folded fold (set_of (λ b. list_any (λ e. has (unwrap_or e 0) b) es)) in
    let s = if negated then complement u else u in
    if list_any is_none es || (negated && s == 0) then None else Some s

-- Intervals and names, after `{`.

-- from m times on, at most n times if there is an n, which is from 1 on
unfoldable pub bounded : ℕ → Option ℕ → Reader Symbol
bounded m most rest =
    let n = unwrap_or most max_times in
    if nat_le m n && nat_le 1 n && nat_le n max_times then Some (sign true (λ t. Repeat t m most), rest) else None

-- `m}`, `m,}` or `m,n}`
unfoldable pub interval_at : Reader Symbol
interval_at t = number_at t >>= λ (m, rest).
    option_or (after_word (codes "}") rest >>= bounded m (Some m)) (after_word (codes ",") rest >>= λ u.
    option_or (after_word (codes "}") u >>= bounded m None)
    (number_at u >>= λ (n, after). after_word (codes "}") after >>= bounded m (Some n)))

-- an interval, or a name and `}`
unfoldable pub braces_at : Reader Symbol
braces_at t = option_or (interval_at t) (name_at t >>= λ (letters, rest).
    after_word (codes "}") rest >>= λ after. Some (name letters, after))

-- Symbols.

-- The symbol at the front of the text, and what follows it: a sign that is one by itself, a text in quotes, a class,
-- what stands in braces, or an escape or a byte. A `/`, a blank and a newline are none.
unfoldable pub symbol_at : Bool → Reader Symbol
symbol_at fold [] = None
symbol_at fold (c ∷ t) =
    let signs = zip (codes "()|*+?.") (opening ∷ closing ∷ bar ∷ sign false Star ∷ sign false (λ t. Repeat t 1 None)
    ∷ sign false (λ t. Repeat t 0 (Some 1)) ∷ item (Set (complement (single 10))) ∷ []) in
    option_or (find (λ row. c == row.0) signs >>= λ row. Some (row.1, t))
    (if contains (codes "\"") c then (quoted_bytes t >>= λ (bs, rest). Some (item (quoted_tree fold bs), rest))
    else if contains (codes "[") c
    then (class_at t >>= λ (negated, es, rest). class_set fold negated es >>= λ s. Some (item (Set s), rest))
    else if contains (codes "{") c then braces_at t
    else if contains (codes "/ \t") c then None
    else byte_with escape_at (c ∷ t) >>= λ (b, rest). Some (item (Set (folded fold (single b))), rest))
