-- What stands between braces, step by step, as the code reads it.
use Rattle.std.specs.Prelude.{ℕ, true, not, ◌&&◌, nat_le, if◌then◌else◌, Option, Some, None, take, drop, codes}
use Rattle.std.specs.List.{list_any}
use Rattle.lex_semantics.specs.ByteSets.{is_digit}
use Rattle.lex_semantics.specs.Reading.{◌>>=◌, Reader, is_empty, begins, take_run, starts_name, goes_on_name, value}
use Rattle.lexre_bytes.specs.Lexical.{after_word}
use Rattle.lex_semantics.specs.Tree.{Repeat}
use Rattle.lexre_bytes.specs.Symbols.{Symbol, name, sign}
use Rattle.lexre_bytes.specs.Limits.{max_times}

-- `{m,n}`, or `{m,}`
abbrev pub interval : ℕ → Option ℕ → Symbol
interval m most = sign true (λ t. Repeat t m most)

-- from m to n times, n from 1 on
unfoldable pub bounded : ℕ → ℕ → Reader Symbol
bounded m n rest = if nat_le m n && nat_le 1 n && nat_le n max_times then Some (interval m (Some n), rest) else None

-- at a digit: `m}`, `m,}` or `m,n}`
unfoldable pub interval_at : Reader Symbol
interval_at t =
    let (least, rest) = take_run is_digit t in
    let m = value 10 least in
    if begins (codes "}") rest then bounded m m (drop 1 rest)
    else if begins (codes ",}") rest then (if nat_le m max_times then Some (interval m None, drop 2 rest) else None)
    else if begins (codes ",") rest then
    (let (most, after) = take_run is_digit (drop 1 rest) in
    if not (is_empty most) && begins (codes "}") after then bounded m (value 10 most) (drop 1 after) else None)
    else None

-- an interval, or a name and `}`
unfoldable pub braces_from : Reader Symbol
braces_from t =
    if list_any is_digit (take 1 t) then interval_at t
    else if list_any starts_name (take 1 t) then
    (let (letters, rest) = take_run goes_on_name t
    in after_word (codes "}") rest >>= λ after. Some (name letters, after))
    else None
