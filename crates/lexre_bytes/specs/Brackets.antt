-- What stands between brackets inside a class, step by step.
use Rattle.std.specs.Prelude.{ℕ, ◌&&◌, nat_lt, nat_eq, if◌then◌else◌, List, [], ◌∷◌, length, Option, Some, None, codes}
use Rattle.std.specs.List.{ends_with}
use Rattle.lex_semantics.specs.ByteSets.{is_alpha}
use Rattle.lex_semantics.specs.Reading.{◌>>=◌, Reader, is_empty, take_run}
use Rattle.lexre_bytes.specs.Lexical.{after_word}
use Rattle.lexre_bytes.specs.Stops.{inside}

-- at least one letter, and `:]`: the letters, and what follows
unfoldable pub letters_at : Reader (List ℕ)
letters_at t =
    let (letters, rest) = take_run is_alpha t in
    if is_empty letters then None else after_word (codes ":]") rest >>= λ after. Some (letters, after)

-- `[:`, letters and `:]`
unfoldable pub named_at : Reader (List ℕ)
named_at t = after_word (codes "[:") t >>= letters_at

-- at least one byte that is no `]` and no newline, then the sign c and `]`: what follows
unfoldable pub enclosed_at : ℕ → List ℕ → Option (List ℕ)
enclosed_at c t =
    let (bytes, rest) = take_run inside t in
    if nat_lt 1 (length bytes) && ends_with nat_eq bytes (c ∷ []) then after_word (codes "]") rest else None

-- what follows `[:^`, letters and `:]`; or `[=`, at least one byte and `=]`; or the same with dots
unfoldable pub unsupported_at : List ℕ → Option (List ℕ)
unsupported_at t = elim (after_word (codes "[:^") t) [
  | Some rest ↦ letters_at rest >>= λ (letters, after). Some after
  | None ↦ elim (after_word (codes "[=") t) [
    | Some rest ↦ enclosed_at 61 rest
    | None ↦ after_word (codes "[.") t >>= enclosed_at 46
  ]
]
