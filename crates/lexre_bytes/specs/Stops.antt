-- Where the next closing bracket or newline stands.
use Rattle.std.specs.Prelude.{ℕ, Bool, not, List, codes}
use Rattle.lex_semantics.specs.Reading.{after_run}
use Rattle.lex_semantics.specs.Active.{contains}

-- no `]`, and no newline
abbrev pub inside : ℕ → Bool
inside b = not (contains (codes "]\n") b)

-- the text from its first closing bracket or newline on, or its end
abbrev pub stop_of : List ℕ → List ℕ
stop_of t = after_run inside t
