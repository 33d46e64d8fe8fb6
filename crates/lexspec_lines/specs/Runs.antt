-- Runs of bytes at the front of a text.
use Rattle.std.specs.Prelude.{ℕ, Bool, not, List}
use Rattle.lex_semantics.specs.Reading.{take_run}

-- the bytes before the first that passes the test, and the text from it on
abbrev pub split_before : (ℕ → Bool) → List ℕ → List ℕ × List ℕ
split_before test t = take_run (λ c. not (test c)) t
