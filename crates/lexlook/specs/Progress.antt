-- What lexlook shows of how much of an input is read. (This project's.)
use Rattle.std.specs.Prelude.{ℕ, ◌*◌, ◌/◌, nat_lt, if◌then◌else◌, List, [], ◌∷◌, codes, decimal}
use Rattle.std.specs.List.{concat}

-- how much of a file is read, in percent: of one that grew, or of an empty one, all
abbrev pub percent_read : ℕ → ℕ → ℕ
percent_read read size = if nat_lt read size then (read * 100) / size else 100

-- the line that says so, over the one before
abbrev pub progress_line : ℕ → List ℕ
progress_line percent = concat (codes "\rlexlook: " ∷ decimal percent ∷ codes "% read" ∷ [])
