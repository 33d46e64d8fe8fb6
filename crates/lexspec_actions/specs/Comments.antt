-- Comments of C, `/* .. */` and `// ..`.
use Rattle.std.specs.Prelude.{ℕ, if◌then◌else◌, List, [], ◌∷◌, drop, Option, Some, None, codes}
use Rattle.lex_semantics.specs.Reading.{begins}

-- what follows the next `*/`
abbrev pub after_star : List ℕ → Option (List ℕ)
after_star [] = None
after_star (c ∷ t) = if begins (codes "*/") (c ∷ t) then Some (drop 1 t) else after_star t
