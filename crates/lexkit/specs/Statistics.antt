-- The lines of the statistics. (This project's.)
use Rattle.std.specs.Prelude.{ℕ, List, [], ◌∷◌, codes, decimal}
use Rattle.std.specs.List.{concat}
use Rattle.lexkit.specs.declared.stats.Stats.{Stats}

-- a line for each count: its name and the number
abbrev pub stats_lines : Stats → List ℕ
stats_lines z = concat (
    codes "rules " ∷ decimal z.rules ∷ codes "\nconditions " ∷ decimal z.conditions ∷ codes "\npositions "
    ∷ decimal z.positions
    ∷ codes "\nsubsets " ∷ decimal z.subsets ∷ codes "\nstates " ∷ decimal z.states ∷ codes "\nclasses "
    ∷ decimal z.classes
    ∷ codes "\nslots " ∷ decimal z.slots ∷ codes "\nbytes " ∷ decimal z.bytes ∷ codes "\n" ∷ [])
