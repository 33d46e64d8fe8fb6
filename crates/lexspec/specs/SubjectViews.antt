-- What condition lists and patterns of the code stand for.
use Rattle.std.specs.Prelude.{ℕ, suc, ◌-◌, Bool, true, false, List, take, drop, Option, Some, None, is_some, codes}
use Rattle.std.specs.List.{list_all, slice_split}
use Rattle.lex_semantics.specs.Active.{contains}
use Rattle.lexspec.specs.Items as I
use Rattle.lexspec.specs.ItemRuns as R
use Rattle.lexspec.specs.declared.subject.Conditions.{Conditions}
use Rattle.lexspec.specs.declared.subject.Conditions.TheVariants.{Unlisted, Every, Only}
use Rattle.lexspec.specs.declared.subject.Trailing.{Trailing}
use Rattle.lexspec.specs.declared.subject.Trailing.TheVariants as T
use Rattle.lexspec.specs.declared.subject.Subject.{Subject}
use Rattle.lexspec.specs.declared.subject.Subject.TheVariants.{AtEnd, Matching}

-- the names between commas
abbrev pub parts : List ℕ → List (List ℕ)
parts t = slice_split (contains (codes ",")) t

-- whether every name of a list has a number
abbrev pub all_numbered : (List ℕ → Option ℕ) → List (List ℕ) → Bool
all_numbered number names = list_all (λ name. is_some (number name)) names

abbrev pub conditions_of : Conditions → I.Conditions
conditions_of Unlisted = I.unlisted
conditions_of Every = I.every
conditions_of (Only inside) = I.only (parts inside.now)

abbrev pub trailing_of : Trailing → R.Trailing
trailing_of T.None = R.no_trail
trailing_of T.LineEnd = R.line_end
trailing_of (T.Pattern text) = R.pattern_after text.now

abbrev pub subject_of : Subject → R.Subject
subject_of AtEnd = R.at_end
subject_of (Matching anchored head trail) = R.matching anchored head.now (trailing_of trail)

-- the head and the trailing context of a pattern's text, by its end, its first slash and whether it ends with `$`
abbrev pub sides : List ℕ → ℕ → Option ℕ → Bool → Option (List ℕ × R.Trailing)
sides t stop None false = Some (take stop t, R.no_trail)
sides t stop None true = Some (take (stop - 1) t, R.line_end)
sides t stop (Some at) false = Some (take at t, R.pattern_after (take (stop - suc at) (drop (suc at) t)))
sides t stop (Some at) true = None
