-- Which lines are warned of, and in which order. (This project's.)
use Rattle.std.specs.Prelude.{◌≡◌, ℕ, ◌<◌, ◌⊎◌, true, false, List, ◌++◌, map, option_map, unwrap_or, slice_get}
use Rattle.lex_semantics.specs.Spec as S
use Rattle.lexspec.specs.declared.spec.Spec.{Spec}
use Rattle.lexspec.specs.Views.{spec_of, skipped_in, rules_in}
use Rattle.lexauto_reports.specs.declared.warned.Warning.{Warning}

abbrev pub of_code : ℕ → Warning
of_code line = record { line = line; code = true }

abbrev pub of_rule : List S.Rule → ℕ → Warning
of_rule rules i = record { line = unwrap_or (option_map (λ r. r.line) (slice_get rules i)) 0; code = false }

-- a warning for each line where code was skipped, and one for each of these rules
abbrev pub warned_of : Spec → List ℕ → List Warning
warned_of spec useless = map of_code (skipped_in spec) ++ map (of_rule (rules_in (spec_of spec))) useless

-- an earlier line comes first, and of one line skipped code
abbrev pub MayPrecede : Warning → Warning → Type 0
MayPrecede w v = (w.line < v.line) ⊎ ((w.line ≡ v.line) × (v.code ≡ true → w.code ≡ true))
