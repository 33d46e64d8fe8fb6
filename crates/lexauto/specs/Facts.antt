-- What a state's key tells of it. (This project's.)
use Rattle.std.specs.Prelude.{◌≡◌, ℕ, Bool, false, not, List, [], slice_index_or}
use Rattle.lex_semantics.specs.Spec.{Spec, rejects}
use Rattle.lex_semantics.specs.Subsets.{all_positions}
use Rattle.lexauto_positions.specs.RuleFlow.{rules_left, chosen}
use Rattle.lexauto.specs.Sets.{marked, lasts_in}
use Rattle.lexauto.specs.Moving.{followers_in}
use Rattle.lexauto.specs.Keys.{Key, At}
use Rattle.lex_semantics.specs.Reading.{is_empty}

-- the rules that a state accepts
abbrev pub accepted_by : Spec → Key → List ℕ
accepted_by S k = chosen (rejects S) (rules_left S.rules (marked (all_positions S.rules) (lasts_in k)) 0 0)

-- whether some position is next after a state's
abbrev pub goes_on_by : Spec → Key → Bool
goes_on_by S k = not (is_empty (followers_in S.rules (all_positions S.rules) k))

abbrev pub AcceptedBy : Spec → List Key → List (List ℕ) → Type 0
AcceptedBy S keys accepts = (i : ℕ) (k : Key) → At keys i k → slice_index_or accepts i [] ≡ accepted_by S k

abbrev pub GoOnBy : Spec → List Key → List Bool → Type 0
GoOnBy S keys goes_on = (i : ℕ) (k : Key) → At keys i k → slice_index_or goes_on i false ≡ goes_on_by S k
