-- A worked example of the faults of a rules section. (This project's.)
use Rattle.std.specs.Prelude.{◌≢◌, ℕ, Bool, List, codes}
use Rattle.lexre.specs.Definitions.{Definitions}
use Rattle.lexre.specs.PatternExamples.{plain}
use Rattle.lexre_bytes.specs.declared.refusals.SpecError.{SpecError}
use Rattle.lexre_bytes.specs.declared.refusals.SpecErrorKind.TheVariants.{DanglingBar}
use Rattle.lexspec.specs.FaultLines.{IsFirstFault}

-- At `^` before `<<EOF>>` no rule waits for an action. So whatever is declared, no `|` is told.
abbrev pub NoBarWaits : Type 0
NoBarWaits =
    (names : List (List ℕ)) (stack : Bool) (defined : Definitions) (e : SpecError)
    → IsFirstFault names plain stack defined 2 (codes "^<<EOF>> ;\n") e → e.kind ≢ DanglingBar
