-- What the refusal of an action, of a definitions section or of a file means.
use Rattle.std.specs.Prelude.{⊤, ◌≢◌}
use Rattle.lexre_bytes.specs.declared.error.PatternErrorKind.TheVariants as patterns
use Rattle.lexre_bytes.specs.declared.refusals.SpecErrorKind.{SpecErrorKind}
use Rattle.lexre_bytes.specs.declared.refusals.SpecErrorKind.TheVariants.{OutOfMemory, Pattern}

-- the fact, unless memory ran out, also inside a pattern
abbrev pub UnlessMemory : SpecErrorKind → Type 0 → Type 0
UnlessMemory OutOfMemory F = ⊤
UnlessMemory (Pattern e) F = e.kind ≢ patterns.OutOfMemory → F
UnlessMemory _ F = F
