-- What the refusal of a pattern means.
use Rattle.std.specs.Prelude.{⊤}
use Rattle.lexre_bytes.specs.declared.error.PatternErrorKind.{PatternErrorKind}
use Rattle.lexre_bytes.specs.declared.error.PatternErrorKind.TheVariants.{OutOfMemory}

-- the fact, unless memory ran out
abbrev pub UnlessPatternMemory : PatternErrorKind → Type 0 → Type 0
UnlessPatternMemory OutOfMemory P = ⊤
UnlessPatternMemory _ P = P
