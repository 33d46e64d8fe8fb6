-- Why no condition list and pattern begin a text. None of these takes memory to find.
use Rattle.std.specs.Prelude.{⊤}
use Rattle.lexre.specs.Cutting.{IsCuttingFault}
use Rattle.lexre_bytes.specs.declared.refusals.SpecErrorKind.{SpecErrorKind}
use Rattle.lexre_bytes.specs.declared.refusals.SpecErrorKind.TheVariants as K

-- the pattern has no cutting, or two trailing contexts, or `<<EOF>>` does not stand alone
abbrev pub IsSubjectFault : SpecErrorKind → Type 0
IsSubjectFault (K.Pattern e) = IsCuttingFault e.kind
IsSubjectFault K.TwoTrailing = ⊤
IsSubjectFault K.BadEofRule = ⊤
IsSubjectFault _ = ⊥
