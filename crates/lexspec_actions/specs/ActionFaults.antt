-- Why a text is no action, or why none was read.
use Rattle.std.specs.Prelude.{⊤}
use Rattle.lexre_bytes.specs.declared.refusals.SpecErrorKind.{SpecErrorKind}
use Rattle.lexre_bytes.specs.declared.refusals.SpecErrorKind.TheVariants.{UnknownStatement, UnknownCondition, BadCount, BadStatus, LessAndMore, RejectCombination, NotLast, BadEofAction, Unclosed, TooLong, OutOfMemory}

-- statements may not stand in one action
abbrev pub IsTogetherFault : SpecErrorKind → Type 0
IsTogetherFault TooLong = ⊤
IsTogetherFault LessAndMore = ⊤
IsTogetherFault RejectCombination = ⊤
IsTogetherFault NotLast = ⊤
IsTogetherFault _ = ⊥

abbrev pub IsActionFault : SpecErrorKind → Type 0
IsActionFault UnknownStatement = ⊤
IsActionFault UnknownCondition = ⊤
IsActionFault BadCount = ⊤
IsActionFault BadStatus = ⊤
IsActionFault LessAndMore = ⊤
IsActionFault RejectCombination = ⊤
IsActionFault NotLast = ⊤
IsActionFault BadEofAction = ⊤
IsActionFault Unclosed = ⊤
IsActionFault TooLong = ⊤
IsActionFault OutOfMemory = ⊤
IsActionFault _ = ⊥
