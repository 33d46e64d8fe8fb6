-- The names of refusals, as they are told. (Own: POSIX leaves messages to the implementation.)
use Rattle.std.specs.Prelude.{ℕ, List, codes}
use Rattle.lexre_bytes.specs.declared.error.PatternErrorKind.{PatternErrorKind}
use Rattle.lexre_bytes.specs.declared.error.PatternErrorKind.TheVariants as patterns
use Rattle.lexre_bytes.specs.declared.refusals.SpecErrorKind.{SpecErrorKind}
use Rattle.lexre_bytes.specs.declared.refusals.SpecErrorKind.TheVariants as kinds

-- of a pattern
abbrev pub pattern_name : PatternErrorKind → List ℕ
pattern_name patterns.UnclosedQuote = codes "UnclosedQuote"
pattern_name patterns.UnclosedClass = codes "UnclosedClass"
pattern_name patterns.BadRange = codes "BadRange"
pattern_name patterns.EmptyClass = codes "EmptyClass"
pattern_name patterns.UnknownClassName = codes "UnknownClassName"
pattern_name patterns.UnsupportedBracket = codes "UnsupportedBracket"
pattern_name patterns.BadEscape = codes "BadEscape"
pattern_name patterns.BadInterval = codes "BadInterval"
pattern_name patterns.UnbalancedParen = codes "UnbalancedParen"
pattern_name patterns.MissingOperand = codes "MissingOperand"
pattern_name patterns.UndefinedName = codes "UndefinedName"
pattern_name patterns.DefinitionCycle = codes "DefinitionCycle"
pattern_name patterns.TooDeep = codes "TooDeep"
pattern_name patterns.TooBig = codes "TooBig"
pattern_name patterns.MisplacedSlash = codes "MisplacedSlash"
pattern_name patterns.OutOfMemory = codes "OutOfMemory"

-- of a specification; that of a pattern in it is the pattern's
abbrev pub kind_name : SpecErrorKind → List ℕ
kind_name kinds.NoRulesSection = codes "NoRulesSection"
kind_name kinds.BadDefinitionLine = codes "BadDefinitionLine"
kind_name kinds.DuplicateName = codes "DuplicateName"
kind_name kinds.DuplicateCondition = codes "DuplicateCondition"
kind_name kinds.UnknownCondition = codes "UnknownCondition"
kind_name (kinds.Pattern e) = pattern_name e.kind
kind_name kinds.VariableTrailing = codes "VariableTrailing"
kind_name kinds.TwoTrailing = codes "TwoTrailing"
kind_name kinds.AnchoredDefinition = codes "AnchoredDefinition"
kind_name kinds.BadEofRule = codes "BadEofRule"
kind_name kinds.DuplicateEof = codes "DuplicateEof"
kind_name kinds.UnknownStatement = codes "UnknownStatement"
kind_name kinds.LessAndMore = codes "LessAndMore"
kind_name kinds.RejectCombination = codes "RejectCombination"
kind_name kinds.NotLast = codes "NotLast"
kind_name kinds.BadEofAction = codes "BadEofAction"
kind_name kinds.BadCount = codes "BadCount"
kind_name kinds.BadStatus = codes "BadStatus"
kind_name kinds.Unclosed = codes "Unclosed"
kind_name kinds.DanglingBar = codes "DanglingBar"
kind_name kinds.UnsupportedOption = codes "UnsupportedOption"
kind_name kinds.TooManyRules = codes "TooManyRules"
kind_name kinds.TooManyConditions = codes "TooManyConditions"
kind_name kinds.TooLong = codes "TooLong"
kind_name kinds.OutOfMemory = codes "OutOfMemory"
