-- The number of each refusal for C: from 1 on those of a specification, from 101 on those of a pattern in it, from 201
-- on the limits of its automaton. Want of memory is no refusal, and has 0. (Own.)
use Rattle.std.specs.Prelude.{ℕ}
use Rattle.lexre_bytes.specs.declared.error.PatternErrorKind.{PatternErrorKind}
use Rattle.lexre_bytes.specs.declared.error.PatternErrorKind.TheVariants as patterns
use Rattle.lexre_bytes.specs.declared.refusals.SpecErrorKind.{SpecErrorKind}
use Rattle.lexre_bytes.specs.declared.refusals.SpecErrorKind.TheVariants as kinds
use Rattle.lexauto.specs.declared.error.BuildError.{BuildError}
use Rattle.lexauto.specs.declared.error.BuildError.TheVariants as builds

abbrev pub pattern_number : PatternErrorKind → ℕ
pattern_number patterns.UnclosedQuote = 101
pattern_number patterns.UnclosedClass = 102
pattern_number patterns.BadRange = 103
pattern_number patterns.EmptyClass = 104
pattern_number patterns.UnknownClassName = 105
pattern_number patterns.UnsupportedBracket = 106
pattern_number patterns.BadEscape = 107
pattern_number patterns.BadInterval = 108
pattern_number patterns.UnbalancedParen = 109
pattern_number patterns.MissingOperand = 110
pattern_number patterns.UndefinedName = 111
pattern_number patterns.DefinitionCycle = 112
pattern_number patterns.TooDeep = 113
pattern_number patterns.TooBig = 114
pattern_number patterns.MisplacedSlash = 115
pattern_number patterns.OutOfMemory = 0

abbrev pub kind_number : SpecErrorKind → ℕ
kind_number kinds.NoRulesSection = 1
kind_number kinds.BadDefinitionLine = 2
kind_number kinds.DuplicateName = 3
kind_number kinds.DuplicateCondition = 4
kind_number kinds.UnknownCondition = 5
kind_number (kinds.Pattern e) = pattern_number e.kind
kind_number kinds.VariableTrailing = 6
kind_number kinds.TwoTrailing = 7
kind_number kinds.AnchoredDefinition = 8
kind_number kinds.BadEofRule = 9
kind_number kinds.DuplicateEof = 10
kind_number kinds.UnknownStatement = 11
kind_number kinds.LessAndMore = 12
kind_number kinds.RejectCombination = 13
kind_number kinds.NotLast = 14
kind_number kinds.BadEofAction = 15
kind_number kinds.BadCount = 16
kind_number kinds.BadStatus = 17
kind_number kinds.Unclosed = 18
kind_number kinds.DanglingBar = 19
kind_number kinds.UnsupportedOption = 20
kind_number kinds.TooManyRules = 21
kind_number kinds.TooManyConditions = 22
kind_number kinds.TooLong = 23
kind_number kinds.OutOfMemory = 0

abbrev pub build_number : BuildError → ℕ
build_number builds.TooManyPositions = 201
build_number builds.TooManyStates = 202
build_number builds.OutOfMemory = 0
