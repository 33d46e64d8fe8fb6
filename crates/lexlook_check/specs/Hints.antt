-- What is expected where a fault is. (This project's; what is read is POSIX's and flex's, as docs/MANUAL.md has it.)
use Rattle.std.specs.Prelude.{ℕ, List, [], ◌∷◌, codes, decimal}
use Rattle.std.specs.List.{concat}
use Rattle.lexre_bytes.specs.declared.error.PatternErrorKind.{PatternErrorKind}
use Rattle.lexre_bytes.specs.declared.error.PatternErrorKind.TheVariants as patterns
use Rattle.lexre_bytes.specs.declared.refusals.SpecErrorKind.{SpecErrorKind}
use Rattle.lexre_bytes.specs.declared.refusals.SpecErrorKind.TheVariants as kinds
use Rattle.lexauto.specs.declared.error.BuildError.{BuildError}
use Rattle.lexauto.specs.declared.error.BuildError.TheVariants as builds
use Rattle.lexlook_check.specs.SourceLines.{under}
use Rattle.lexlook_check.specs.declared.notices.NoticeKind.{NoticeKind}
use Rattle.lexlook_check.specs.declared.notices.NoticeKind.TheVariants.{LettersAsBytes, LetterAlone, Backspace, CaseRange, LineWalk, FlexTrail, BarTrail, EndAgain, NamedTrail, EmptyHead, IdleEnd, LoneReturn, UnusedDefinition, NeverEntered, NeverLeft}

-- of a pattern
abbrev pub pattern_hint : PatternErrorKind → List ℕ
pattern_hint patterns.UnclosedQuote = codes "a quote ends on its line"
pattern_hint patterns.UnclosedClass = codes "a class ends with `]` on its line; a `]` of its bytes stands first"
pattern_hint patterns.BadRange = codes "a range goes from a byte to the same or a greater one"
pattern_hint patterns.EmptyClass = codes "a class has a byte"
pattern_hint patterns.UnknownClassName =
    codes "classes are alpha, digit, alnum, upper, lower, space, blank, cntrl, graph, print, punct and xdigit"
pattern_hint patterns.UnsupportedBracket = codes "[=a=], [.a.] and [:^alpha:] are not read"
pattern_hint patterns.BadEscape = codes "octal digits are 377 at most, and no backslash stands at the end of a line"
pattern_hint patterns.BadInterval =
    codes "an interval has numbers up to 255, the lesser first; a `{` that is a byte stands in quotes or behind a backslash"
pattern_hint patterns.UnbalancedParen =
    codes "a parenthesis has its other; one that is a byte stands in quotes or behind a backslash"
pattern_hint patterns.MissingOperand =
    codes "something to repeat or to choose stands there; a sign that is a byte stands in quotes or behind a backslash"
pattern_hint patterns.UndefinedName = codes "a name is defined before the first `%%`, and so are those in its pattern"
pattern_hint patterns.DefinitionCycle = codes "no definition leads back to its name"
pattern_hint patterns.TooDeep = codes "64 parentheses and names are open at most, and 64 signs stand on an item"
pattern_hint patterns.TooBig = codes "a pattern has 65536 nodes at most"
pattern_hint patterns.MisplacedSlash =
    codes "a `/` stands outside of parentheses and definitions; one that is a byte stands in quotes or behind a backslash"
pattern_hint patterns.OutOfMemory = codes "memory ran out"

-- of an action
abbrev pub action_hint : SpecErrorKind → List ℕ
action_hint kinds.UnknownStatement =
    codes "statements are ECHO, BEGIN, printf, fputs, puts, yymore, yyless, REJECT, exit, yyterminate and more, each with its `;`: see lex(1)"
action_hint kinds.LessAndMore = codes "yyless stands once in an action, and without yymore"
action_hint kinds.RejectCombination = codes "REJECT stands without yymore and yyless"
action_hint kinds.NotLast = codes "REJECT, yyterminate and exit stand last"
action_hint kinds.BadEofAction = codes "an action of <<EOF>> prints, ends the scan, or both"
action_hint kinds.BadCount = codes "yyless keeps 1 to 65535 bytes"
action_hint kinds.BadStatus = codes "the status of exit is 0 to 63"
action_hint (kinds.Pattern e) = pattern_hint e.kind
action_hint other = codes "memory ran out"

-- of a rule
abbrev pub rule_hint : SpecErrorKind → List ℕ
rule_hint kinds.UnknownCondition = codes "%s and %x declare conditions, and a list of them ends with `>` on its line"
rule_hint kinds.VariableTrailing =
    codes
    "neither side of the `/` has texts of one length, of 65535 bytes at most: what stands behind it may be a byte or a class, or a rule of a condition may take it"
rule_hint kinds.TwoTrailing = codes "a rule has one trailing context, by `/` or by a `$` at its end"
rule_hint kinds.BadEofRule = codes "<<EOF>> stands alone before its action"
rule_hint kinds.DuplicateEof = codes "a condition has one <<EOF>> rule"
rule_hint kinds.DanglingBar = codes "`|` is the action of the next rule that has a pattern, and there is none"
rule_hint kinds.Unclosed = codes "a string, a comment, a brace or a `%{` has no end"
rule_hint kinds.TooManyRules = codes "there are 4096 rules at most"
rule_hint kinds.TooLong = codes "a file has 1048576 bytes at most, and an action 256 statements and 4096 bytes to print"
rule_hint other = action_hint other

-- of the definitions section, and of a file
abbrev pub definition_hint : SpecErrorKind → List ℕ
definition_hint kinds.NoRulesSection = codes "a line `%%` stands between definitions and rules"
definition_hint kinds.BadDefinitionLine =
    codes "a definition is a name, blanks and a pattern; %s, %x and %option declare"
definition_hint kinds.DuplicateName = codes "each name is defined once"
definition_hint kinds.DuplicateCondition = codes "each condition is declared once, and INITIAL always is"
definition_hint kinds.AnchoredDefinition = codes "`^` and `$` stand in rules, and in no definition"
definition_hint kinds.UnsupportedOption =
    codes "options are case-insensitive, stack, and some that do nothing: see lex(1)"
definition_hint kinds.TooManyConditions = codes "there are 255 conditions at most, INITIAL among them"
definition_hint other = rule_hint other

-- of a limit
abbrev pub limit_hint : BuildError → List ℕ
limit_hint builds.TooManyPositions =
    codes "a pattern has a position for each byte and class, in each copy that a repetition counts"
limit_hint builds.TooManyStates =
    codes
    "there is a state for each set of positions that some input may have read last, so what a counted repetition has to remember may double with each count"
limit_hint builds.OutOfMemory = codes "memory ran out"

-- of what flex takes otherwise by what a whole specification says, and of the default rule
abbrev pub difference_hint : NoticeKind → List ℕ
difference_hint NamedTrail =
    codes
    "flex reads the pattern of a name at the end of a trailing context in no parentheses, so that a `|` of it divides what stands before the name too: write `({NAME})`"
difference_hint EmptyHead =
    codes
    "a match has a byte at least, but flex may match the empty text before this trailing context, again and again: write what has a byte, as `a+` for `a*`"
difference_hint IdleEnd =
    codes
    "each condition has an <<EOF>> rule with a list, which it takes, so this one does nothing; flex makes of it a program that does not compile, or gives it the conditions whose own stands behind it"
difference_hint other = codes "a last rule `.|\\n` of it takes each byte that the others leave"

-- of what is warned of outside of patterns
abbrev pub outside_hint : NoticeKind → List ℕ
outside_hint EndAgain =
    codes
    "the end of the input ends the scan, whatever the action; in flex an action without yyterminate and exit meets the end again, for ever"
outside_hint LoneReturn =
    codes
    "a carriage return ends a line with the newline behind it, and else it is a byte of its line: a file whose lines end with carriage returns alone is one line"
outside_hint UnusedDefinition =
    codes "a definition stands for its pattern where its name is in braces, as `{DIGIT}`"
outside_hint NeverEntered = codes "no BEGIN and no yy_push_state of a rule names it, so no match is made in it"
outside_hint NeverLeft =
    codes
    "no rule that is active in it has BEGIN or yy_push_state of another, yy_pop_state, exit or yyterminate, so it lasts to the end of the input"
outside_hint other = difference_hint other

-- of what is warned of
abbrev pub notice_hint : NoticeKind → List ℕ
notice_hint LettersAsBytes =
    codes "a class has bytes, and a letter beyond ASCII is several of them: `lexlook utf8` and share/utf8.l have patterns of letters"
notice_hint LetterAlone =
    codes "`\\d`, `\\s` and `\\w` are the letters themselves, and so are `\\D`, `\\S` and `\\W`: [0-9], [ \\t\\n] and [A-Za-z0-9_] are classes"
notice_hint Backspace =
    codes "`\\b` is a backspace, the byte 8: no sign stands for the end of a word, and the longest text is taken anyway"
notice_hint CaseRange =
    codes "such a range has the bytes between `Z` and `a` too, and with -i flex adds no other case to it: write `[A-Za-z]`"
notice_hint LineWalk =
    codes
    "where it does not match it is walked to the end of the line, and again from the next byte, so a line of 1000 bytes may take some 500000 steps: with `^` it is walked once"
notice_hint FlexTrail =
    codes
    "one side has texts of one length, and so many bytes are left or taken; flex takes a side with `*`, `+`, `?`, `|` or an interval to vary, and may take more of what follows"
notice_hint BarTrail =
    codes
    "behind a rule whose action is `|` flex takes a trailing context to vary in length, and may take more of what follows; behind a `$` there the next match is at the start of a line: write the action in place of the `|`"
notice_hint other = outside_hint other

-- the line of it, below a line with this number
abbrev pub hint_words : ℕ → List ℕ → List ℕ
hint_words n hint = concat (codes "    " ∷ under (decimal n) ∷ codes " = " ∷ hint ∷ codes "\n" ∷ [])
