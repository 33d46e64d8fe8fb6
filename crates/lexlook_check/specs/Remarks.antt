-- What is said of what stands at the place of a fault, where that is known from flex or elsewhere. (This project's;
-- docs/MANUAL.md, Coming from flex.)
use Rattle.std.specs.Prelude.{ℕ, ◌-◌, ◌&&◌, ◌||◌, Bool, true, false, if◌then◌else◌, List, [], ◌∷◌, drop, Option, unwrap_or, codes}
use Rattle.lex_semantics.specs.ByteSets.{same_bytes}
use Rattle.lex_semantics.specs.Reading.{begins}
use Rattle.lexre_bytes.specs.declared.error.PatternErrorKind.{PatternErrorKind}
use Rattle.lexre_bytes.specs.declared.error.PatternErrorKind.TheVariants.{BadInterval, MissingOperand}
use Rattle.lexre_bytes.specs.declared.refusals.SpecErrorKind.{SpecErrorKind}
use Rattle.lexre_bytes.specs.declared.refusals.SpecErrorKind.TheVariants.{BadDefinitionLine, NoRulesSection, Pattern, Unclosed, UnknownStatement}
use Rattle.lexlook_text.specs.Known.{front_name}
use Rattle.lexlook_check.specs.Returns.{has_lone_return}
use Rattle.lexlook_check.specs.declared.findings.What.{What}
use Rattle.lexlook_check.specs.declared.findings.What.TheVariants.{Fault}

-- of an interval at this text; `around` begins with the byte before it
abbrev pub interval_remark : List ℕ → List ℕ → List ℕ
interval_remark around rest =
    if begins (codes ">{") around
    then codes "rules in braces behind a condition list are not read, and each rule begins with its list; "
    else if begins (codes "{-}") rest || begins (codes "{+}") rest
    then codes "no class is taken from another or added to one, and a class has all its bytes itself; "
    else []

-- of something to repeat or to choose that is not there
abbrev pub operand_remark : List ℕ → List ℕ → List ℕ
operand_remark around rest =
    if begins (codes "(?") around
    then codes "a group with flags is not read, and a letter of both cases is a class, as `[Aa]`, or by -i; "
    else if begins (codes "/*") rest then codes "a comment among rules stands behind a blank; "
    else if same_bytes around (codes ">")
    then codes "rules in braces behind a condition list are not read, and each rule begins with its list; "
    else []

abbrev pub pattern_remark : PatternErrorKind → List ℕ → List ℕ → List ℕ
pattern_remark BadInterval around rest = interval_remark around rest
pattern_remark MissingOperand around rest = operand_remark around rest
pattern_remark other around rest = []

-- of a name that statements of flex have
abbrev pub name_remark : List ℕ → List ℕ
name_remark name =
    if same_bytes name (codes "return") then codes "what a parser is to read is written, as by puts(\"NAME\"); "
    else if same_bytes name (codes "unput") || same_bytes name (codes "input")
    then codes "bytes are read and given back by rules and yyless alone; "
    else []

-- of what is no statement
abbrev pub statement_remark : List ℕ → List ℕ → List ℕ
statement_remark around rest =
    if begins (codes "%{") rest then codes "a block is no action, and braces alone hold several statements; "
    else if begins (codes "%") rest then codes "a format has `%s` once, for yytext, and `%%` for a `%`; "
    else if begins (codes "'") around
    then codes "no character constant is read, and what is written stands in a string; "
    else name_remark (front_name rest)

-- of a string without its end
abbrev pub quote_remark : List ℕ → List ℕ
quote_remark around =
    if begins (codes "'") around
    then codes "no character constant is read, and what is written stands in a string; "
    else []

-- of a line of the definitions section; the mark is 239, 187 and 191
abbrev pub line_remark : List ℕ → List ℕ
line_remark rest =
    if begins (239 ∷ 187 ∷ 191 ∷ []) rest
    then codes "a byte order mark stands before the first line, and is no part of it; "
    else []

abbrev pub remark : SpecErrorKind → List ℕ → List ℕ → List ℕ
remark (Pattern e) around rest = pattern_remark e.kind around rest
remark UnknownStatement around rest = statement_remark around rest
remark Unclosed around rest = quote_remark around
remark BadDefinitionLine around rest = line_remark rest
remark other around rest = []

-- a text that is refused by one of these may be no specification at all
abbrev pub is_of_file : SpecErrorKind → Bool
is_of_file NoRulesSection = true
is_of_file BadDefinitionLine = true
is_of_file other = false

-- of a fault of a text, at this place of a line, or at its beginning
abbrev pub fault_remark : List ℕ → SpecErrorKind → ℕ → List ℕ → List ℕ
fault_remark text kind at line =
    if is_of_file kind && begins (codes "LEXTAB") text
    then codes "this begins as a table file, which `lex --scan-table` reads; "
    else if has_lone_return line || (is_of_file kind && has_lone_return text)
    then codes "a carriage return without a newline behind it ends no line; "
    else remark kind (drop (at - 1) line) (drop at line)

abbrev pub remark_told : List ℕ → What → Option ℕ → List ℕ → List ℕ
remark_told text (Fault kind) at line = fault_remark text kind (unwrap_or at 0) line
remark_told text what at line = []
