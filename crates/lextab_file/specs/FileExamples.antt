-- Worked examples of table files, byte for byte, and of bytes that are refused.
use Rattle.std.specs.Prelude.{◌≡◌, ℕ, ◌+◌, List, [], ◌∷◌, ◌++◌, length, take, drop, replicate, Some, None}
use Rattle.lex_semantics.specs.Spec.{Statement, Echo, Print, Push, Pop, Whole}
use Rattle.lextab_packed.specs.Table.{ConditionOfTable, RuleOfTable, Table}
use Rattle.lextab_file.specs.File.{file_of}
use Rattle.lextab_file.specs.Refusals.{read_refusal}
use Rattle.lextab_file.specs.declared.error.TableError.{TableError}
use Rattle.lextab_file.specs.declared.error.TableError.TheVariants.{BadMagic, BadVersion, Truncated, TrailingBytes, BadField}

-- a condition whose end does nothing, where matches start in this state
abbrev pub plain_condition : ℕ → ConditionOfTable
plain_condition start = record { start = start; line_start = start; end = record { print = []; status = 0 } }

-- a rule whose text is the whole match
abbrev pub whole_rule : List Statement → RuleOfTable
whole_rule statements = record { cut = Whole; statements = statements }

-- the classes of the bytes by the letters `f`, `i`, the other ones, and all else
abbrev pub letter_classes : List ℕ
letter_classes = replicate 97 0 ++ replicate 5 1 ++ 2 ∷ replicate 2 1 ++ 3 ∷ replicate 17 1 ++ replicate 133 0

-- the table of the rules `if`, which prints K, and `[a-z]+`, which prints I
abbrev pub keyword_table : Table
keyword_table = record {
  conditions = plain_condition 1 ∷ [];
  rules = whole_rule (Print (75 ∷ []) ∷ []) ∷ whole_rule (Print (73 ∷ []) ∷ []) ∷ [];
  classes = 4;
  class_of = letter_classes;
  rows =
      record { default_target = 0; base = 0; rules = [] }
      ∷ record { default_target = 2; base = 0; rules = [] }
      ∷ record { default_target = 2; base = 1; rules = 1 ∷ [] }
      ∷ record { default_target = 2; base = 2; rules = 1 ∷ [] }
      ∷ record { default_target = 2; base = 5; rules = 0 ∷ [] }
      ∷ [];
  slots =
      record { check = 1; next = 0 } ∷ record { check = 2; next = 0 } ∷ record { check = 3; next = 0 }
      ∷ record { check = 1; next = 3 } ∷ record { check = 3; next = 4 } ∷ record { check = 4; next = 0 }
      ∷ record { check = 0; next = 0 } ∷ record { check = 0; next = 0 } ∷ record { check = 0; next = 0 }
      ∷ [];
}

-- a number of four bytes below 256
abbrev pub small : ℕ → List ℕ
small n = 0 ∷ 0 ∷ 0 ∷ n ∷ []

-- its file, of 471 bytes
abbrev pub keyword_file : List ℕ
keyword_file =
    76 ∷ 69 ∷ 88 ∷ 84 ∷ 65 ∷ 66 ∷ 0 ∷ 1 ∷ []
    ++ small 1 ++ small 2 ++ small 5 ++ small 4 ++ small 9
    ++ small 1 ++ small 1 ++ small 0 ++ 0 ∷ []
    ++ 0 ∷ small 0 ++ small 1 ++ 1 ∷ small 1 ++ 75 ∷ []
    ++ 0 ∷ small 0 ++ small 1 ++ 1 ∷ small 1 ++ 73 ∷ []
    ++ letter_classes
    ++ small 0 ++ small 0 ++ small 0
    ++ small 2 ++ small 0 ++ small 0
    ++ small 2 ++ small 1 ++ small 1 ++ small 1
    ++ small 2 ++ small 2 ++ small 1 ++ small 1
    ++ small 2 ++ small 5 ++ small 1 ++ small 0
    ++ small 1 ++ small 0 ++ small 2 ++ small 0 ++ small 3 ++ small 0
    ++ small 1 ++ small 3 ++ small 3 ++ small 4 ++ small 4 ++ small 0
    ++ small 0 ++ small 0 ++ small 0 ++ small 0 ++ small 0 ++ small 0

abbrev pub KeywordFile : Type 0
KeywordFile = (file_of keyword_table ≡ keyword_file) × (length keyword_file ≡ 471)

-- the parts of a table, without rows and classes, whose one rule uses the stack: version 2, and each statement a byte
-- of its own
abbrev pub stack_table : Table
stack_table = record {
  conditions = plain_condition 0 ∷ [];
  rules = whole_rule (Echo ∷ Push 0 ∷ Pop ∷ []) ∷ [];
  classes = 1;
  class_of = [];
  rows = [];
  slots = [];
}

abbrev pub stack_file : List ℕ
stack_file =
    76 ∷ 69 ∷ 88 ∷ 84 ∷ 65 ∷ 66 ∷ 0 ∷ 2 ∷ []
    ++ small 1 ++ small 1 ++ small 0 ++ small 1 ++ small 0
    ++ small 0 ++ small 0 ++ small 0 ++ 0 ∷ []
    ++ 0 ∷ small 0 ++ small 3 ++ 0 ∷ 7 ∷ 0 ∷ 8 ∷ []

abbrev pub StackFile : Type 0
StackFile = file_of stack_table ≡ stack_file

-- the file of two rules, with these bytes from this place on
abbrev pub changed : ℕ → List ℕ → List ℕ
changed place bytes = take place keyword_file ++ bytes ++ drop (place + length bytes) keyword_file

-- it is refused so
abbrev pub Refused : ℕ → List ℕ → TableError → Type 0
Refused place bytes e = read_refusal (changed place bytes) ≡ Some e

-- its field of four bytes at this place is refused if it has this number, below 256
abbrev pub RefusedField : ℕ → ℕ → Type 0
RefusedField place n = Refused place (small n) (BadField place)

-- with another byte in front, a version of 3, and a version that its rules do not need; and counts: no condition, no
-- state, no class, fewer slots than classes, and one more than there may be
abbrev pub RefusedHeaders : Type 0
RefusedHeaders =
    Refused 0 (108 ∷ []) BadMagic × Refused 7 (3 ∷ []) BadVersion × Refused 7 (2 ∷ []) (BadField 6)
    × RefusedField 8 0 × RefusedField 16 0 × RefusedField 20 0 × RefusedField 24 3
    × Refused 8 (0 ∷ 0 ∷ 1 ∷ 0 ∷ []) (BadField 8) × Refused 12 (0 ∷ 0 ∷ 16 ∷ 1 ∷ []) (BadField 12)
    × Refused 16 (0 ∷ 0 ∷ 32 ∷ 1 ∷ []) (BadField 16) × Refused 20 (0 ∷ 0 ∷ 1 ∷ 1 ∷ []) (BadField 20)
    × Refused 24 (0 ∷ 32 ∷ 0 ∷ 1 ∷ []) (BadField 24)

-- a start past the states, the length and the status of an end, a cut that is not known, the number of a whole match, a
-- count of statements, a tag that is not known, and a literal of no bytes
abbrev pub RefusedRules : Type 0
RefusedRules =
    RefusedField 28 5 × RefusedField 32 5 × Refused 36 (0 ∷ 0 ∷ 16 ∷ 1 ∷ []) (BadField 36)
    × Refused 40 (64 ∷ []) (BadField 40)
    × Refused 41 (3 ∷ []) (BadField 41) × RefusedField 42 1 × Refused 46 (0 ∷ 0 ∷ 1 ∷ 1 ∷ []) (BadField 46)
    × Refused 50 (9 ∷ []) (BadField 50) × RefusedField 51 0

-- a class that there is not; of state 0 each field; a default, a base, a count and a rule; a target, a check of a state
-- that has no such slot or that there is not, and a target in a slot that is not used
abbrev pub RefusedStates : Type 0
RefusedStates =
    Refused 71 (4 ∷ []) (BadField 71)
    × RefusedField 327 1 × RefusedField 331 1 × RefusedField 335 1
    × RefusedField 339 5 × RefusedField 343 6 × RefusedField 347 2 × RefusedField 363 2
    × RefusedField 403 5 × RefusedField 447 1 × RefusedField 447 5 × RefusedField 451 1

-- a literal of 4,096 bytes after one of 1 and an ECHO
abbrev pub long_literals : List ℕ
long_literals = take 46 keyword_file ++ small 3 ++ 1 ∷ small 1 ++ 75 ∷ 0 ∷ 1 ∷ 0 ∷ 0 ∷ 16 ∷ 0 ∷ []

-- A literal with more bytes than are left is told by its tag, before its bytes are missed; one above 4,096 by its
-- length. So is a push in a file of version 1 by its tag, where there is one of each kind.
abbrev pub RefusedTags : Type 0
RefusedTags =
    (read_refusal long_literals ≡ Some (BadField 57))
    × (read_refusal (take 61 long_literals ++ 1 ∷ []) ≡ Some (BadField 58))
    × (read_refusal (take 7 stack_file ++ 1 ∷ small 1 ++ small 1 ++ small 1 ++ small 1 ++ small 1 ++ drop 28 stack_file)
    ≡ Some (BadField 51))

-- No bytes, three bytes, and all but the last one are cut short; with one byte more there is one left over. A fault
-- before the end is told first.
abbrev pub RefusedEnds : Type 0
RefusedEnds =
    (read_refusal keyword_file ≡ None)
    × (read_refusal [] ≡ Some Truncated) × (read_refusal (88 ∷ 89 ∷ 90 ∷ []) ≡ Some Truncated)
    × (read_refusal (take 470 keyword_file) ≡ Some Truncated)
    × (read_refusal (keyword_file ++ 0 ∷ []) ≡ Some TrailingBytes)
    × (read_refusal (take 200 (changed 100 (4 ∷ []))) ≡ Some (BadField 100))
