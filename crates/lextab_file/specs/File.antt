-- The file of a table: its parts in order, numbers with the greatest byte first. (This project's.)
use Rattle.std.specs.Prelude.{◌≡◌, ℕ, Bool, true, false, if◌then◌else◌, List, [], ◌∷◌, ◌++◌, length, codes}
use Rattle.std.specs.Int.{w16, w32, to_be_bytes}
use Rattle.std.specs.List.{flat_map, list_any}
use Rattle.lex_semantics.specs.Spec.{Statement, Echo, Print, Begin, More, Less, Reject, End, Push, Pop, EndAction, Cut, Whole, Head, Trail}
use Rattle.lextab_packed.specs.Table.{ConditionOfTable, RuleOfTable, Row, Slot, Table}
use Rattle.lextab_packed.specs.Checks.{Sizes, IsTable}

-- two and four bytes
abbrev pub short : ℕ → List ℕ
short n = to_be_bytes w16 n

abbrev pub long : ℕ → List ℕ
long n = to_be_bytes w32 n

-- the length and the bytes
abbrev pub counted : List ℕ → List ℕ
counted bytes = long (length bytes) ++ bytes

-- the tag and the number
abbrev pub cut_text : Cut → List ℕ
cut_text Whole = 0 ∷ long 0
cut_text (Head n) = 1 ∷ long n
cut_text (Trail n) = 2 ∷ long n

-- the tag and what it says more
abbrev pub statement_text : Statement → List ℕ
statement_text Echo = 0 ∷ []
statement_text (Print bytes) = 1 ∷ counted bytes
statement_text (Begin c) = 2 ∷ c ∷ []
statement_text More = 3 ∷ []
statement_text (Less n) = 4 ∷ short n
statement_text Reject = 5 ∷ []
statement_text (End status) = 6 ∷ status ∷ []
statement_text (Push c) = 7 ∷ c ∷ []
statement_text Pop = 8 ∷ []

abbrev pub condition_text : ConditionOfTable → List ℕ
condition_text c = long c.start ++ (long c.line_start ++ (counted c.end.print ++ c.end.status ∷ []))

abbrev pub rule_text : RuleOfTable → List ℕ
rule_text r = cut_text r.cut ++ (long (length r.statements) ++ flat_map statement_text r.statements)

abbrev pub row_text : Row → List ℕ
row_text r = long r.default_target ++ (long r.base ++ (long (length r.rules) ++ flat_map long r.rules))

abbrev pub slot_text : Slot → List ℕ
slot_text s = long s.check ++ long s.next

-- a statement of the stack of conditions
abbrev pub is_stack : Statement → Bool
is_stack (Push c) = true
is_stack Pop = true
is_stack _ = false

-- the version that these rules need: 2 where one has a statement of the stack
abbrev pub version_of : List RuleOfTable → ℕ
version_of rules = if list_any (λ r. list_any is_stack r.statements) rules then 2 else 1

abbrev pub file_of : Table → List ℕ
file_of t =
    codes "LEXTAB" ++ (short (version_of t.rules) ++ ((long (length t.conditions)
    ++ (long (length t.rules) ++ (long (length t.rows) ++ (long t.classes ++ long (length t.slots)))))
    ++ (flat_map condition_text t.conditions
    ++ (flat_map rule_text t.rules
    ++ (flat_map (λ b. b ∷ []) t.class_of
    ++ (flat_map row_text t.rows
    ++ flat_map slot_text t.slots))))))

-- the bytes are the file of the table, which keeps to what tables keep to
abbrev pub IsFileOf : Table → List ℕ → Type 0
IsFileOf t bytes = IsTable t × (bytes ≡ file_of t)

-- Names that proofs have for parts of a file, and for whether an action or some rule has a statement of the stack.
abbrev pub byte : ℕ → List ℕ
byte b = b ∷ []

abbrev pub end_text : EndAction → List ℕ
end_text e = counted e.print ++ e.status ∷ []

abbrev pub magic : List ℕ
magic = codes "LEXTAB"

abbrev pub has_stack : List Statement → Bool
has_stack ss = list_any is_stack ss

abbrev pub any_stack : List RuleOfTable → Bool
any_stack rs = list_any (λ r. has_stack r.statements) rs

abbrev pub sizes_text : Sizes → List ℕ
sizes_text z = long z.conditions ++ (long z.rules ++ (long z.states ++ (long z.classes ++ long z.slots)))
