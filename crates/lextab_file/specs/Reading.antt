-- Reading a table from its bytes, from left to right: a value and the bytes after it, or the fault of the first field
-- that is not as it must be.
use Rattle.std.specs.Prelude.{ℕ, zero, suc, ◌+◌, ◌-◌, Bool, true, false, not, ◌&&◌, ◌||◌, cond, if◌then◌else◌, nat_lt, nat_le, ◌==◌, List, [], ◌∷◌, length, take, drop, Result, Ok, Err, slice_index}
use Rattle.std.specs.Int.{Width, w16, w32, byte_len, from_be_bytes}
use Rattle.lex_semantics.specs.ByteSets.{within}
use Rattle.lex_semantics.specs.Spec.{Statement, Echo, Print, Begin, More, Less, Reject, End, Push, Pop, EndAction, Cut, Whole, Head, Trail}
use Rattle.lextab_packed.specs.Table.{ConditionOfTable, RuleOfTable, Row, Slot, Table}
use Rattle.lextab_packed.specs.Checks.{Sizes, none_at_0, some_rule_rejects, bases_of}
use Rattle.lextab_file.specs.File.{version_of}
use Rattle.lextab_file.specs.Seen.{Seen, unseen, seen_after, following}
use Rattle.lextab_file.specs.declared.error.ReadError.{ReadError}
use Rattle.lextab_file.specs.declared.error.ReadError.TheVariants.{BadMagic, BadVersion, Truncated, BadField}
use Rattle.lex_semantics.specs.Limits.{max_conditions, max_rules, max_states, max_classes, max_slots, max_literal_bytes, max_status, max_fixed_length, max_statements}

abbrev pub FieldReader : Type 0 → Type 0
FieldReader A = List ℕ → Result (A × List ℕ) ReadError

infixl 10 ◌>>=◌
abbrev pub ◌>>=◌ : {A B : Type 0} → Result A ReadError → (A → Result B ReadError) → Result B ReadError
(Ok x) >>= f = f x
(Err e) >>= f = Err e

-- the field that these bytes begin with has a value that it may not have
abbrev pub bad : List ℕ → ReadError
bad bytes = BadField (length bytes)

-- ---- ways to read

-- a value that passes the test, or else this fault
abbrev pub judged : {A : Type 0} → ReadError → (A → Bool) → FieldReader A → FieldReader A
judged fault test r bytes = r bytes >>= λ x. if test x.0 then Ok x else Err fault

-- a field that passes the test
abbrev pub only_if : {A : Type 0} → (A → Bool) → FieldReader A → FieldReader A
only_if test r bytes = judged (bad bytes) test r bytes

abbrev pub paired : {A B : Type 0} → FieldReader A → (A → FieldReader B) → FieldReader (A × B)
paired r s bytes = r bytes >>= λ x. s x.0 x.1 >>= λ y. Ok ((x.0, y.0), y.1)

abbrev pub seen_as : {A B : Type 0} → (A → B) → FieldReader A → FieldReader B
seen_as f r bytes = r bytes >>= λ x. Ok (f x.0, x.1)

-- so many, each at the state that those before it left
unfoldable pub many : {A S : Type 0} → (S → FieldReader A) → (S → A → S) → ℕ → S → FieldReader (List A)
many r next zero s bytes = Ok ([], bytes)
many r next (suc n) s bytes = r s bytes >>= λ x. many r next n (next s x.0) x.1 >>= λ xs. Ok (x.0 ∷ xs.0, xs.1)

-- ---- fields

abbrev pub read_byte : FieldReader ℕ
read_byte [] = Err Truncated
read_byte (b ∷ bytes) = Ok (b, bytes)

abbrev pub read_number : Width → FieldReader ℕ
read_number w bytes =
    if nat_lt (length bytes) (byte_len w) then Err Truncated
    else Ok (from_be_bytes w (take (byte_len w) bytes), drop (byte_len w) bytes)

abbrev pub read_bytes : ℕ → FieldReader (List ℕ)
read_bytes n bytes = if nat_lt (length bytes) n then Err Truncated else Ok (take n bytes, drop n bytes)

-- a number of four bytes within bounds
abbrev pub read_long : ℕ → ℕ → FieldReader ℕ
read_long least most = only_if (within least most) (read_number w32)

abbrev pub below : ℕ → ℕ → Bool
below limit n = nat_lt n limit

abbrev pub read_string : ℕ → ℕ → FieldReader (List ℕ)
read_string least most = seen_as (λ p. p.1) (paired (read_long least most) (λ n. read_bytes n))

-- a number of two bytes that is not 0
abbrev pub read_positive : FieldReader ℕ
read_positive = only_if (λ n. nat_lt 0 n) (read_number w16)

-- ---- the header

abbrev pub is_magic : List ℕ → Bool
is_magic xs =
    slice_index xs 0 == 76
    && (slice_index xs 1 == 69
    && (slice_index xs 2 == 88 && (slice_index xs 3 == 84 && (slice_index xs 4 == 65 && slice_index xs 5 == 66))))

abbrev pub sizes_from : ℕ × (ℕ × (ℕ × (ℕ × ℕ))) → Sizes
sizes_from p = record { conditions = p.0; rules = p.1.0; states = p.1.1.0; classes = p.1.1.1.0; slots = p.1.1.1.1 }

unfoldable pub read_sizes : FieldReader Sizes
read_sizes =
    seen_as sizes_from
    (paired (read_long 1 max_conditions)
    (λ c. paired (read_long 0 max_rules)
    (λ r. paired (read_long 1 max_states) (λ n. paired (read_long 1 max_classes) (λ k. read_long k max_slots)))))

-- ---- conditions

abbrev pub end_from : List ℕ × ℕ → EndAction
end_from p = record { print = p.0; status = p.1 }

unfoldable pub read_end : FieldReader EndAction
read_end = seen_as end_from (paired (read_string 0 max_literal_bytes) (λ p. only_if (below (max_status + 1)) read_byte))

abbrev pub condition_from : ℕ × (ℕ × EndAction) → ConditionOfTable
condition_from p = record { start = p.0; line_start = p.1.0; end = p.1.1 }

unfoldable pub read_condition : ℕ → FieldReader ConditionOfTable
read_condition states =
    seen_as condition_from
    (paired (only_if (below states) (read_number w32))
    (λ s. paired (only_if (below states) (read_number w32)) (λ l. read_end)))

-- ---- rules

abbrev pub whole_of : ℕ → Cut
whole_of n = Whole

-- the number of a cut with this tag, where this is the fault of a tag that is not known
abbrev pub cut_number : ReadError → ℕ → FieldReader Cut
cut_number fault k bytes =
    if k == 0 then seen_as whole_of (only_if (below 1) (read_number w32)) bytes
    else if k == 1 then seen_as Head (only_if (below (max_fixed_length + 1)) (read_number w32)) bytes
    else if k == 2 then seen_as Trail (only_if (below (max_fixed_length + 1)) (read_number w32)) bytes
    else Err fault

unfoldable pub read_cut : FieldReader Cut
read_cut bytes = read_byte bytes >>= λ k. cut_number (bad bytes) k.0 k.1

-- a statement with this tag may not stand there
abbrev pub bars : Seen → ℕ → Bool
bars s k =
    if k == 1 then s.printed
    else if k == 3 then s.less
    else if k == 4 then s.less || s.more
    else if k == 5 then (s.less || s.more) || nat_lt 1 s.left
    else if k == 6 then nat_lt 1 s.left
    else if k == 7 then not s.stack
    else if k == 8 then not s.stack
    else false

-- a literal; one that is longer than this room is told by this fault
abbrev pub read_literal : ℕ → ReadError → FieldReader (List ℕ)
read_literal room fault =
    seen_as (λ p. p.1) (paired (judged fault (λ n. nat_le n room) (read_long 1 max_literal_bytes)) (λ n. read_bytes n))

-- a statement with this tag, without it, where this is the fault of the tag
abbrev pub arguments : ℕ → Seen → ReadError → ℕ → FieldReader Statement
arguments conditions s fault k bytes =
    if k == 0 then Ok (Echo, bytes)
    else if k == 1 then seen_as Print (read_literal (max_literal_bytes - s.literal) fault) bytes
    else if k == 2 then seen_as Begin (only_if (below conditions) read_byte) bytes
    else if k == 3 then Ok (More, bytes)
    else if k == 4 then seen_as Less read_positive bytes
    else if k == 5 then Ok (Reject, bytes)
    else if k == 6 then seen_as End (only_if (below (max_status + 1)) read_byte) bytes
    else if k == 7 then seen_as Push (only_if (below conditions) read_byte) bytes
    else if k == 8 then Ok (Pop, bytes)
    else Err fault

unfoldable pub read_statement : ℕ → Seen → FieldReader Statement
read_statement conditions s bytes =
    read_byte bytes >>= λ k. if bars s k.0 then Err (bad bytes) else arguments conditions s (bad bytes) k.0 k.1

-- a count, and so many
abbrev pub read_statements : ℕ → Bool → FieldReader (List Statement)
read_statements conditions stack =
    seen_as (λ p. p.1)
    (paired (read_long 0 max_statements) (λ n. many (read_statement conditions) seen_after n (unseen stack n)))

abbrev pub rule_from : Cut × List Statement → RuleOfTable
rule_from p = record { cut = p.0; statements = p.1 }

unfoldable pub read_rule : ℕ → Bool → FieldReader RuleOfTable
read_rule conditions stack = seen_as rule_from (paired read_cut (λ c. read_statements conditions stack))

-- ---- classes

abbrev pub read_class : ℕ → ℕ → FieldReader ℕ
read_class classes i = only_if (below classes) read_byte

-- ---- states

abbrev pub above : ℕ → ℕ → ℕ
above low r = r + 1

abbrev pub between : ℕ → ℕ → ℕ → Bool
between low count r = nat_le low r && nat_lt r count

abbrev pub read_accepted : ℕ → ℕ → FieldReader ℕ
read_accepted count low = only_if (between low count) (read_number w32)

abbrev pub row_from : ℕ × (ℕ × List ℕ) → Row
row_from p = record { default_target = p.0; base = p.1.0; rules = p.1.1 }

abbrev pub few : Bool → ℕ → ℕ → Bool
few rejects s n = cond rejects true (nat_le n 1) && none_at_0 s n

unfoldable pub read_row : Sizes → Bool → ℕ → FieldReader Row
read_row z rejects s =
    seen_as row_from (paired (only_if (λ n. nat_lt n z.states && none_at_0 s n) (read_number w32)) (λ d.
    paired (only_if (λ n. nat_le (n + z.classes) z.slots && none_at_0 s n) (read_number w32)) (λ b.
    seen_as (λ p. p.1)
    (paired (only_if (few rejects s) (read_number w32)) (λ n. many (read_accepted z.rules) above n 0)))))

-- ---- slots

abbrev pub slot_from : ℕ × ℕ → Slot
slot_from p = record { check = p.0; next = p.1 }

abbrev pub good_check : Sizes → List ℕ → ℕ → ℕ → Bool
good_check z bases i check =
    cond (check == 0) true
    (nat_lt check z.states && (nat_le (slice_index bases check) i && nat_lt i (slice_index bases check + z.classes)))

unfoldable pub read_slot : Sizes → List ℕ → ℕ → FieldReader Slot
read_slot z bases i =
    seen_as slot_from
    (paired (only_if (good_check z bases i) (read_number w32))
    (λ check. only_if (λ n. nat_lt n z.states && none_at_0 check n) (read_number w32)))

-- ---- the whole

abbrev pub Body : Type 0
Body = List ConditionOfTable × (List RuleOfTable × (List ℕ × (List Row × List Slot)))

-- the parts after the sizes, by the version, where this is the fault of a version that the rules do not need
abbrev pub read_body : ℕ → ReadError → Sizes → FieldReader Body
read_body v fault z =
    paired (many (λ i. read_condition z.states) following z.conditions 0) (λ cs.
    paired (judged fault (λ rs. version_of rs == v) (many (λ i. read_rule z.conditions (v == 2)) following z.rules 0))
    (λ rs.
    paired (many (read_class z.classes) following 256 0) (λ ks.
    paired (many (read_row z (some_rule_rejects rs)) following z.states 0) (λ rows.
    many (read_slot z (bases_of rows)) following z.slots 0))))

-- the version, and what stands after it
abbrev pub read_versioned : FieldReader (ℕ × (Sizes × Body))
read_versioned bytes =
    paired (judged BadVersion (λ v. v == 1 || v == 2) (read_number w16))
    (λ v. paired read_sizes (λ z. read_body v (bad bytes) z)) bytes

abbrev pub table_from : List ℕ × (ℕ × (Sizes × Body)) → Table
table_from p =
    record {
      conditions = p.1.1.1.0;
      rules = p.1.1.1.1.0;
      classes = p.1.1.0.classes;
      class_of = p.1.1.1.1.1.0;
      rows = p.1.1.1.1.1.1.0;
      slots = p.1.1.1.1.1.1.1;
    }

unfoldable pub read_table : FieldReader Table
read_table = seen_as table_from (paired (judged BadMagic is_magic (read_bytes 6)) (λ m. read_versioned))
