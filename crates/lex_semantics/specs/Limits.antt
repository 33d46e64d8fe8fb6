-- The limits that more than one crate keeps to. (This project's.)
use Rattle.std.specs.Prelude.{ℕ}

-- how many conditions the stack may hold
abbrev pub max_stack : ℕ
max_stack = 255

-- how long the words of a side may be by which a match is cut
abbrev pub max_fixed_length : ℕ
max_fixed_length = 65535

-- how many bytes the literals of an action may have together, and the end of a condition
abbrev pub max_literal_bytes : ℕ
max_literal_bytes = 4096

-- how many bytes yyless may keep
abbrev pub max_kept : ℕ
max_kept = 65535

-- the greatest status of a scan
abbrev pub max_status : ℕ
max_status = 63

-- how many conditions there may be, INITIAL among them
abbrev pub max_conditions : ℕ
max_conditions = 255

-- how many rules there may be; `<<EOF>>` rules do not count
abbrev pub max_rules : ℕ
max_rules = 4096

-- how many statements an action may have
abbrev pub max_statements : ℕ
max_statements = 256

-- how many bytes a file may have
abbrev pub max_file_bytes : ℕ
max_file_bytes = 1048576

-- how many states an automaton may have
abbrev pub max_states : ℕ
max_states = 8192

-- how many positions the patterns of a specification may have together
abbrev pub max_positions : ℕ
max_positions = 16384

-- how many classes of bytes a table may have
abbrev pub max_classes : ℕ
max_classes = 256

-- how many slots a table may have
abbrev pub max_slots : ℕ
max_slots = 2097152
