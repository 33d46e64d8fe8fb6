-- Which refusal it is, and how bytes are refused.
use Rattle.std.specs.Prelude.{ℕ, ◌-◌, Bool, true, false, List, [], ◌∷◌, length, Option, Some, None, Result, Ok, Err}
use Rattle.lextab_packed.specs.Table.{Table}
use Rattle.lextab_file.specs.Reading.{read_table}
use Rattle.lextab_file.specs.declared.error.ReadError.{ReadError}
use Rattle.lextab_file.specs.declared.error.ReadError.TheVariants as reads
use Rattle.lextab_file.specs.declared.error.TableError.{TableError}
use Rattle.lextab_file.specs.declared.error.TableError.TheVariants as errors

abbrev pub memory_refused : TableError
memory_refused = errors.OutOfMemory

abbrev pub is_out_of_memory : TableError → Bool
is_out_of_memory errors.OutOfMemory = true
is_out_of_memory _ = false

abbrev pub is_trailing : TableError → Bool
is_trailing errors.TrailingBytes = true
is_trailing _ = false

abbrev pub is_truncated : TableError → Bool
is_truncated errors.Truncated = true
is_truncated _ = false

-- the fault of a file of this length, where a field that is not as it must be is told by its offset from 0
abbrev pub in_file : ℕ → ReadError → TableError
in_file len reads.BadMagic = errors.BadMagic
in_file len reads.BadVersion = errors.BadVersion
in_file len reads.Truncated = errors.Truncated
in_file len (reads.BadField left) = errors.BadField (len - left)
in_file len reads.OutOfMemory = errors.OutOfMemory

-- bytes that stand after a whole table
abbrev pub left_over : List ℕ → Option TableError
left_over [] = None
left_over (b ∷ rest) = Some errors.TrailingBytes

abbrev pub refusal_in : ℕ → Result (Table × List ℕ) ReadError → Option TableError
refusal_in len (Ok x) = left_over x.1
refusal_in len (Err fault) = Some (in_file len fault)

-- how bytes are refused: for the first field from the left that is not as it must be, or for what stands after a whole
-- table
abbrev pub read_refusal : List ℕ → Option TableError
read_refusal bytes = refusal_in (length bytes) (read_table bytes)
