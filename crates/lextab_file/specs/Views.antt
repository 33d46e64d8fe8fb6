-- What the reader's values stand for, and what it gives.
use Rattle.std.specs.Prelude.{◌≡◌, Bool, true, false, Result, Ok, Err}
use Rattle.lextab_packed.specs.Checks.{Sizes}
use Rattle.lextab_file.specs.Seen.{Seen}
use Rattle.lextab_file.specs.declared.reading.actions.Before.{Before}
use Rattle.lextab_file.specs.declared.reading.header.Counts.{Counts}
use Rattle.lextab_file.specs.declared.error.ReadError.{ReadError}
use Rattle.lextab_file.specs.declared.error.ReadError.TheVariants as errors

abbrev pub seen_of : Before → Seen
seen_of b =
    record { literal = b.literal; printed = b.printed; more = b.more; less = b.less; left = b.left; stack = b.stack }

abbrev pub sizes_in : Counts → Sizes
sizes_in c =
    record { conditions = c.conditions; rules = c.rules; states = c.states; classes = c.classes; slots = c.slots }

abbrev pub is_memory : ReadError → Bool
is_memory errors.OutOfMemory = true
is_memory _ = false

-- the fault is the one that reading finds, unless memory ran out
abbrev pub Fails : {Y : Type 0} → ReadError → Result Y ReadError → Type 0
Fails e read = is_memory e ≡ false → read ≡ Err e

-- what was returned, seen by view, is what reading gives, unless memory ran out
abbrev pub Gives : {X Y : Type 0} → (X → Y) → Result X ReadError → Result Y ReadError → Type 0
Gives view (Ok x) read = read ≡ Ok (view x)
Gives view (Err e) read = Fails e read
