-- The set of bytes that a value of the code stands for. (This project's.)
use Rattle.std.specs.Prelude.{ℕ, ◌==◌, Bool, not, if◌then◌else◌, slice_index}
use Rattle.lexlook_specs.specs.declared.picture.classes.Leading.{Leading}

abbrev pub set_of : Leading → ℕ → Bool
set_of l b = if l.others then not (slice_index l.row.now b == l.target) else slice_index l.row.now b == l.target
