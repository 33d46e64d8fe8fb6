-- How patterns are read where an option may ask for both cases. (flex, Scanner Options: case-insensitive.)
use Rattle.std.specs.Prelude.{Bool, ◌||◌}
use Rattle.lexre.specs.declared.options.ReadOptions.{ReadOptions}

-- the same way of reading, and letters stand for both cases if it is asked for
abbrev pub with_fold : ReadOptions → Bool → ReadOptions
with_fold how asked = record { fold = how.fold || asked; posix = how.posix }
