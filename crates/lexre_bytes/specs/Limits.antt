-- The limits on numbers in patterns and actions. (This project's.)
use Rattle.std.specs.Prelude.{ℕ}

-- how often an item may be repeated by an interval
abbrev pub max_times : ℕ
max_times = 255

-- a number in digits above this one counts as this one, which passes each limit on a number
abbrev pub number_cap : ℕ
number_cap = 65536
