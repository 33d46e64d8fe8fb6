-- In which order the bytes are tried of which an input is made, so that it can be read. (This project's.)
use Rattle.std.specs.Prelude.{ℕ, ◌+◌, ◌-◌, nat_lt, if◌then◌else◌}

-- the byte that comes as this one, from 0 on: small letters, the others of ASCII that are printed, tab to 31, 127 to
-- 255, and 0 to 8
unfoldable pub byte_at : ℕ → ℕ
byte_at r =
    if nat_lt r 26 then r + 97
    else if nat_lt r 91 then r + 6
    else if nat_lt r 95 then r + 32
    else if nat_lt r 118 then r - 86
    else if nat_lt r 247 then r + 9
    else r - 247
