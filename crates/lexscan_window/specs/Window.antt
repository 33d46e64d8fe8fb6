-- The bytes that a window holds.
use Rattle.std.specs.Prelude.{List, ℕ, ◌-◌, Bool, length, drop}

-- a list of bytes, whether there is room for one more, what is shown in the room, and what is still kept of the bytes
-- before
pub record Held : Type 0 where
  pub bytes : List ℕ
  pub room : Bool
  pub ahead : List ℕ
  pub behind : List ℕ

-- the last so many of some bytes, or all where there are fewer
abbrev pub last_of : ℕ → List ℕ → List ℕ
last_of n l = drop (length l - n) l

-- the states after each byte of a match, and whether there is room for one more
pub record StatesKept : Type 0 where
  pub states : List ℕ
  pub room : Bool
