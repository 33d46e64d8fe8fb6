-- States that few bytes lead away from. (This project's.)
use Rattle.std.specs.Prelude.{◌≡◌, ◌≢◌, ℕ, ◌+◌, ◌<◌, ◌≤◌, ◌==◌, ◌||◌, Bool, List, length, slice_index}
use Rattle.lextab_packed.specs.declared.leaps.Leavers.{Leavers}

-- From one byte up to another each leads from the state whose row is at this place to itself.
pub record StaysTo (rows : List ℕ) (place from end : ℕ) : Type 0 where
  pub order : from ≤ end
  pub inside : end ≤ 256
  pub stays : (b : ℕ) → from ≤ b → b < end → slice_index rows (place + b) ≡ place

-- a byte is none of the three
abbrev pub IsOther : Leavers → ℕ → Type 0
IsOther l byte = (byte ≢ l.a) × (byte ≢ l.b) × (byte ≢ l.c)

-- whether a byte is one of the three
abbrev pub is_leaver : Leavers → ℕ → Bool
is_leaver l byte = (byte == l.a) || (byte == l.b) || (byte == l.c)

-- each byte but the three leads from the state whose row is at this place to itself
abbrev pub OthersStay : List ℕ → ℕ → Leavers → Type 0
OthersStay rows place l = (b : ℕ) → b < 256 → IsOther l b → slice_index rows (place + b) ≡ place

-- The bytes from one place to another are none of the three.
pub record AllOthers (l : Leavers) (bytes : List ℕ) (start end : ℕ) : Type 0 where
  pub order : start ≤ end
  pub inside : end ≤ length bytes
  pub others : (i : ℕ) → start ≤ i → i < end → IsOther l (slice_index bytes i)
