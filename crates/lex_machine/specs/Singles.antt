-- Matches of one byte each, which a scan may pass many at a time.
use Rattle.std.specs.Prelude.{◌≡◌, ℕ, ◌≤◌, ◌<◌, false, List, [], ◌∷◌, length, get_or, ◌⊎◌, nat_eq}
use Rattle.lex_semantics.specs.Spec as S
use Rattle.lex_semantics.specs.Machine.{Machine}
use Rattle.lex_machine.specs.Glances.{FirstDoes}

-- A byte is dropped: no longer text is matched from this state, and the first rule that takes the byte does nothing
-- (flex, Actions: an empty action discards the token).
abbrev pub IsDropped : Machine → ℕ → ℕ → Type 0
IsDropped M first byte = (M.goes_on (M.next first byte) ≡ false) × FirstDoes M (M.next first byte) []

-- A byte is copied: no longer text is matched from this state, and the first rule that takes the byte is ECHO alone, or
-- no rule takes it (POSIX, lex, Rules: unmatched input is copied).
abbrev pub IsCopied : Machine → ℕ → ℕ → Type 0
IsCopied M first byte =
    (M.goes_on (M.next first byte) ≡ false)
    × (FirstDoes M (M.next first byte) (S.Echo ∷ []) ⊎ (M.accepts (M.next first byte) ≡ []))

-- So many of the first bytes are of this kind, and after each of them a match of the condition starts in the same
-- state.
abbrev pub Singles : (Machine → ℕ → ℕ → Type 0) → Machine → ℕ → ℕ → List ℕ → ℕ → Type 0
Singles Is M condition first bytes count =
    (count ≤ length bytes)
    × ((i : ℕ) → i < count
    → Is M first (get_or bytes i 0) × (M.start condition (nat_eq (get_or bytes i 0) 10) ≡ first))
