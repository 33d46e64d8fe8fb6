-- A format that was read in part.
use Rattle.std.specs.Prelude.{ℕ, Bool, List, ◌++◌, Option, Some, None}
use Rattle.lexspec_actions.specs.ActionSteps.{parts_in}

-- what was read before: the front, where the `%s` has come, and bytes
abbrev pub joined : Option (List ℕ) → List ℕ → Option (List ℕ × Option (List ℕ)) → Option (List ℕ × Option (List ℕ))
joined front bytes None = None
joined None bytes (Some (more, back)) = Some (bytes ++ more, back)
joined (Some front) bytes (Some (more, None)) = Some (front, Some (bytes ++ more))
joined (Some front) bytes (Some (more, Some back)) = None

-- the front, where the `%s` has come, the bytes, and whether a `%` came last
pub data State : Type 0 where
  state : Option (List ℕ) → List ℕ → Bool → State

-- the parts of the whole, if this text follows
abbrev pub read_on : State → List ℕ → Option (List ℕ × Option (List ℕ))
read_on (state front bytes percent) text = joined front bytes (parts_in percent text)
