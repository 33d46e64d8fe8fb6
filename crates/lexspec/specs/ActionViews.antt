-- What the reader of an action's text says of a byte.
use Rattle.std.specs.Prelude.{◌≡◌, ℕ, ◌≤◌, List, [], ◌∷◌, Some, None}
use Rattle.lexspec_actions.specs.ByteSteps as C
use Rattle.lexspec.specs.ActionSteps as I
use Rattle.lexspec.specs.ActionSteps.{action_in, with_byte}
use Rattle.lexspec.specs.declared.action_text.ActionPlace.{ActionPlace}
use Rattle.lexspec.specs.declared.action_text.ActionPlace.TheVariants as P
use Rattle.lexspec.specs.declared.action_text.ActionStep.{ActionStep}
use Rattle.lexspec.specs.declared.action_text.ActionStep.TheVariants.{Goes, Ends, Refused}

abbrev pub place_of : ActionPlace → I.ActionPlace
place_of P.Outside = I.code C.outside
place_of P.Slash = I.code C.slash
place_of P.Block = I.code C.block
place_of P.Star = I.code C.star
place_of P.Line = I.code C.line
place_of P.String = I.string
place_of P.Escaped = I.escaped

-- what the byte c does at the place p with n braces open, whatever follows it
abbrev pub IsStep : ActionStep → I.ActionPlace → ℕ → ℕ → List ℕ → Type 0
IsStep (Goes q) p n c t = action_in p n (c ∷ t) ≡ with_byte c (action_in (place_of q.place) q.depth t)
IsStep Ends p n c t = action_in p n (c ∷ t) ≡ Some ([], t)
IsStep Refused p n c t = action_in p n (c ∷ t) ≡ None

-- at most n braces are open after the step
abbrev pub MostOpen : ℕ → ActionStep → Type 0
MostOpen n (Goes q) = q.depth ≤ n
MostOpen n Ends = Unit {0}
MostOpen n Refused = Unit {0}
