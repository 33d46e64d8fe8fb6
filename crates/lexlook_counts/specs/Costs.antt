-- What the turns of a scan look at behind the texts that they tell. (flex, Performance Considerations: backing up;
-- POSIX, lex, Rules in lex: the longest match; the words are this project's.)
use Rattle.std.specs.Prelude.{◌≡◌, ℕ, ◌+◌, ◌-◌, ◌<◌, ◌↔◌, Bool, List, [], ◌∷◌, length, map, ⊤}
use Rattle.lex_semantics.specs.Demand.{AsksAt, Consistent}
use Rattle.lex_semantics.specs.Rules.{Rules}
use Rattle.lex_semantics.specs.Run.{Place}
use Rattle.lexscan.specs.Pulls.{whole_token}
use Rattle.lexscan.specs.declared.pull.PulledToken.{PulledToken}
use Rattle.lexscan.specs.declared.token.Token.{Token}

-- a turn: its token, and how many bytes it looks at behind the text
pub record TurnCost : Type 0 where
  pub token : Token
  pub beyond : ℕ

abbrev pub cost_by : PulledToken → ℕ → TurnCost
cost_by t beyond = record { token = whole_token t; beyond = beyond }

abbrev pub tokens_in : List TurnCost → List Token
tokens_in costs = map (λ c. c.token) costs

-- where a turn begins, and in which condition
abbrev pub begins_at : ℕ → ℕ → Place
begins_at at condition = record { start = at; at = at; condition = condition; stack = [] }

-- the match at a place asks for just the first r bytes there
abbrev pub LooksAt : Rules → List ℕ → Place → ℕ → Type 0
LooksAt R x p r = (i : ℕ) → (i < r) ↔ ((p.at + i < length x) × AsksAt R x p i)

-- A turn that begins here looks at the bytes that its match asks for. Of these it tells how many lie behind its text.
pub record IsCost (R : Rules) (x : List ℕ) (at : ℕ) (c : TurnCost) : Type 0 where
  pub looked : ℕ
  pub reach : LooksAt R x (begins_at at c.token.condition) looked
  pub beyond_is : c.beyond ≡ looked - (c.token.end - at)

-- Turns of an input: the first begins here, and each later one where the text of the one before ended.
abbrev pub AreCosts : Rules → List ℕ → ℕ → List TurnCost → Type 0
AreCosts R x at [] = ⊤
AreCosts R x at (c ∷ cs) = IsCost R x at c × AreCosts R x c.token.end cs

-- where the next one begins
abbrev pub end_of : ℕ → List TurnCost → ℕ
end_of at [] = at
end_of at (c ∷ cs) = end_of c.token.end cs

-- Over every input that goes on so, these are the first turns.
abbrev pub CostsSo : Rules → List ℕ → Bool → List TurnCost → Type 0
CostsSo R given at_end costs = (x : List ℕ) → Consistent given at_end x → AreCosts R x 0 costs
