-- The first of the matches at a place.
use Rattle.std.specs.Prelude.{◌≡◌, ℕ, ◌-◌, ◌+◌, ◌≤◌, ◌<◌, true, List, [], ◌∷◌, take, drop, length, map, Option, Some, None, IfSome}
use Rattle.lex_semantics.specs.Candidates.{Candidate}
use Rattle.lex_semantics.specs.Machine.{Machine, state_after}
use Rattle.lex_semantics.specs.Trail.{trail_from, falling}
use Rattle.lex_machine.specs.Views.{statement_of}
use Rattle.lexscan_window.specs.declared.state.TextPlace.{TextPlace}
use Rattle.lexscan_window.specs.declared.state.Reading.{Reading}
use Rattle.lexscan_window.specs.declared.matched.MatchedRule.{MatchedRule}
use Rattle.lexscan_window.specs.declared.matched.MatchedRule.TheVariants.{Numbered, Default}
use Rattle.lexscan_matching.specs.declared.pick.Pick.{Pick}
use Rattle.lexscan_matching.specs.declared.pick.LookAhead.{LookAhead}
use Rattle.lexscan_matching.specs.Looks.{SoFar, Looked, LookedAtEnd}

-- the states after each of the first bytes from a place on
abbrev pub path_of : Machine → TextPlace → List ℕ → ℕ → List ℕ
path_of M p w reach = trail_from M (M.start p.condition p.line_start) (take reach (drop p.at w))

abbrev pub IsFirst : List Candidate → Option Pick → Type 0
IsFirst ms None = ms ≡ []
IsFirst ms (Some p) =
    (len : ℕ) × (rest : List Candidate) × (ms ≡ record { len = len; rule = p.rule; keep = p.keep } ∷ rest)

-- the statements are those of the rule
abbrev pub HasStatements : Machine → Pick → Type 0
HasStatements M p = map statement_of p.statements.now ≡ M.statements p.rule

-- The longest match of the first bytes from a place on, or none.
pub record IsLongestPick (M : Machine) (p : TextPlace) (w : List ℕ) (reach : ℕ) (pick : Option Pick) : Type 0 where
  pub first : IsFirst (falling M 0 (path_of M p w reach)) pick
  pub known : IfSome pick (λ k. k.rule < M.count)
  pub statements : IfSome pick (HasStatements M)
  pub short : IfSome pick (λ k. k.keep ≤ reach)

-- the state after the first bytes from a place on
abbrev pub state_at : Machine → TextPlace → List ℕ → ℕ → ℕ
state_at M p w n = state_after M p.condition p.line_start (take n (drop p.at w))

-- These are the last two states of those after the bytes that were asked for.
pub record HasLastStates (M : Machine) (states : ℕ) (p : TextPlace) (w : List ℕ) (ahead : LookAhead) : Type 0 where
  pub some : 1 ≤ ahead.reach
  pub inside : p.at + ahead.reach ≤ length w
  pub state_is : ahead.state ≡ state_at M p w ahead.reach
  pub before_is : ahead.before ≡ state_at M p w (ahead.reach - 1)
  pub known : ahead.state < states
  pub known_before : ahead.before < states

-- A match has asked for all the bytes held, and for one more: the last two states so far. It may have asked for none
-- yet.
pub record AsksPastHeld (M : Machine) (states : ℕ) (p : TextPlace) (r : Reading) (ahead : LookAhead) : Type 0 where
  pub all : p.at + ahead.reach ≡ length r.window.bytes
  pub so_far : SoFar M p (drop p.at r.window.bytes) ahead.reach ahead.state (path_of M p r.window.bytes ahead.reach)
  pub goes_on : 1 ≤ ahead.reach → M.goes_on ahead.state ≡ true
  pub before_is : 1 ≤ ahead.reach → ahead.before ≡ state_at M p r.window.bytes (ahead.reach - 1)
  pub known : ahead.state < states
  pub known_before : ahead.before < states

abbrev pub LookedSome : Machine → TextPlace → Reading → Reading → Option LookAhead → Type 0
LookedSome M p old new None = LookedAtEnd p old new
LookedSome M p old new (Some ahead) = Looked M p old new (path_of M p new.window.bytes ahead.reach)

-- the rule of a match, or of the default match where there is none
abbrev pub rule_in : Option Pick → MatchedRule
rule_in None = Default
rule_in (Some p) = Numbered p.rule
