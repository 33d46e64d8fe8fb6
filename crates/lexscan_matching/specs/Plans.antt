-- What a match does where its rule has trailing context, does yymore after simple statements, or rejects it after them.
use Rattle.std.specs.Prelude.{◌≡◌, ℕ, ◌+◌, ◌-◌, ◌≤◌, ◌<◌, Bool, true, false, List, [], ◌∷◌, ◌++◌, length, take, map, filter_map, Option, Some, IfSome, ◌⊎◌, ⊤}
use Rattle.lex_semantics.specs.Spec as S
use Rattle.lex_semantics.specs.Candidates.{Candidate}
use Rattle.lex_semantics.specs.Machine.{Machine}
use Rattle.lex_semantics.specs.PlainMachine.{match_of}
use Rattle.lex_semantics.specs.Trail.{falling}
use Rattle.lex_machine.specs.Glances.{are_simple}
use Rattle.lex_machine.specs.Views.{statement_of}
use Rattle.lexscan_window.specs.declared.state.TextPlace.{TextPlace}
use Rattle.lexscan_matching.specs.declared.pick.Pick.{Pick}
use Rattle.lexscan_matching.specs.declared.plan.Close.{Close}
use Rattle.lexscan_matching.specs.declared.plan.SimplePart.{SimplePart}
use Rattle.lexscan_matching.specs.declared.plan.FirstTwo.{FirstTwo}
use Rattle.lexscan_matching.specs.declared.plan.Plan.{Plan}
use Rattle.lexscan_matching.specs.Glanced.{all_said, all_begun}
use Rattle.lexscan_matching.specs.Picks.{IsFirst, HasStatements, path_of, state_at}

-- the statement that some end with (flex, Actions: yymore, REJECT)
abbrev pub closing : Close → List S.Statement
closing Close.Plain = []
closing Close.More = S.More ∷ []
closing Close.Reject = S.Reject ∷ []

-- Statements that end with this one end so.
abbrev pub IsClose : Close → S.Statement → Type 0
IsClose Close.Plain st = ⊤
IsClose Close.More st = st ≡ S.More
IsClose Close.Reject st = st ≡ S.Reject

-- These statements are simple ones, and then the one that they end with.
abbrev pub IsSimplePart : List S.Statement → SimplePart → Type 0
IsSimplePart ss part =
    (are_simple (map statement_of part.statements.now) ≡ true)
    × (ss ≡ map statement_of part.statements.now ++ closing part.close)

-- The match keeps some of so many bytes, by a rule of the machine, which has these statements.
abbrev pub IsKnown : Machine → ℕ → Pick → Type 0
IsKnown M len pick = (pick.rule < M.count) × HasStatements M pick × (1 ≤ pick.keep) × (pick.keep ≤ len)

-- The first match of so many bytes that the rules of a state give, and the one after it, if there is one.
pub record AreFirstTwo (M : Machine) (s len : ℕ) (two : FirstTwo) : Type 0 where
  pub others : List Candidate
  pub first : filter_map (match_of M len) (M.accepts s)
      ≡ record { len = len; rule = two.first.rule; keep = two.first.keep } ∷ others
  pub second : IsFirst others two.second
  pub known : IsKnown M len two.first
  pub second_known : IfSome two.second (IsKnown M len)

-- The states after so many bytes from a place on and after one less, if there is one less, and if that state is known.
pub record AreStates (M : Machine) (p : TextPlace) (w : List ℕ) (len state : ℕ) (before : Option ℕ) : Type 0 where
  pub some : 1 ≤ len
  pub inside : p.at + len ≤ length w
  pub state_is : state ≡ state_at M p w len
  pub before_is : IfSome before (λ b. (2 ≤ len) × (b ≡ state_at M p w (len - 1)))

-- whether yymore is done at the end
abbrev pub closing_more : Bool → List S.Statement
closing_more true = S.More ∷ []
closing_more false = []

-- This match keeps so many bytes, and its rule has simple statements, and then these.
pub record DoesSimply (M : Machine) (m : Candidate) (keep : ℕ) (ss end : List S.Statement) : Type 0 where
  pub known : m.rule < M.count
  pub keep_is : m.keep ≡ keep
  pub simple : are_simple ss ≡ true
  pub does : M.statements m.rule ≡ ss ++ end

-- No match is rejected, or one is.
abbrev pub Rejected : Machine → List Candidate → Plan → Type 0
Rejected M gone plan =
    ((gone ≡ []) × (map statement_of plan.rejected.now ≡ []))
    ⊎ ((m : Candidate) × (gone ≡ m ∷ [])
    × DoesSimply M m plan.rejected_keep (map statement_of plan.rejected.now) (S.Reject ∷ []))

-- What is done of the matches of so many bytes from a place on, the longest first: at most one is rejected, and the one
-- after it is carried out. Each writes the text or a literal, or sets the condition.
pub record IsPlan (M : Machine) (p : TextPlace) (w : List ℕ) (count : ℕ) (plan : Plan) : Type 0 where
  pub gone : List Candidate
  pub taken : Candidate
  pub others : List Candidate
  pub in_order : falling M 0 (path_of M p w count) ≡ gone ++ taken ∷ others
  pub rejected : Rejected M gone plan
  pub does : DoesSimply M taken plan.keep (map statement_of plan.said.now) (closing_more plan.more)
  pub some : 1 ≤ plan.keep
  pub short : plan.keep ≤ count
  pub short_rejected : plan.rejected_keep ≤ count

-- The plan is one of each text in which the walk leads to these states.
abbrev pub PlansAll : Machine → ℕ → ℕ → Option ℕ → Plan → Type 0
PlansAll M len state before plan =
    (p : TextPlace) (w : List ℕ) → AreStates M p w len state before → IsPlan M p w len plan

-- the same for a match after these, of which the first are of the same length
abbrev pub FollowsAll : Machine → ℕ → ℕ → Option ℕ → Option Pick → Pick → Type 0
FollowsAll M len state before second pick =
    (p : TextPlace) (w : List ℕ) (others : List Candidate) → AreStates M p w len state before
    → IsFirst others second → IsFirst (others ++ falling M 0 (path_of M p w (len - 1))) (Some pick)

-- what is written of a text by the statements of a plan, and the condition that they set
abbrev pub said_by_plan : Plan → ℕ → List ℕ → List ℕ
said_by_plan plan at text =
    all_said (map statement_of plan.rejected.now) (take (at + plan.rejected_keep) text)
    ++ all_said (map statement_of plan.said.now) (take (at + plan.keep) text)

abbrev pub begun_by_plan : Plan → ℕ → ℕ
begun_by_plan plan old =
    all_begun (map statement_of plan.said.now) (all_begun (map statement_of plan.rejected.now) old)
