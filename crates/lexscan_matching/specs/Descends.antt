-- How the matches at a place are tried, one after another.
use Rattle.std.specs.Prelude.{◌≡◌, ℕ, ◌≤◌, ◌<◌, List, [], ◌∷◌, ◌++◌, length, take, drop, Option, Some, None, ⊤}
use Rattle.lex_semantics.specs.Text.{BeginsWith}
use Rattle.lex_semantics.specs.Candidates.{Candidate}
use Rattle.lex_semantics.specs.Acting as Scan
use Rattle.lex_semantics.specs.Acting.{Ending, Status, StackFault}
use Rattle.lex_semantics.specs.ActionResults.{settle, perform_results}
use Rattle.lex_semantics.specs.Machine.{Machine, rules_of_machine}
use Rattle.lex_semantics.specs.Plain.{default_match}
use Rattle.lex_semantics.specs.Trail.{falling}
use Rattle.lexscan_window.specs.declared.act.ActionState.{ActionState}
use Rattle.lexscan_window.specs.declared.act.Finish.{Finish}
use Rattle.lexscan_window.specs.declared.act.ActionFlow.{ActionFlow}
use Rattle.lexscan_window.specs.declared.state.State.{State}
use Rattle.lexscan_window.specs.declared.matched.MatchedRule.{MatchedRule}
use Rattle.lexscan_window.specs.declared.matched.MatchedRule.TheVariants.{Numbered, Default}
use Rattle.lexscan_window.specs.Acts.{acting_of, after_step, finish_of}

-- the condition of the next match, and the stack of conditions
pub record Conditions : Type 0 where
  pub next : ℕ
  pub stack : List ℕ

abbrev pub conditions_of : ActionState → Conditions
conditions_of a = record { next = a.condition; stack = a.stack }

abbrev pub conditions_in : Scan.Acting → Conditions
conditions_in a = record { next = a.condition; stack = a.stack }

-- those with which a turn begins
abbrev pub conditions_at : State → Conditions
conditions_at s = record { next = s.place.condition; stack = s.acting.stack }

-- what the actions of these matches make of the bytes w, where a match starts at a place in them
abbrev pub outcome : Machine → List ℕ → ℕ → List Candidate → List ℕ → Conditions → Option Scan.Acting
outcome M w at ms before c = perform_results (rules_of_machine M) (take at w) (drop at w) ms before c.next c.stack

-- all the matches that these states tell
abbrev pub matches_of : Machine → List ℕ → ℕ → List ℕ → List Candidate
matches_of M w at path = falling M 0 path ++ default_match M.count (drop at w)

-- All matches up to some were rejected: those are gone, and these are left.
pub record Passed {K : Type 0} (M : Machine) (wrote : K → List ℕ → K → Type 0) (s t : K) (w : List ℕ) (at : ℕ)
    (all left : List Candidate) (old new : Conditions) : Type 0 where
  pub out : List ℕ
  pub sink : wrote s out t
  pub gone : List Candidate
  pub in_order : all ≡ gone ++ left
  pub acts : (before : List ℕ) (rest : List Candidate)
      → outcome M w at (gone ++ rest) before old ≡ outcome M w at rest (before ++ out) new

-- These matches were tried, and this is what follows.
pub record Tried {K : Type 0} (M : Machine) (wrote : K → List ℕ → K → Type 0) (s t : K) (w : List ℕ) (at : ℕ)
    (all : List Candidate) (old : Conditions) (new : ActionState) (step : ActionFlow) : Type 0 where
  pub out : List ℕ
  pub sink : wrote s out t
  pub acts : (before : List ℕ) (rest : List Candidate) →
      outcome M w at (all ++ rest) before old ≡ settle (after_step step [] (acting_of w new (before ++ out)))
      (λ a. outcome M w at rest a.written (conditions_in a))

-- One of these matches was cut short: what was written is a front of what they all make of it.
pub record CutOff {K : Type 0} (M : Machine) (wrote : K → List ℕ → K → Type 0) (s t : K) (w : List ℕ) (at : ℕ)
    (all : List Candidate) (old : Conditions) : Type 0 where
  pub out : List ℕ
  pub sink : wrote s out t
  pub front : (before : List ℕ) (rest : List Candidate) (o : Scan.Acting)
      → outcome M w at (all ++ rest) before old ≡ Some o → BeginsWith o.written (before ++ out)

-- The same, where no others follow.
pub record CutAll {K : Type 0} (M : Machine) (wrote : K → List ℕ → K → Type 0) (s t : K) (w : List ℕ) (at : ℕ)
    (all : List Candidate) (old : Conditions) : Type 0 where
  pub out : List ℕ
  pub sink : wrote s out t
  pub front : (before : List ℕ) (o : Scan.Acting) → outcome M w at all before old ≡ Some o
      → BeginsWith o.written (before ++ out)

abbrev pub ending_of : Option ℕ → Option Ending
ending_of None = None
ending_of (Some s) = Some (Status s)

abbrev pub finished_of : Option Finish → Option Ending
finished_of None = None
finished_of (Some f) = Some (finish_of f)

-- One of the matches was not rejected.
pub record Performed {K : Type 0} (M : Machine) (wrote : K → List ℕ → K → Type 0) (s t : K) (w : List ℕ) (at : ℕ)
    (all : List Candidate) (old : Conditions) (new : ActionState) (ended : Option Ending) : Type 0 where
  pub out : List ℕ
  pub sink : wrote s out t
  pub acts : (before : List ℕ)
      → outcome M w at all before old ≡ Some (record (acting_of w new (before ++ out)) { ended = ended })

-- One of them was not rejected, and the stack of conditions was at fault in it.
pub record Faulted {K : Type 0} (M : Machine) (wrote : K → List ℕ → K → Type 0) (s t : K) (w : List ℕ) (at : ℕ)
    (all : List Candidate) (old : Conditions) : Type 0 where
  pub acting : ActionState
  pub performed : Performed M wrote s t w at all old acting (Some StackFault)
  pub inside : acting.end ≤ length w

-- The rule is told by its number, which is below the count of rules, or as the default rule.
abbrev pub IsRule : ℕ → Option MatchedRule → ℕ → Type 0
IsRule count None i = ⊥
IsRule count (Some (Numbered n)) i = (n ≡ i) × (i < count)
IsRule count (Some Default) i = i ≡ count

-- One of these matches was carried out, those before it were rejected, and this is its rule.
pub record Takes (M : Machine) (w : List ℕ) (at : ℕ) (all : List Candidate) (old : Conditions)
    (rule : Option MatchedRule) : Type 0 where
  pub passed : List Candidate
  pub taken : Candidate
  pub left : List Candidate
  pub in_order : all ≡ passed ++ taken ∷ left
  pub rule_is : IsRule M.count rule taken.rule
  pub rejected : (before : List ℕ) → outcome M w at passed before old ≡ None
  pub carried : (before : List ℕ) → (o : Scan.Acting)
      × ((rest : List Candidate) → outcome M w at (passed ++ taken ∷ rest) before old ≡ Some o)

-- unless all were rejected
abbrev pub TakesUnlessAgain : Machine → List ℕ → ℕ → List Candidate → Conditions → Option MatchedRule → ActionFlow
    → Type 0
TakesUnlessAgain M w at all old rule ActionFlow.Again = ⊤
TakesUnlessAgain M w at all old rule other = Takes M w at all old rule
