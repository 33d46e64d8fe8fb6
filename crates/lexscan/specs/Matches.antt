-- What a turn tells of its match. (POSIX, lex, Actions in lex: the longest match, then the earliest rule, REJECT goes
-- on to the next.)
use Rattle.std.specs.Prelude.{◌≡◌, ℕ, ◌+◌, ◌-◌, ◌<◌, ◌≤◌, Bool, List, [], ◌∷◌, ◌++◌, length, drop, Option, Some, None, if◌then◌else◌}
use Rattle.lex_semantics.specs.Text.{part, at_line_start}
use Rattle.lex_semantics.specs.Rules.{Rules}
use Rattle.lex_semantics.specs.Candidates.{Candidate, Candidates}
use Rattle.lex_semantics.specs.Acting.{Acting, perform}
use Rattle.lex_semantics.specs.Run.{Place}
use Rattle.lex_semantics.specs.Demand.{Consistent}
use Rattle.lexscan_window.specs.declared.matched.Match.{Match}
use Rattle.lexscan_window.specs.declared.matched.MatchedRule.{MatchedRule}
use Rattle.lexscan_window.specs.declared.state.State.{State}
use Rattle.lexscan_matching.specs.Descends.{IsRule}
use Rattle.lexscan_window.specs.Places.{kept_before}
use Rattle.lexscan_window.specs.Window.{last_of}

-- The match m is carried out at a place, with this outcome: those before it go on to the next one, and it does not.
pub record CarriesOut (R : Rules) (x : List ℕ) (p : Place) (m : Candidate) (o : Acting) : Type 0 where
  pub before_end : p.at < length x
  pub passed : List Candidate
  pub left : List Candidate
  pub all : Candidates R p.condition (at_line_start x p.at) (drop p.at x) (passed ++ m ∷ left)
  pub rejected : perform R (part x p.start p.at) (drop p.at x) passed [] p.condition p.stack ≡ None
  pub carried : perform R (part x p.start p.at) (drop p.at x) (passed ++ m ∷ []) [] p.condition p.stack ≡ Some o

-- where the text of the last match begins in the input
abbrev pub text_start : State → ℕ
text_start s = s.reading.taken - length s.reading.window.bytes + s.place.at - s.acting.end

-- what is told of the last match
abbrev pub match_by : Option MatchedRule → State → Option Match
match_by None s = None
match_by (Some rule) s = Some (record { rule = rule; start = text_start s; length = s.acting.end })

-- after a refusal, nothing
abbrev pub match_in : State → Option Match
match_in s = if s.failed then None else match_by s.matched s

-- The text of a match that is told: it ends at the place of the next one. (POSIX, lex, Actions in lex: yytext.)
abbrev pub text_of : Option Match → State → List ℕ
text_of None s = []
text_of (Some m) s = last_of m.length (kept_before s)

-- Over every input that is consistent with the bytes given, a match of this rule is carried out at the place. Its text
-- begins and is as long as is told, with what yymore kept before it, after trailing context and yyless. It is this
-- text, which is a part of the bytes given.
pub record MatchedBy (R : Rules) (given : List ℕ) (at_end : Bool) (p : Place) (told : Match)
    (text : List ℕ) : Type 0 where
  pub taken : Candidate
  pub outcome : Acting
  pub carries : (x : List ℕ) → Consistent given at_end x → CarriesOut R x p taken outcome
  pub rule_is : IsRule R.count (Some told.rule) taken.rule
  pub start_is : told.start ≡ p.start
  pub length_is : told.length ≡ length outcome.text
  pub text_is : text ≡ outcome.text
  pub inside : told.start + told.length ≤ length given
  pub part_is : part given told.start (told.start + told.length) ≡ outcome.text

-- A turn tells its match and the text of it; or the place is at the end of the input, and it tells none.
abbrev pub TellsMatch : Rules → List ℕ → Bool → Place → Option Match → List ℕ → Type 0
TellsMatch R given at_end p None text = (x : List ℕ) → Consistent given at_end x → p.at ≡ length x
TellsMatch R given at_end p (Some told) text = MatchedBy R given at_end p told text
