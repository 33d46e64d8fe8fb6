-- Worked examples of what the turns of a scan ask for, and of what is known of it, by the rule `aa ECHO;`; and of the
-- order of matches. (This project's.)
use Rattle.std.specs.Prelude.{◌≡◌, ℕ, true, false, List, [], ◌∷◌, Some, None, codes}
use Rattle.lex_semantics.specs.Spec.{Spec}
use Rattle.lex_semantics.specs.Rules.{rules_of}
use Rattle.lex_semantics.specs.Candidates.{Candidate, Before}
use Rattle.lex_semantics.specs.Acting.{Status}
use Rattle.lex_semantics.specs.Run.{Place, first_state}
use Rattle.lex_semantics.specs.Demand.{Asks, AsksFrom, Consistent, answers}
use Rattle.lex_semantics.specs.Scanned.{AfterTurns, Scanned}
use Rattle.lex_semantics.specs.Examples.{echoing, nothing, string}

abbrev pub two_as : Spec
two_as = echoing (string (codes "aa"))

-- what the first turn asks for
abbrev pub first_asks : List ℕ → ℕ → Type 0
first_asks x r = Asks (rules_of two_as) x first_state.place r

-- The first match asks for a byte, and for another one where an a came; after aa no longer match may come. The end is
-- one answer more: it is asked for where a longer match may come, and where no input is left. Where no rule may match,
-- the first answer is asked for too.
pub record Asking : Type 0 where
  pub whole : first_asks (codes "aab") 2
  pub no_more : first_asks (codes "aab") 3 → ⊥
  pub second_byte : first_asks (codes "ab") 2
  pub first_byte : first_asks (codes "ba") 1
  pub longer_match : first_asks (codes "a") 2
  pub no_input : first_asks [] 1
  pub all_of_it : first_asks (codes "aa") 2
  pub other_byte : first_asks (codes "ab") 3 → ⊥
  pub without_rules : Asks (rules_of nothing) (codes "a") first_state.place 1

-- where the second match begins, after two bytes
abbrev pub second_place : Place
second_place = record { start = 2; at = 2; condition = 0; stack = [] }

-- Before a turn nothing is asked for. Two turns ask for the most that one of them asks for, from the start of the input
-- on; a turn after the end of the scan asks for nothing.
pub record AskingTogether : Type 0 where
  pub none : AfterTurns (rules_of two_as) (codes "aab") 0 first_state 0
  pub some : AfterTurns (rules_of two_as) (codes "aab") 0 first_state 1 → ⊥
  pub further : AsksFrom (rules_of two_as) (codes "aab") second_place None 2 3
  pub no_further : AsksFrom (rules_of two_as) (codes "aab") first_state.place None 3 3
  pub not_again : AsksFrom (rules_of two_as) (codes "aab") first_state.place None 3 2 → ⊥
  pub ended : AsksFrom (rules_of two_as) (codes "aab") second_place (Some (Status 0)) 2 2
  pub not_ended : AsksFrom (rules_of two_as) (codes "aab") second_place (Some (Status 0)) 2 3 → ⊥

-- an input begins with what the source gave, and is that once the source has answered its end
pub record Given : Type 0 where
  pub begins : Consistent (codes "a") false (codes "ab")
  pub ends : Consistent (codes "a") true (codes "a")
  pub more : Consistent (codes "a") true (codes "ab") → ⊥
  pub less : Consistent (codes "ab") false (codes "a") → ⊥
  pub no_byte : Consistent [] false (256 ∷ []) → ⊥

-- Before the first turn the source gave nothing, not its end either. It answers with each byte, and with its end.
pub record Known : Type 0 where
  pub first : Scanned (rules_of two_as) [] false 0 first_state
  pub at_end : Scanned (rules_of two_as) [] true 0 first_state → ⊥
  pub one_byte : Scanned (rules_of two_as) (codes "a") false 0 first_state → ⊥
  pub answered : answers (codes "ab") false ≡ 2
  pub end_answered : answers (codes "ab") true ≡ 3

abbrev pub match : ℕ → ℕ → ℕ → Candidate
match len rule keep = record { len = len; rule = rule; keep = keep }

-- a longer match comes first, by its trailing context too, and of two that are as long that of the earlier rule
pub record Order : Type 0 where
  pub longer : Before (match 3 1 3) (match 2 0 2)
  pub shorter : Before (match 2 0 2) (match 3 1 3) → ⊥
  pub by_context : Before (match 3 0 1) (match 2 1 2)
  pub shorter_by_context : Before (match 2 1 2) (match 3 0 1) → ⊥
  pub earlier_rule : Before (match 2 0 2) (match 2 1 2)
  pub later_rule : Before (match 2 1 2) (match 2 0 2) → ⊥
