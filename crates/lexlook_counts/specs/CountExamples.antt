-- Worked examples of counts and places: a rule that matched twice, one that never did, the default rule, what turns
-- look at, and marks of walks. (This project's.)
use Rattle.std.specs.Prelude.{◌≡◌, ℕ, ◌<◌, ◌==◌, ◌&&◌, if◌then◌else◌, List, [], ◌∷◌, length, codes, Some, None, true, false}
use Rattle.lex_semantics.specs.Machine.{Machine}
use Rattle.lex_semantics.specs.Rules.{Rules}
use Rattle.lex_semantics.specs.Spec.{Begin, Echo, End, Whole}
use Rattle.lexscan.specs.declared.token.Token.{Token}
use Rattle.lexscan_window.specs.declared.memo.Mark.{Mark}
use Rattle.lexscan_window.specs.declared.matched.MatchedRule.TheVariants.{Numbered, Default}
use Rattle.lexlook_counts.specs.CountLines.{all_given_up, column, ended_line, together, matched_line, never_line, json_line}
use Rattle.lexlook_counts.specs.Costs.{AreCosts, TurnCost, tokens_in}
use Rattle.lexlook_counts.specs.Counts.{rule_count, turn_count}
use Rattle.lexlook_counts.specs.Ends.{EndsIn, ended_in, has_exit, last_rule}
use Rattle.lexlook_counts.specs.FarWalks.{IsFarWalk, IsTrueOf}
use Rattle.lexlook_counts.specs.Places.{offset_lines}
use Rattle.lexlook_counts.specs.declared.lines.CountForm.TheVariants as forms
use Rattle.lexlook_counts.specs.declared.lines.Subject.TheVariants.{Line, DefaultRule}
use Rattle.lexlook_counts.specs.declared.tally.RuleCount.{RuleCount}
use Rattle.lexlook_counts.specs.declared.walking.FarWalk.{FarWalk}

-- three bytes of the first rule, one of the default rule, and two of the first rule, in two conditions
abbrev pub three_tokens : List Token
three_tokens =
    record { rule = Numbered 0; start = 0; end = 3; condition = 0 }
    ∷ record { rule = Default; start = 3; end = 4; condition = 1 }
    ∷ record { rule = Numbered 0; start = 4; end = 6; condition = 1 }
    ∷ []

-- the turns of these, which look at one byte, at none and at two behind their texts
abbrev pub three_costs : List TurnCost
three_costs =
    record { token = record { rule = Numbered 0; start = 0; end = 3; condition = 0 }; beyond = 1 }
    ∷ record { token = record { rule = Default; start = 3; end = 4; condition = 1 }; beyond = 0 }
    ∷ record { token = record { rule = Numbered 0; start = 4; end = 6; condition = 1 }; beyond = 2 }
    ∷ []

abbrev pub no_matches : RuleCount
no_matches = record { matches = 0; bytes = 0; longest = 0; beyond = 0 }

-- rules of which each match looks at three bytes, if there are so many
abbrev pub three_asked : Rules
three_asked = record {
  conditions = 1;
  count = 1;
  full = λ c line_start w i k. ⊥;
  live = λ c line_start w. length w < 3;
  statements = λ i. [];
  ending = λ c. record { print = []; status = 0 };
}

-- turns of five bytes by these: the text of the second begins where that of the first does, and the third comes to the
-- end of the input
abbrev pub looking_turns : List TurnCost
looking_turns =
    record { token = record { rule = Numbered 0; start = 0; end = 1; condition = 0 }; beyond = 2 }
    ∷ record { token = record { rule = Numbered 0; start = 0; end = 3; condition = 0 }; beyond = 1 }
    ∷ record { token = record { rule = Numbered 0; start = 3; end = 4; condition = 0 }; beyond = 1 }
    ∷ []

-- a machine of two states that goes on after each letter a
abbrev pub letters_machine : Machine
letters_machine = record {
  conditions = 1;
  count = 1;
  start = λ c line_start. 1;
  next = λ s b. if s == 1 && b == 97 then 1 else 0;
  accepts = λ s. if s == 1 then 0 ∷ [] else [];
  goes_on = λ s. s == 1;
  cut = λ i. Whole;
  statements = λ i. [];
  ending = λ c. record { print = []; status = 0 };
}

-- from its second state on, over so many bytes to the dead one; of these one is walked over and the others are known
abbrev pub mark_from : ℕ → ℕ → Mark
mark_from place count = record { place = place; state = 1; count = count; last = 0; before = 1 }

abbrev pub walk_over : ℕ → ℕ → FarWalk
walk_over count last = record { count = count; state = last; before = 1; seen = 1 }

-- where walks over letters a lead, and marks of them: one is of another place, and one goes on
pub record WalkExamples : Type 0 where
  pub marked : IsTrueOf letters_machine 2 (codes "caab") (mark_from 1 3)
  pub elsewhere : IsTrueOf letters_machine 2 (codes "caab") (mark_from 0 3) → ⊥
  pub too_near : IsTrueOf letters_machine 2 (codes "caab") (mark_from 1 2) → ⊥
  pub stopped : IsFarWalk letters_machine 2 1 (codes "aab") (walk_over 3 0)
  pub ended : IsFarWalk letters_machine 2 1 (codes "aa") (walk_over 2 1)
  pub not_yet : IsFarWalk letters_machine 2 1 (codes "aab") (walk_over 2 1) → ⊥

-- An action with exit ends the scan, and one without goes on. Where the last one goes on, the scan comes to the end of
-- its input: of an empty one in INITIAL. The counts of two rules are told together.
pub record WholeExamples : Type 0 where
  pub exit : has_exit (Echo ∷ End 0 ∷ []) ≡ true
  pub others : has_exit (Echo ∷ Begin 1 ∷ []) ≡ false
  pub last : last_rule three_tokens ≡ Some (Numbered 0)
  pub met : ended_in false 2 ≡ Some 2
  pub exited : ended_in true 2 ≡ None
  pub empty : EndsIn three_asked [] 0
  pub in_columns : ended_line forms.Columns (codes "INITIAL" ∷ codes "C" ∷ []) (Some 1) ≡ codes "end: C\n"
  pub as_json : ended_line forms.Json (codes "INITIAL" ∷ codes "C" ∷ []) (Some 0) ≡ codes "{\"end\":\"INITIAL\"}\n"
  pub two_rules : together (rule_count three_costs (Numbered 0)) (rule_count three_costs Default)
      ≡ record { matches = 3; bytes = 6; longest = 3; beyond = 3 }
  pub given_up : all_given_up (2 ∷ 0 ∷ 3 ∷ []) ≡ 5
  pub no_end : ended_line forms.Columns (codes "INITIAL" ∷ []) None ≡ []

-- The counts of the first rule, of the second, which never matched, and of the default rule; the turns in each
-- condition; lines of these; walks; and what is told of the whole
pub record CountExamples : Type 0 where
  pub tokens : tokens_in three_costs ≡ three_tokens
  pub looked : AreCosts three_asked (codes "abcde") 0 looking_turns
  pub first : rule_count three_costs (Numbered 0) ≡ record { matches = 2; bytes = 5; longest = 3; beyond = 3 }
  pub second : rule_count three_costs (Numbered 1) ≡ no_matches
  pub default_rule : rule_count three_costs Default ≡ record { matches = 1; bytes = 1; longest = 1; beyond = 0 }
  pub outer : turn_count three_costs 0 ≡ 1
  pub inner : turn_count three_costs 1 ≡ 2
  pub in_column : column 345 ≡ codes "         345 "
  pub matched : matched_line DefaultRule (record { matches = 1; bytes = 1; longest = 1; beyond = 20 }) None
      ≡ codes "           1            1            1           20 default rule\n"
  pub never : never_line (Line 3) no_matches None ≡ codes "line 3: never\n"
  pub none : matched_line (Line 3) no_matches None ≡ []
  -- the rules stand at lines 7 and 9
  pub placed : offset_lines (7 ∷ 9 ∷ []) (codes "abc\"d\n") three_tokens
      ≡ codes "0 3 line 7 \"abc\"\n3 1 default rule \"\\\"\"\n4 2 line 7 \"d\\n\"\n"
  pub json : json_line (Line 3) no_matches None
      ≡ codes "{\"line\":3,\"matches\":0,\"bytes\":0,\"longest\":0,\"beyond\":0}\n"
  pub walks : WalkExamples
  pub whole : WholeExamples
