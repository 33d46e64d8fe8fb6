-- Worked examples of what REJECT gives up, and of lines that tell it. (POSIX, lex, Actions in lex: the longest match
-- first, then the earliest rule; the rest is this project's.)
use Rattle.std.specs.Prelude.{◌≡◌, ℕ, true, List, [], ◌∷◌, codes, Some}
use Rattle.std.specs.List.{concat}
use Rattle.lex_semantics.specs.Examples as E
use Rattle.lex_semantics.specs.Rules.{rules_of}
use Rattle.lexscan_window.specs.declared.matched.MatchedRule.TheVariants.{Numbered, Default}
use Rattle.lexlook_counts.specs.CountExamples.{no_matches}
use Rattle.lexlook_counts.specs.CountLines.{matched_line, never_line, json_line}
use Rattle.lexlook_counts.specs.Costs.{TurnCost}
use Rattle.lexlook_counts.specs.GivenUp.{AreGivenUp, given_counts}
use Rattle.lexlook_counts.specs.declared.lines.Subject.TheVariants.{Line, DefaultRule}

-- turns of three bytes by `a+ REJECT;` and `aa ;`: one of the second rule, and one of the default rule
abbrev pub rejecting_turns : List TurnCost
rejecting_turns =
    record { token = record { rule = Numbered 1; start = 0; end = 2; condition = 0 }; beyond = 1 }
    ∷ record { token = record { rule = Default; start = 2; end = 3; condition = 0 }; beyond = 0 }
    ∷ []

-- what they give up: the first one three bytes, and then two, since the first rule is tried before the second; the last
-- one the byte that is left
abbrev pub rejected_rules : List (List ℕ)
rejected_rules = (0 ∷ 0 ∷ []) ∷ (0 ∷ []) ∷ []

-- How often each rule was given up, and the lines of rules where some rule has REJECT: of the default rule, of one that
-- was only given up, and of one that never was
pub record GivenUpExamples : Type 0 where
  pub turns : AreGivenUp (rules_of (E.many_or_two true)) (codes "aaa") 0 rejecting_turns rejected_rules
  pub counts : given_counts 2 (concat rejected_rules) ≡ 3 ∷ 0 ∷ []
  pub matched : matched_line DefaultRule (record { matches = 1; bytes = 1; longest = 1; beyond = 20 }) (Some 0)
      ≡ codes "           1            1            1           20            0 default rule\n"
  pub only : matched_line (Line 3) no_matches (Some 7)
      ≡ codes "           0            0            0            0            7 line 3\n"
  pub not_never : never_line (Line 3) no_matches (Some 7) ≡ []
  pub never : never_line (Line 3) no_matches (Some 0) ≡ codes "line 3: never\n"
  pub json : json_line (Line 3) no_matches (Some 7)
      ≡ codes "{\"line\":3,\"matches\":0,\"bytes\":0,\"longest\":0,\"beyond\":0,\"given_up\":7}\n"
