-- Worked examples of what matches go through: where turns begin, how much is walked, and the lines that tell it. (This
-- project's.)
use Rattle.std.specs.Prelude.{◌≡◌, ℕ, true, false, ◌==◌, List, [], ◌∷◌, codes}
use Rattle.lexscan.specs.declared.token.Token.{Token}
use Rattle.lexscan_window.specs.declared.matched.MatchedRule.TheVariants.{Numbered, Default}
use Rattle.lexlook_suites.specs.CoverLines.{more_line, share_line}
use Rattle.lexlook_suites.specs.Edges.{goes_below}
use Rattle.lexlook_suites.specs.Shares.{share_of, share_of_all}
use Rattle.lexlook_suites.specs.Turns.{TurnBegins}
use Rattle.lexlook_suites.specs.declared.edges.Part.{Part}
use Rattle.lexlook_suites.specs.declared.lines.Subject.TheVariants.{All, Line, NoRule}
use Rattle.lexlook_suites.specs.declared.shares.Share.{Share}

-- two bytes in condition 0, which yymore kept, and behind them one more in condition 1
abbrev pub kept_tokens : List Token
kept_tokens =
    record { rule = Numbered 0; start = 0; end = 2; condition = 0 }
    ∷ record { rule = Default; start = 0; end = 3; condition = 1 }
    ∷ []

-- of rule 0 one that is walked and one that is not, and of rule 1 one that is walked
abbrev pub three_parts : List Part
three_parts =
    record { rule = 0; walked = true }
    ∷ record { rule = 1; walked = true }
    ∷ record { rule = 0; walked = false }
    ∷ []

abbrev pub some : ℕ → ℕ → Share
some walked all = record { walked = walked; all = all }

-- The first turn begins at the front and the second where the text before it ended, and not where its own text starts.
-- Of bytes that lead to a state one that is marked is enough. How much is walked of a rule, and of all; and lines.
pub record CoverExamples : Type 0 where
  pub first_turn : TurnBegins 0 kept_tokens 0 0
  pub second_turn : TurnBegins 0 kept_tokens 2 1
  pub not_at_its_text : TurnBegins 0 kept_tokens 0 1 → ⊥
  pub one_byte : goes_below (λ b. b == 1) (λ b. 7) 7 3 ≡ true
  pub other_bytes : goes_below (λ b. b == 1) (λ b. b) 2 3 ≡ false
  pub of_rule : share_of three_parts 0 ≡ some 1 2
  pub of_all : share_of_all three_parts ≡ some 2 3
  pub all_line : share_line All (some 3 4) (some 2 3) ≡ codes "all: 3 of 4 states, 2 of 3 edges\n"
  pub rule_line : share_line (Line 7) (some 0 1) (some 0 2) ≡ codes "line 7: 0 of 1 states, 0 of 2 edges\n"
  pub no_rule : share_line NoRule (some 1 1) (some 0 0) ≡ codes "no rule: 1 of 1 states, 0 of 0 edges\n"
  pub none_more : more_line 0 ≡ []
  pub some_more : more_line 3 ≡ codes "not walked: 3 more\n"
