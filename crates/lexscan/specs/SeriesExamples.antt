-- Worked examples of tokens of which few bytes are kept. (This project's.)
use Rattle.std.specs.Prelude.{◌≡◌, ℕ, [], ◌∷◌}
use Rattle.lexscan_window.specs.declared.matched.MatchedRule.TheVariants.{Numbered}
use Rattle.lexscan.specs.Series.{end_of, drawn_out}
use Rattle.lexscan.specs.declared.series.BriefToken.{BriefToken}
use Rattle.lexscan.specs.declared.token.Token.{Token}

-- a token in few bytes, and one with its places, by the number of its rule
abbrev pub brief : ℕ → ℕ → ℕ → BriefToken
brief rule length condition = record { rule = rule; length = length; condition = condition }

abbrev pub token : ℕ → ℕ → ℕ → ℕ → Token
token rule start end condition = record { rule = Numbered rule; start = start; end = end; condition = condition }

-- The first begins where it is told, and each other where the one before it ends.
pub record DrawnOut : Type 0 where
  pub several : drawn_out 7 (brief 4 2 0 ∷ brief 1 3 5 ∷ brief 4 1 0 ∷ [])
      ≡ token 4 7 9 0 ∷ token 1 9 12 5 ∷ token 4 12 13 0 ∷ []
  pub none : drawn_out 7 [] ≡ []
  pub end : end_of 7 (brief 4 2 0 ∷ brief 1 3 5 ∷ brief 4 1 0 ∷ []) ≡ 13
  pub end_of_none : end_of 7 [] ≡ 7
