-- A worked example of rules that share texts. (POSIX, lex, Actions in lex: the rule given first, and REJECT.)
use Rattle.std.specs.Prelude.{◌≡◌, ◌⊎◌, ℕ, ◌==◌, Bool, true, false, List, [], ◌∷◌}
use Rattle.lexlook_specs.specs.Matches.{RuleMatches}
use Rattle.lexlook_specs.specs.Overlaps.{IsFirstShared, IsHome, IsPairBefore, SharesText}
use Rattle.lexlook_specs.specs.declared.words.overlapping.Home.TheVariants.{Nowhere, AtLineStart, Anywhere}

-- the texts `a` and `b`
abbrev pub a_text : List ℕ
a_text = 97 ∷ []

abbrev pub b_text : List ℕ
b_text = 98 ∷ []

-- `^a ;`, `a REJECT;`, `a|b ;` and `b|a ;`, in one condition
abbrev pub four_rules : RuleMatches
four_rules = record {
  conditions = 1;
  count = 4;
  fits = λ c line w i. ((i ≡ 0) × (line ≡ true) × (w ≡ a_text)) ⊎ ((i ≡ 1) × (w ≡ a_text))
      ⊎ (((i ≡ 2) ⊎ (i ≡ 3)) × ((w ≡ a_text) ⊎ (w ≡ b_text)));
  gives_up = λ i. i == 1;
}

-- Within a line the second rule takes `a`, which the third fits too; at the start of a line the first keeps it. The
-- second gives it up, so the third takes it before the fourth, and `b` is no first text of these. The first takes it at
-- the start of a line alone, and the third takes `b` not there alone. Pairs come by their first rules.
pub record OverlapExamples : Type 0 where
  pub within : SharesText four_rules 1 2 0 false a_text
  pub kept : SharesText four_rules 1 2 0 true a_text → ⊥
  pub given_up : SharesText four_rules 2 3 0 false a_text
  pub first : IsFirstShared four_rules 2 3 a_text
  pub not_first : IsFirstShared four_rules 2 3 b_text → ⊥
  pub starts : IsHome four_rules 0 1 a_text 0 AtLineStart
  pub not_within : IsHome four_rules 0 1 a_text 0 Anywhere → ⊥
  pub anywhere : IsHome four_rules 1 2 a_text 0 Anywhere
  pub not_start : IsHome four_rules 2 3 b_text 0 AtLineStart → ⊥
  pub nowhere : IsHome four_rules 1 2 b_text 0 Nowhere
  pub somewhere : IsHome four_rules 1 2 a_text 0 Nowhere → ⊥
  pub order : IsPairBefore 0 3 1 2 × IsPairBefore 1 2 1 3
  pub not_before : IsPairBefore 1 2 0 3 → ⊥
