-- Rules that walk each line, and those that flex takes otherwise, worked by hand.
use Rattle.std.specs.Prelude.{◌≡◌, ℕ, true, false, List, [], ◌∷◌, map, codes}
use Rattle.lexlook_text.specs.DefinitionLines.{lines_from}
use Rattle.lexlook_check.specs.BarTrails.{bar_trails}
use Rattle.lexlook_check.specs.EndRules.{end_notices}
use Rattle.lexlook_check.specs.FlexTrails.{trail_notices}
use Rattle.lexlook_check.specs.LineWalks.{walk_notices}

-- the rule at line 3 walks a line, by a class of so many bytes at this place
abbrev pub WalksAt : List ℕ → List (ℕ × ℕ) → Type 0
WalksAt rule found = map (λ n. (n.at, n.size)) (walk_notices (3, rule)) ≡ found

-- flex takes both sides of the slash at this place of the rule at line 3 to vary
abbrev pub VariesAt : List ℕ → List ℕ → Type 0
VariesAt rule found = map (λ n. n.at) (trail_notices (3, rule)) ≡ found

pub record WarnedRules : Type 0 where
  -- a rule that walks each line at each byte, also behind a condition list
  pub walks : WalksAt (codes ".*x  ECHO;\n") ((0, 1) ∷ [])
  pub listed : WalksAt (codes "<A,B>[^\\n]+\";\" ;\n") ((5, 5) ∷ [])
  -- one that takes the whole line, at the end or before a branch, one that begins it, and one class alone
  pub whole : WalksAt (codes ".*  ECHO;\n") []
  pub newline : WalksAt (codes ".+\\n  ;\n") []
  pub branch : WalksAt (codes ".*|x  ;\n") []
  pub anchored : WalksAt (codes "^.*x  ;\n") []
  pub once : WalksAt (codes ".x  ;\n") []
  -- an interval and a choice of one length; a sign of one side alone, in a class, in quotes, and in a condition list
  pub interval : VariesAt (codes "a+/a{2} ;\n") (2 ∷ [])
  pub choice : VariesAt (codes "<A>(ab|cd)/x* ;\n") (10 ∷ [])
  pub head_alone : VariesAt (codes "a+/bc ;\n") []
  pub trail_alone : VariesAt (codes "<*>[+]\"|\"/b? ;\n") []

-- of the rules at the first lines of this text those whose trailing context stands behind a `|`, each with its place
abbrev pub BarredAt : List ℕ → List (ℕ × ℕ) → Type 0
BarredAt text found =
    map (λ n. (n.line, n.at)) (bar_trails (lines_from 1 true text) false (1 ∷ 2 ∷ 3 ∷ [])) ≡ found

-- flex meets the end again at this place of the rule at line 3
abbrev pub EndsAt : List ℕ → List ℕ → Type 0
EndsAt rule found = map (λ n. n.at) (end_notices (3, rule)) ≡ found

pub record FlexRules : Type 0 where
  -- behind a rule with `|` the `/`, or the `$` at the end; a carriage return may stand behind the `|`
  pub barred : BarredAt (codes "a  |\nb/c ;\nd/e ;\n") ((2, 1) ∷ [])
  pub line_end : BarredAt (codes "a |\t\r\nb\"$\"$ |\n[$/]c$ ;\n") ((2, 4) ∷ (3, 5) ∷ [])
  -- not behind a `|` of a pattern, or one behind which more stands, and no `/` or `$` in other pieces or in the midst
  pub no_action : BarredAt (codes "a|b ;\nc/d ;\n") []
  pub more : BarredAt (codes "a | b\nc/d ;\n") []
  pub others : BarredAt (codes "a |\n\"/\"[$/]$\\$ |\n\\/ ;\n") []
  -- an `<<EOF>>` rule that prints alone, or does nothing; not one that ends the scan, and none in quotes
  pub printing : EndsAt (codes "<A><<EOF>> { puts(\"exit\"); // exit\n}\nb exit(1);\n") (3 ∷ [])
  pub silent : EndsAt (codes "<<EOF>> ;\n") (0 ∷ [])
  pub ending : EndsAt (codes "<<EOF>> puts(\"a\"); yyterminate();\n") []
  pub leaving : EndsAt (codes "<<EOF>> {\n  exit(1); }\n") []
  pub in_quotes : EndsAt (codes "\"<<EOF>>\" ;\n") []
