-- Texts without a rule, worked by hand.
use Rattle.std.specs.Prelude.{◌≡◌, ℕ, List, codes}
use Rattle.lexlook_check.specs.Leaving.{without_rule_at}

-- of the text is left
abbrev pub Leaves : ℕ → List ℕ → List ℕ → Type 0
Leaves n text left = without_rule_at n text ≡ left

pub record LeavingExamples : Type 0 where
  -- the second of three lines
  pub one : Leaves 2 (codes "%%\na b;\nc ;\n") (codes "%%\n\nc ;\n")
  -- an action of several lines, up to its brace
  pub braces : Leaves 2 (codes "%%\na {\n\n  b;\n}\nc ;\n") (codes "%%\n\n\n\n\nc ;\n")
  -- the last line, which no newline ends
  pub last : Leaves 2 (codes "%%\na b;") (codes "%%\n")
  -- there is no such line, and none at line 0
  pub behind : Leaves 3 (codes "%%\na ;") (codes "%%\na ;")
  pub none : Leaves 0 (codes "%%\na ;") (codes "%%\na ;")
