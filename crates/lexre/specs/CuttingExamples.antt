-- Worked examples of where the pattern of a rule ends, and what stands at its end. (POSIX, lex, Rules in lex; flex,
-- Patterns: `r/s`, `r$`.)
use Rattle.std.specs.Prelude.{ℕ, Bool, true, false, List, Option, Some, None, codes}
use Rattle.lexre.specs.Cutting.{IsCutting}

-- A blank ends the pattern, unless it stands in quotes, in a class or behind a backslash.
pub record Ends : Type 0 where
  pub at_blank : IsCutting (codes "a b") 1 None false false
  pub at_newline : IsCutting (codes "a\nb") 1 None false false
  pub at_end : IsCutting (codes "a") 1 None false false
  pub in_quotes : IsCutting (codes "\"a b\" c") 5 None false false
  pub in_class : IsCutting (codes "[ a] c") 4 None false false
  pub behind_backslash : IsCutting (codes "a\\ b c") 4 None false false

-- A slash counts, unless it stands in quotes, in a class or behind a backslash; it is told where the first stands, and
-- whether there is a second.
pub record Slashes : Type 0 where
  pub slash : IsCutting (codes "a/b c") 3 (Some 1) false false
  pub two_slashes : IsCutting (codes "a/b/c d") 5 (Some 1) true false
  pub in_quotes : IsCutting (codes "\"a/b\" c") 5 None false false
  pub in_class : IsCutting (codes "[/]b c") 4 None false false
  pub behind_backslash : IsCutting (codes "a\\/b c") 4 None false false
  pub behind_parentheses : IsCutting (codes "(a)/b c") 5 (Some 3) false false

-- A `$` counts where it comes last, and not behind a backslash.
pub record Dollars : Type 0 where
  pub dollar : IsCutting (codes "a$ b") 2 None false true
  pub inside : IsCutting (codes "a$b c") 3 None false false
  pub behind_backslash : IsCutting (codes "a\\$ b") 3 None false false
  pub behind_a_slash : IsCutting (codes "a/b$ c") 4 (Some 1) false true

abbrev pub HasNone : List ℕ → Type 0
HasNone text = (end : ℕ) (first : Option ℕ) (two special : Bool) → IsCutting text end first two special → ⊥

-- a slash in parentheses, and a text in quotes without an end
pub record NoCuttings : Type 0 where
  pub in_parentheses : HasNone (codes "(a/b) c")
  pub open_quote : HasNone (codes "\"a b")
