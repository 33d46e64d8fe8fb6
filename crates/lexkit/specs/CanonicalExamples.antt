-- A worked example of a canonical file: that of the rule `aa`.
use Rattle.std.specs.Prelude.{[], ◌∷◌, ◌++◌, replicate, codes}
use Rattle.lex_semantics.specs.Spec.{Spec, Whole, Echo}
use Rattle.lex_semantics.specs.Examples.{echoing, string}
use Rattle.lextab_packed.specs.Table.{Table}
use Rattle.lextab_file.specs.File.{file_of}
use Rattle.lexkit.specs.Canonical.{IsCanonical}

abbrev pub echo_two_as : Spec
echo_two_as = echoing (string (codes "aa"))

-- Matches start in state 1, from which `a` leads to state 2, and from there to state 3, where the rule is accepted.
abbrev pub table_of_two_as : Table
table_of_two_as = record {
  conditions = record { start = 1; line_start = 1; end = record { print = []; status = 0 } } ∷ [];
  rules = record { cut = Whole; statements = Echo ∷ [] } ∷ [];
  classes = 2;
  class_of = replicate 97 0 ++ 1 ∷ replicate 158 0;
  rows =
      record { default_target = 0; base = 0; rules = [] } ∷ record { default_target = 0; base = 0; rules = [] }
      ∷ record { default_target = 0; base = 1; rules = [] } ∷ record { default_target = 0; base = 0; rules = 0 ∷ [] }
      ∷ [];
  slots = record { check = 0; next = 0 } ∷ record { check = 1; next = 2 } ∷ record { check = 2; next = 3 } ∷ [];
}

abbrev pub CanonicalOfTwo : Type 0
CanonicalOfTwo = IsCanonical echo_two_as (file_of table_of_two_as)
