-- Worked examples of what rules are called in a program. (This project's.)
use Rattle.std.specs.Prelude.{◌≡◌, ℕ, List, [], ◌∷◌, codes}
use Rattle.std.specs.List.{concat}
use Rattle.lexauto.specs.declared.error.BuildError.{BuildError}
use Rattle.lexkit.specs.declared.errors.GenError.TheVariants.{Build}
use Rattle.lexkit.specs.declared.options.Options.{Options}
use Rattle.lexlook_calls.specs.Headers.{ReadingRefusal, called_by, first_rules, rule_line}
use Rattle.lexlook_calls.specs.declared.header.Language.TheVariants as languages

-- the first rule and the third have one name, and the second has none
abbrev pub three_rules : List (List ℕ)
three_rules = called_by 2 (codes "int") ∷ called_by 3 [] ∷ called_by 5 (codes "int") ∷ []

-- A keyword as a name; a rule told by its line, in Rust; the second one of a name, which has no constant; the list of
-- the first rules; no text is refused by a limit of automata
pub record HeaderExamples : Type 0 where
  pub keyword : rule_line languages.C three_rules 0 ≡ codes "    RULE_int = 0,\n"
  pub by_line : rule_line languages.Rust three_rules 1 ≡ codes "pub const LINE_3: u32 = 1;\n"
  pub again : rule_line languages.C three_rules 2 ≡ []
  pub firsts : first_rules languages.C three_rules ≡ concat (
      codes "};\n\n/* For each rule the first one that is called as it is, and RULES for the default rule. */\n"
      ∷ codes "static const unsigned lex_first_rule[RULES + 1] = {\n"
      ∷ codes "    0,\n    1,\n    0,\n    3,\n};\n"
      ∷ [])
  pub unlimited : (options : Options) (text : List ℕ) (e : BuildError) → ReadingRefusal options text (Build e) → ⊥
