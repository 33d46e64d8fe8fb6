-- Pieces of patterns, lines of definitions, names that are near, and words that have no meaning, worked by hand.
use Rattle.std.specs.Prelude.{◌≡◌, ℕ, List, [], ◌∷◌, Option, Some, None, codes, map, option_map, true}
use Rattle.lexre_bytes.specs.declared.refusals.SpecErrorKind.{SpecErrorKind}
use Rattle.lexre_bytes.specs.declared.refusals.SpecErrorKind.TheVariants.{BadCount, DuplicateName, LessAndMore, Unclosed, UnknownCondition, UnknownStatement, UnsupportedOption, VariableTrailing}
use Rattle.lexlook_text.specs.DefinitionLines.{definition_lines, lines_from, section_lines}
use Rattle.lexlook_text.specs.DeclaredNames.{again_in, declared_conditions, defined_names, first_named}
use Rattle.lexlook_text.specs.Known.{argument_names, condition_names}
use Rattle.lexlook_text.specs.Names.{nearest, unlike}
use Rattle.lexlook_text.specs.Pieces.{behind_pattern, pieces_from}
use Rattle.lexlook_text.specs.Spots.{spot_of}
use Rattle.lexlook_text.specs.declared.definitions.LineKind.TheVariants.{Declaration}

-- of the conditions of a text that at a line which is declared before
abbrev pub Repeats : ℕ → List ℕ → Option (ℕ × ℕ × List ℕ) → Type 0
Repeats n text found =
    let places = declared_conditions (lines_from 1 true text) in again_in places n places ≡ found

pub record PieceExamples : Type 0 where
  -- a class with a blank, quotes with one, a name, an escape, and a byte before the blank that ends the pattern
  pub pieces : pieces_from 2 0 (codes "[] b]\"c \\\"d\"{X}\\de f")
      ≡ (2, codes "[] b]") ∷ (7, codes "\"c \\\"d\"") ∷ (14, codes "{X}") ∷ (17, codes "\\d") ∷ (19, codes "e") ∷ []
  pub behind : behind_pattern 0 (codes "[] b]\"c \\\"d\"{X}\\de f") ≡ codes " f"
  -- lines of a block and of a comment are no definitions
  pub definitions : definition_lines (codes "%{\nx a\n%}\n/* y\nz b */\nD c\n%%\ne f\n") ≡ (6, codes "D c\n%%\ne f\n")
      ∷ []
  -- the conditions of a text, of which those in a block are none
  pub conditions : condition_names (section_lines Declaration
      (lines_from 1 true (codes "%{\n%s A\n%}\n%x B C\n%option stack\n%s D\n%%\n%x E\n"))) ≡ codes "INITIAL  B C  D "
  -- the same with their lines and places there
  pub declared : declared_conditions (lines_from 1 true (codes "%{\n%s A\n%}\n%x B  CD\n%option stack\n%%\n%x E\n"))
      ≡ (4, 3, codes "B") ∷ (4, 6, codes "CD") ∷ []
  -- the definitions with theirs, and the first of two
  pub defined : defined_names (lines_from 1 true (codes "A b\n%s C\nD e\n%%\nF g\n"))
      ≡ (1, 0, codes "A") ∷ (3, 0, codes "D") ∷ []
  pub first : first_named (codes "B") ((2, 3, codes "A") ∷ (4, 5, codes "B") ∷ (6, 7, codes "B") ∷ [])
      ≡ Some (4, 5, codes "B")
  -- the second of two of a line, and not the first; one of an earlier line; and INITIAL
  pub again : Repeats 1 (codes "%s A B A B") (Some (1, 7, codes "A"))
  pub behind_line : Repeats 2 (codes "%s A\n%x B A") (Some (2, 5, codes "A"))
  pub before_line : Repeats 1 (codes "%s A\n%x B A") None
  pub initial : Repeats 1 (codes "%s INITIAL") (Some (1, 3, codes "INITIAL"))

pub record NameExamples : Type 0 where
  -- a name that goes on, one with other letters, one with a letter twice, and two letters that changed places
  pub front : unlike (codes "STRING") (codes "STR") ≡ 3
  pub cases : unlike (codes "echo") (codes "ECHO") ≡ 0
  pub doubled : unlike (codes "COMENT") (codes "COMMENT") ≡ 1
  pub places : unlike (codes "DIGTI") (codes "DIGIT") ≡ 2
  -- the nearest of several, the first of two that are as near, and none where none is near
  pub nearer : nearest (codes "COMENT") (codes "CONTENT COMMENT") ≡ Some (codes "COMMENT")
  pub first : nearest (codes "STR") (codes "INITIAL STRA STRB") ≡ Some (codes "STRA")
  pub none : nearest (codes "foo") (codes "INITIAL STR") ≡ None
  -- half of the longer one is enough
  pub half : nearest (codes "STRING") (codes "INITIAL STR") ≡ Some (codes "STR")

-- the line and the offset of the word that has no meaning in the third line of this text, and how many bytes it has
abbrev pub Finds : SpecErrorKind → List ℕ → Option (ℕ × ℕ × ℕ) → Type 0
Finds kind rule found =
    let lines = lines_from 1 true (codes "%x A\n%%\n") in
    let declared = section_lines Declaration lines in
    let spot = spot_of (condition_names declared) (argument_names declared) kind (3, rule) in
    option_map (λ s. (s.line, s.at, s.size)) spot ≡ found

pub record SpotExamples : Type 0 where
  -- behind a statement that is known, and words in a string and in a comment
  pub statement : Finds UnknownStatement (codes "a { puts(\"b\"); /* c */ d(); }\n") (Some (3, 23, 1))
  -- on the next line, in braces
  pub next : Finds UnknownStatement (codes "a {\n  foo();\n}\n") (Some (4, 2, 3))
  -- not behind the end of the action: then the action itself
  pub ends : Finds UnknownStatement (codes "a  printf()\nb foo();\n") (Some (3, 3, 1))
  -- a statement whose words are known
  pub count : Finds BadCount (codes "a ECHO; yyless(0);\n") (Some (3, 8, 6))
  -- the second of two
  pub second : Finds LessAndMore (codes "a yyless(1); yymore();\n") (Some (3, 13, 6))
  -- in a format: `%d`, and a second `%s`; not in another string
  pub format : Finds UnknownStatement (codes "a puts(\"%d\"); printf(\"%%d%d\");\n") (Some (3, 25, 2))
  pub twice : Finds UnknownStatement (codes "a printf(\"%s %s\", yytext);\n") (Some (3, 13, 2))
  -- what has no end: a brace, the outermost of two, a string in one, a comment, and a block
  pub brace : Finds Unclosed (codes "a { \"}\"; /* } */ { }\nb ;\n") (Some (3, 2, 1))
  pub string : Finds Unclosed (codes "a { puts(\"}\\\"b);\n puts(\"c\"); }\n") (Some (3, 9, 1))
  pub comment : Finds Unclosed (codes "a { ; } /* \"\nb ;\n") (Some (3, 8, 2))
  pub block : Finds Unclosed (codes "%{\n\"\n") (Some (3, 0, 2))
  -- in the list of a rule, and in its action
  pub listed : Finds UnknownCondition (codes "<A,B>c ;\n") (Some (3, 3, 1))
  pub begun : Finds UnknownCondition (codes "<A>c BEGIN(B);\n") (Some (3, 11, 1))
  pub option : Finds UnsupportedOption (codes "%option stack reentrant\n") (Some (3, 14, 9))
  -- the name of a definition, and a slash, but in quotes and in a class
  pub name : Finds DuplicateName (codes "AB [a]\n") (Some (3, 0, 2))
  pub slash : Finds VariableTrailing (codes "\"/\"[/]*\\//b* /c\n") (Some (3, 9, 1))
