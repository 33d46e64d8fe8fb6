-- What flex takes otherwise by what a whole specification says, worked by hand.
use Rattle.std.specs.Prelude.{◌≡◌, ℕ, Bool, true, false, List, [], ◌∷◌, ◌++◌, Option, Some, None, codes, map, replicate}
use Rattle.lex_semantics.specs.Spec.{Rule, Whole}
use Rattle.lex_semantics.specs.Tree.{Tree, Empty, Set, Cat, Alt, Star, Repeat, tree, no_trees}
use Rattle.lexlook_text.specs.DefinitionLines.{lines_from, section_lines}
use Rattle.lexlook_text.specs.declared.definitions.LineKind.TheVariants.{Definition}
use Rattle.lexlook_check.specs.ConditionExamples.{condition_with}
use Rattle.lexlook_check.specs.Differences.{differences}
use Rattle.lexlook_check.specs.EmptyHeads.{empty_heads}
use Rattle.lexlook_check.specs.IdleEnds.{idle_ends}
use Rattle.lexlook_check.specs.NamedTrails.{named_trails, trail_lines}
use Rattle.lexlook_check.specs.Returns.{lone_returns}

-- the rule that is the last of these lines stands at line 4; the places and sizes of names that are told of it
abbrev pub NamedAt : List ℕ → List ℕ → List (ℕ × ℕ) → Type 0
NamedAt defined rule found =
    let lines = lines_from 1 true (defined ++ codes "%%\n" ++ rule) in
    map (λ n. (n.at, n.size)) (named_trails (section_lines Definition lines) lines (4 ∷ [])) ≡ found

-- D has a `|`, and E ends with D
abbrev pub two_names : List ℕ
two_names = codes "D b|c\nE [(]\"|\"{D}\n"

pub record NamedTrailExamples : Type 0 where
  -- a name with `|` at the end of what stands behind the `/`, or of a branch of that
  pub ended : NamedAt two_names (codes "a/x{D} ;\n") ((3, 3) ∷ [])
  pub branch : NamedAt two_names (codes "a/(y)|x{D}\t;\n") ((7, 3) ∷ [])
  -- one that is all of it, or of a branch; but not where its pattern ends with such a one
  pub whole : NamedAt two_names (codes "a/{D} ;\n") []
  pub branches : NamedAt two_names (codes "a/x|{D} ;\n") []
  pub nested : NamedAt two_names (codes "a/{E} ;\n") ((2, 3) ∷ [])
  -- one in the midst, in parentheses, or behind no `/`, and an interval
  pub midst : NamedAt two_names (codes "a/{D}x ;\n") []
  pub enclosed : NamedAt two_names (codes "a/x({D}) ;\n") []
  pub head : NamedAt two_names (codes "a{D} ;\n") []
  pub interval : NamedAt two_names (codes "a/x{2} ;\n") []
  -- one whose `|` stands in parentheses, in a class, in quotes, or behind a backslash
  pub inside : NamedAt (codes "D (b|c)\nE [|]\"|\"\\|(x({D}|y)|z)\n") (codes "a/x{E} ;\n") []
  -- a hundred rules that end otherwise do not count
  pub others : trail_lines (lines_from 1 true (codes "a/{D} ;\n{D}/a ;\n")) (replicate 100 2 ++ 1 ∷ []) ≡ 1 ∷ []

-- a rule at line n whose sides have these trees
abbrev pub sided : ℕ → Tree → Option Tree → Rule
sided n head trail = record {
  line = n;
  conditions = None;
  anchored = false;
  head = head;
  trail = trail;
  cut = Whole;
  statements = [];
}

-- the place at which is told that this head may be empty, before what follows in the line
abbrev pub EmptyAt : Tree → List ℕ → List ℕ → Type 0
EmptyAt head line found =
    map (λ n. n.at) (empty_heads (lines_from 1 true line) (sided 1 head (Some (Set 1)) ∷ [])) ≡ found

pub record EmptyHeadExamples : Type 0 where
  -- any number of times, at least none, a branch without a byte, and a series of these: at the `/`, or at the `$`
  pub star : EmptyAt (Star (Set 1)) (codes "a*/b ;\n") (2 ∷ [])
  pub none : EmptyAt (Repeat (Set 1) 0 (Some 2)) (codes "<A,B>a?$ ;\n") (7 ∷ [])
  pub choice : EmptyAt (Alt (tree (Set 1) (tree Empty no_trees))) (codes "(a|\"\")/b ;\n") (6 ∷ [])
  pub series : EmptyAt (Cat (tree (Star (Set 1)) (tree Empty no_trees))) (codes "a*\"\"/b ;\n") (4 ∷ [])
  -- what has a byte at least
  pub once : EmptyAt (Repeat (Set 1) 1 None) (codes "a+/b ;\n") []
  pub behind : EmptyAt (Cat (tree (Star (Set 1)) (tree (Set 1) no_trees))) (codes "a*a/b ;\n") []
  pub choices : EmptyAt (Alt (tree (Set 1) (tree (Set 2) no_trees))) (codes "(a|b)/b ;\n") []
  -- no trailing context
  pub alone : map (λ n. n.at) (empty_heads (lines_from 1 true (codes "a* ;\n")) (sided 1 (Star (Set 1)) None ∷ []))
      ≡ []

-- the lines of the `<<EOF>>` rules of this text that serve none of INITIAL and A
abbrev pub IdleAt : List ℕ → List ℕ → Type 0
IdleAt text found =
    map (λ n. n.line)
    (idle_ends (lines_from 1 true text)
    (condition_with (codes "INITIAL") false ∷ condition_with (codes "A") true ∷ [])) ≡ found

pub record IdleEndExamples : Type 0 where
  -- each has its own: in a list, in several, or by `*`, also behind the rule
  pub listed : IdleAt (codes "<A,INITIAL><<EOF>> ;\n<<EOF>> ;\n") (2 ∷ [])
  pub lists : IdleAt (codes "<A><<EOF>> ;\nb ;\n<<EOF>> ;\n<INITIAL><<EOF>> ;\n") (3 ∷ [])
  pub every : IdleAt (codes "<<EOF>> ;\n<*><<EOF>> ;\n") (1 ∷ [])
  -- one is left for it; a name is no part of a longer one, and another rule with a list is no `<<EOF>>` rule
  pub left : IdleAt (codes "<A><<EOF>> ;\n<<EOF>> ;\n") []
  pub longer : IdleAt (codes "<AB,INITIAL,B_A><<EOF>> ;\n<<EOF>> ;\n") []
  pub pattern : IdleAt (codes "<A>b ;\n<INITIAL><<EOF>> ;\n<<EOF>> ;\n") []
  -- and none without such a rule
  pub none : IdleAt (codes "<*><<EOF>> ;\nb ;\n") []

-- the lines and places of the carriage returns of this text that end no line
abbrev pub LoneAt : List ℕ → List (ℕ × ℕ) → Type 0
LoneAt text found = map (λ n. (n.line, n.at)) (lone_returns text) ≡ found

pub record LoneReturnExamples : Type 0 where
  -- one within a line, the first of several in a line, and one at the end of the text; none before a newline
  pub within : LoneAt (codes "a\rb\n") ((1, 1) ∷ [])
  pub several : LoneAt (codes "ab\n%%\rc\r\r\n\r\n") ((2, 2) ∷ [])
  pub last : LoneAt (codes "a\r\nb\r") ((2, 1) ∷ [])
  pub ended : LoneAt (codes "a\r\n\r\nb\n") []

-- the lines and places of all that is told of this text, which has INITIAL alone, and at line 4 a rule whose text may
-- be empty before its trailing context
abbrev pub DiffersAt : Bool → List ℕ → List (ℕ × ℕ) → Type 0
DiffersAt faultless text found =
    map (λ n. (n.line, n.at))
    (differences faultless
    (record {
      conditions = condition_with (codes "INITIAL") false ∷ [];
      rules = sided 4 (Star (Set 1)) (Some (Set 1)) ∷ [];
    })
    text)
    ≡ found

abbrev pub three_differences : List ℕ
three_differences =
    codes "D b|c\r\nE x{D}\r\n%%\r\n" ++ codes "a*/{E} ;\r\n<<EOF>> ;\r\n<*><<EOF>> ;\r\n"

pub record DifferenceExamples : Type 0 where
  -- all three, in lines that end with a carriage return and a newline; not the last, where a rule was left out
  pub all : DiffersAt true three_differences ((4, 3) ∷ (4, 2) ∷ (5, 0) ∷ [])
  pub at_fault : DiffersAt false three_differences ((4, 3) ∷ (4, 2) ∷ [])
  pub names : NamedTrailExamples
  pub heads : EmptyHeadExamples
  pub ends : IdleEndExamples
  pub returns : LoneReturnExamples
