-- Where the conditions and definitions of a text stand. (flex, Start Conditions, Format of the Input File.)
use Rattle.std.specs.Prelude.{ℕ, suc, ◌==◌, ◌&&◌, ◌||◌, Bool, true, false, not, if◌then◌else◌, List, [], ◌∷◌, ◌++◌, flat_map, map, length, Option, Some, None, codes}
use Rattle.lex_semantics.specs.ByteSets.{is_blank, same_bytes}
use Rattle.lexspec_lines.specs.DefinitionLines.{has_name}
use Rattle.lexspec_lines.specs.Lines.{before_blank, line_in, words}
use Rattle.lexlook_text.specs.DefinitionLines.{section_lines}
use Rattle.lexlook_text.specs.Known.{front_name}
use Rattle.lexlook_text.specs.declared.naming.DeclaredName.{DeclaredName}
use Rattle.lexlook_text.specs.declared.definitions.LineKind.TheVariants.{Declaration, Definition}

-- what a `DeclaredName` stands for: its line, how many bytes of that stand before it, and the name
abbrev pub declared_name_of : DeclaredName → ℕ × ℕ × List ℕ
declared_name_of d = (d.line, d.at, d.name.now)

-- the words of a text, with the line and their places there: n bytes of the line stand before the text, and a word may
-- begin it where `fresh`
abbrev pub words_from : ℕ → ℕ → Bool → List ℕ → List (ℕ × ℕ × List ℕ)
words_from line n fresh [] = []
words_from line n fresh (c ∷ t) =
    (if fresh && not (is_blank c) then (line, n, (before_blank (c ∷ t)).0) ∷ [] else [])
    ++ words_from line (suc n) (is_blank c) t

-- of the line that begins the text the words behind its first, where that declares conditions
abbrev pub declared_in : ℕ × List ℕ → List (ℕ × ℕ × List ℕ)
declared_in l =
    let (word, rest) = before_blank (line_in l.1).0 in
    if has_name (words (codes "%s %S %start %Start %x %X")) word then words_from l.0 (length word) true rest else []

-- the conditions that these lines declare, but for INITIAL
abbrev pub declared_conditions : List (ℕ × List ℕ) → List (ℕ × ℕ × List ℕ)
declared_conditions lines = flat_map declared_in (section_lines Declaration lines)

-- the name that begins a line
abbrev pub front_place : ℕ × List ℕ → ℕ × ℕ × List ℕ
front_place l = (l.0, 0, front_name l.1)

-- the definitions that stand in these lines, each at its name
abbrev pub defined_names : List (ℕ × List ℕ) → List (ℕ × ℕ × List ℕ)
defined_names lines = map front_place (section_lines Definition lines)

-- of names at their places the first that is this one
abbrev pub first_named : List ℕ → List (ℕ × ℕ × List ℕ) → Option (ℕ × ℕ × List ℕ)
first_named name [] = None
first_named name (p ∷ ps) = if same_bytes p.2 name then Some p else first_named name ps

-- a name does not stand at the place of the first that is the same
abbrev pub is_behind : ℕ × ℕ × List ℕ → Option (ℕ × ℕ × List ℕ) → Bool
is_behind p None = false
is_behind p (Some q) = not (q.0 == p.0 && q.1 == p.1)

-- a condition is declared before: INITIAL always is, and others are where one of all has the name before
abbrev pub is_again : List (ℕ × ℕ × List ℕ) → ℕ × ℕ × List ℕ → Bool
is_again all p = same_bytes p.2 (codes "INITIAL") || is_behind p (first_named p.2 all)

-- of these the first at line n that is declared before
abbrev pub again_in : List (ℕ × ℕ × List ℕ) → ℕ → List (ℕ × ℕ × List ℕ) → Option (ℕ × ℕ × List ℕ)
again_in all n [] = None
again_in all n (p ∷ ps) = if p.0 == n && is_again all p then Some p else again_in all n ps
