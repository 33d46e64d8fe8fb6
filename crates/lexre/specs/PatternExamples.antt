-- Worked examples of patterns: trees that texts spell, and texts that spell none. (POSIX, lex, Regular Expressions in
-- lex; flex, Patterns. The bounds are this project's.)
use Rattle.std.specs.Prelude.{◌≡◌, ℕ, zero, suc, ◌+◌, ◌^◌, true, false, List, [], ◌∷◌, ◌++◌, Some, None, codes, replicate}
use Rattle.std.specs.FinMap.{get}
use Rattle.lex_semantics.specs.ByteSets.{single, range_set, union, complement}
use Rattle.lex_semantics.specs.Tree.{Tree, Empty, Set, Cat, Alt, Star, Repeat, trees}
use Rattle.lexre.specs.Definitions.{Definitions}
use Rattle.lexre.specs.Spelling.{Spells}
use Rattle.lexre.specs.declared.options.ReadOptions.{ReadOptions}

-- letters as they stand, and intervals over items
abbrev pub plain : ReadOptions
plain = record { fold = false; posix = false }

-- letters for both cases
abbrev pub folding : ReadOptions
folding = record { fold = true; posix = false }

-- intervals over series
abbrev pub over_series : ReadOptions
over_series = record { fold = false; posix = true }

abbrev pub one_letter : ℕ → Tree
one_letter b = Set (single b)

abbrev pub a : Tree
a = one_letter 97

abbrev pub b : Tree
b = one_letter 98

abbrev pub c : Tree
c = one_letter 99

-- `ab` and `a|b`
abbrev pub ab : Tree
ab = Cat (trees (a ∷ b ∷ []))

abbrev pub a_or_b : Tree
a_or_b = Alt (trees (a ∷ b ∷ []))

-- a quote and a backslash
abbrev pub quote : List ℕ
quote = 34 ∷ []

abbrev pub backslash : List ℕ
backslash = 92 ∷ []

-- The text spells the tree, and the text spells none, whatever is defined.
abbrev pub Is : ReadOptions → List ℕ → Tree → Type 0
Is how text t = (definitions : Definitions) → Spells how definitions text t

abbrev pub IsNone : ReadOptions → List ℕ → Type 0
IsNone how text = (definitions : Definitions) (t : Tree) → Spells how definitions text t → ⊥

-- `a`, `.`, `\n`, `[a-c]`, `[^a]`, `""`, `"a"`, `"ab"`
abbrev pub Items : Type 0
Items =
    Is plain (codes "a") a
    × Is plain (codes ".") (Set (complement (single 10)))
    × Is plain (backslash ++ codes "n") (one_letter 10)
    × Is plain (codes "[a-c]") (Set (range_set 97 99))
    × Is plain (codes "[^a]") (Set (complement (single 97)))
    × Is plain (quote ++ quote) Empty
    × Is plain (quote ++ codes "a" ++ quote) a
    × Is plain (quote ++ codes "ab" ++ quote) ab

-- Classes: `]` as the first element, `-` as the last one and after a range, an escape, `[` and `.` as they stand, and
-- named classes.
abbrev pub Classes : Type 0
Classes =
    Is plain (codes "[]a]") (Set (2 ^ 93 + 2 ^ 97))
    × Is plain (codes "[a-]") (Set (2 ^ 45 + 2 ^ 97))
    × Is plain (codes "[a-c-e]") (Set (2 ^ 45 + 2 ^ 97 + 2 ^ 98 + 2 ^ 99 + 2 ^ 101))
    × Is plain (codes "[^\\n]") (Set (complement (single 10)))
    × Is plain (codes "[[.]") (Set (2 ^ 46 + 2 ^ 91))
    × Is plain (codes "[[:digit:]]") (Set (range_set 48 57))
    × Is plain (codes "[[:xdigit:]]") (Set (union (range_set 48 57) (union (range_set 65 70) (range_set 97 102))))

-- the other named classes
abbrev pub ClassNames : Type 0
ClassNames =
    Is plain (codes "[[:alpha:]]") (Set (union (range_set 65 90) (range_set 97 122)))
    × Is plain (codes "[[:upper:]]") (Set (range_set 65 90))
    × Is plain (codes "[[:lower:]]") (Set (range_set 97 122))
    × Is plain (codes "[[:alnum:]]") (Set (union (range_set 48 57) (union (range_set 65 90) (range_set 97 122))))
    × Is plain (codes "[[:space:]]") (Set (union (range_set 9 13) (single 32)))
    × Is plain (codes "[[:blank:]]") (Set (union (single 9) (single 32)))
    × Is plain (codes "[[:cntrl:]]") (Set (union (range_set 0 31) (single 127)))
    × Is plain (codes "[[:graph:]]") (Set (range_set 33 126))
    × Is plain (codes "[[:print:]]") (Set (range_set 32 126))
    × Is plain (codes "[[:punct:]]")
    (Set (union (union (range_set 33 47) (range_set 58 64)) (union (range_set 91 96) (range_set 123 126))))

-- Escapes: at most two hexadecimal digits and at most three octal ones, `\x` without a digit, and those of C; in quotes
-- they are the same.
abbrev pub Escapes : Type 0
Escapes =
    Is plain (codes "\\x411") (Cat (trees (one_letter 65 ∷ one_letter 49 ∷ [])))
    × Is plain (codes "\\1011") (Cat (trees (one_letter 65 ∷ one_letter 49 ∷ [])))
    × Is plain (codes "\\x") (one_letter 120)
    × Is plain (codes "\\a\\b\\f\\n\\r\\t\\v")
    (Cat (trees
    (one_letter 7 ∷ one_letter 8 ∷ one_letter 12 ∷ one_letter 10 ∷ one_letter 13 ∷ one_letter 9 ∷ one_letter 11
    ∷ [])))
    × Is plain (codes "\\*") (one_letter 42)
    × Is plain (codes "\"a\\\"b\"") (Cat (trees (a ∷ one_letter 34 ∷ b ∷ [])))

-- `a`, also in quotes, and `[A-B]` stand for both cases where that is asked, and `[^a]` for neither
abbrev pub Folded : Type 0
Folded =
    Is folding (codes "a") (Set (2 ^ 65 + 2 ^ 97))
    × Is folding (codes "\"a\"") (Set (2 ^ 65 + 2 ^ 97))
    × Is folding (codes "[A-B]") (Set (2 ^ 65 + 2 ^ 66 + 2 ^ 97 + 2 ^ 98))
    × Is folding (codes "[^a]") (Set (complement (2 ^ 65 + 2 ^ 97)))

-- Series, choices and parentheses: an item binds tighter than a series, and a series than a choice.
abbrev pub Joined : Type 0
Joined =
    Is plain (codes "ab") ab
    × Is plain (codes "abc") (Cat (trees (a ∷ b ∷ c ∷ [])))
    × Is plain (codes "a|b") a_or_b
    × Is plain (codes "ab|c") (Alt (trees (ab ∷ c ∷ [])))
    × Is plain (codes "(a)") a
    × Is plain (codes "(ab)c") (Cat (trees (ab ∷ c ∷ [])))
    × Is plain (codes "(a|b)c") (Cat (trees (a_or_b ∷ c ∷ [])))

-- Operators apply to the item to their left.
abbrev pub Operators : Type 0
Operators =
    Is plain (codes "a*") (Star a)
    × Is plain (codes "a+") (Repeat a 1 None)
    × Is plain (codes "a?") (Repeat a 0 (Some 1))
    × Is plain (codes "ab*") (Cat (trees (a ∷ Star b ∷ [])))
    × Is plain (codes "(ab)*") (Star ab)
    × Is plain (codes "a|b*") (Alt (trees (a ∷ Star b ∷ [])))
    × Is plain (codes "a+*") (Star (Repeat a 1 None))

-- Intervals over items.
abbrev pub OverItems : Type 0
OverItems =
    Is plain (codes "a{2}") (Repeat a 2 (Some 2))
    × Is plain (codes "a{2,}") (Repeat a 2 None)
    × Is plain (codes "a{2,3}") (Repeat a 2 (Some 3))
    × Is plain (codes "ab{2}") (Cat (trees (a ∷ Repeat b 2 (Some 2) ∷ [])))
    × Is plain (codes "a*b{2}c") (Cat (trees (Star a ∷ Repeat b 2 (Some 2) ∷ c ∷ [])))

-- Intervals over series, which are one part from then on.
abbrev pub OverSeries : Type 0
OverSeries =
    Is over_series (codes "a{2}") (Repeat a 2 (Some 2))
    × Is over_series (codes "ab{2}") (Repeat ab 2 (Some 2))
    × Is over_series (codes "ab{2}*") (Star (Repeat ab 2 (Some 2)))
    × Is over_series (codes "ab{2}c") (Cat (trees (Repeat ab 2 (Some 2) ∷ c ∷ [])))
    × Is over_series (codes "c|ab{2}") (Alt (trees (c ∷ Repeat ab 2 (Some 2) ∷ [])))
    × Is over_series (codes "a*b") (Cat (trees (Star a ∷ b ∷ [])))

-- `{D-1}c`: a name stands for its text as if in parentheses.
abbrev pub Named : Type 0
Named =
    (definitions : Definitions) → get definitions (codes "D-1") ≡ Some (codes "a|b")
    → Spells plain definitions (codes "{D-1}c") (Cat (trees (a_or_b ∷ c ∷ [])))

-- a letter with so many `+`
abbrev pub signed_often : ℕ → List ℕ
signed_often n = codes "a" ++ replicate n 43

abbrev pub repeated_often : ℕ → Tree
repeated_often zero = a
repeated_often (suc n) = Repeat (repeated_often n) 1 None

-- a letter in so many parentheses
abbrev pub enclosed : ℕ → List ℕ
enclosed n = replicate n 40 ++ codes "a" ++ replicate n 41

-- An item has at most 64 operators, and at most 64 parentheses are open at one place.
abbrev pub Bounds : Type 0
Bounds =
    Is plain (signed_often 64) (repeated_often 64)
    × IsNone plain (signed_often 65)
    × Is plain (enclosed 64) a
    × IsNone plain (enclosed 65)

-- Nothing, an operator or a bar without an item, parentheses without others, an interval whose bounds are 0, out of
-- order, above 255 or without the first, a class and a text in quotes without an end, a range that is out of order, and
-- a blank outside quotes.
abbrev pub Refused : Type 0
Refused =
    IsNone plain []
    × IsNone plain (codes "*a")
    × IsNone plain (codes "a|")
    × IsNone plain (codes "|a")
    × IsNone plain (codes "(a")
    × IsNone plain (codes "a)")
    × IsNone plain (codes "()")
    × IsNone plain (codes "a{2,1}")
    × IsNone plain (codes "a{256}")
    × IsNone plain (codes "a{,2}")
    × IsNone plain (codes "a{0}")
    × IsNone plain (codes "[a")
    × IsNone plain (quote ++ codes "a")
    × IsNone plain (codes "[c-a]")
    × IsNone plain (codes "a b")

-- A class without an element, a complement without a byte, a name of no class, a class that is negated by its name, a
-- class of equal letters, a collating element, a range up to a class, an octal escape above 255, a backslash at the
-- end, a slash, a tab, and a newline: alone, behind a backslash, in quotes and in a class.
abbrev pub RefusedItems : Type 0
RefusedItems =
    IsNone plain (codes "[]")
    × IsNone plain (codes "[^\\0-\\377]")
    × IsNone plain (codes "[[:foo:]]")
    × IsNone plain (codes "[[:^digit:]]")
    × IsNone plain (codes "[[=a=]]")
    × IsNone plain (codes "[[.a.]]")
    × IsNone plain (codes "[a-[:digit:]]")
    × IsNone plain (codes "\\400")
    × IsNone plain backslash
    × IsNone plain (codes "a/b")
    × IsNone plain (codes "a\tb")
    × IsNone plain (codes "a\nb")
    × IsNone plain (codes "a\\\nb")
    × IsNone plain (codes "\"a\nb\"")
    × IsNone plain (codes "[a\n]")
