-- Worked examples of texts without a cutting, each with its first fault and the offset of that. (Which fault is told is
-- this project's.)
use Rattle.std.specs.Prelude.{◌≡◌, ℕ, List, Some, None, codes}
use Rattle.lexre_bytes.specs.declared.error.PatternErrorKind.{PatternErrorKind}
use Rattle.lexre_bytes.specs.declared.error.PatternErrorKind.TheVariants.{UnclosedQuote, UnclosedClass, BadEscape, MisplacedSlash}
use Rattle.lexre.specs.CuttingFaults.{cutting_fault}

abbrev pub Tells : List ℕ → PatternErrorKind → ℕ → Type 0
Tells text kind at = cutting_fault text ≡ Some (record { kind = kind; at = at })

-- A quote and a class without an end, also where a range is out of order in it. A bad escape alone, at the end, in
-- quotes, in a class, and as the end of a range. A backslash between brackets is no escape. A slash inside parentheses.
abbrev pub OneFault : Type 0
OneFault =
    Tells (codes "a\"b c") UnclosedQuote 1
    × Tells (codes "a[b c") UnclosedClass 1
    × Tells (codes "[z-a") UnclosedClass 0
    × Tells (codes "[]") UnclosedClass 0
    × Tells (codes "a\\400") BadEscape 1
    × Tells (codes "a\\") BadEscape 1
    × Tells (codes "\"a\\400\"") BadEscape 2
    × Tells (codes "[^a\\400]") BadEscape 3
    × Tells (codes "[a-\\400]") BadEscape 3
    × Tells (codes "[[=\\400=]") UnclosedClass 0
    × Tells (codes "(a/b)") MisplacedSlash 2

-- Of two faults the first is told: a slash before a quote and behind it, an escape before the end of its quotes, and a
-- quote before a class.
abbrev pub TwoFaults : Type 0
TwoFaults =
    Tells (codes "(a/\"b") MisplacedSlash 2
    × Tells (codes "(\"b/a") UnclosedQuote 1
    × Tells (codes "\"a\\400") BadEscape 2
    × Tells (codes "\"a[b") UnclosedQuote 0

-- A closing parenthesis with none open counts for nothing, a `/` in quotes or in a class is no slash, and the pattern
-- ends at the first blank.
abbrev pub NoFault : Type 0
NoFault =
    (cutting_fault (codes "(a))/b") ≡ None)
    × (cutting_fault (codes "(\"/\"[/])") ≡ None)
    × (cutting_fault (codes "a \"") ≡ None)
