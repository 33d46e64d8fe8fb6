-- Which rules are active. (POSIX, lex, Definitions in lex and Regular Expressions in lex: start conditions and `^`;
-- flex, Start Conditions: `<*>`.)
use Rattle.std.specs.Prelude.{ℕ, Bool, false, not, ◌&&◌, ◌||◌, ◌==◌, List, Option, slice_get}
use Rattle.std.specs.List.{list_any}
use Rattle.std.specs.Option.{option_map_or}
use Rattle.lex_semantics.specs.Spec.{Spec, Rule, Condition}

-- whether a number is in the list
abbrev pub contains : List ℕ → ℕ → Bool
contains cs c = list_any (λ d. d == c) cs

-- A rule with a list is active in just the conditions there, and one without in the inclusive ones. (POSIX, start
-- conditions.) With `^` it is so only at the start of a line.
abbrev pub active : Spec → ℕ → Bool → Rule → Bool
active S c line_start r =
    option_map_or (λ l. contains l c) r.conditions
    (option_map_or (λ k. not k.exclusive) (slice_get S.conditions c) false)
    && (not r.anchored || line_start)

-- A name that the code has for the first part of this.
abbrev pub serves : Option (List ℕ) → ℕ → Option Condition → Bool
serves list c k = option_map_or (λ cs. contains cs c) list (option_map_or (λ k. not k.exclusive) k false)
