-- When an input may be cut after any newline, and its pieces scanned apart. (This project's.)
use Rattle.std.specs.Prelude.{◌≡◌, ℕ, ◌≤◌, ◌<◌, Bool, true, false, not, ◌&&◌, ◌||◌, nat_eq, List, [], ◌∷◌, ◌++◌, ◌⊎◌}
use Rattle.std.specs.List.{list_any}
use Rattle.lex_semantics.specs.Text.{IsText, Among}
use Rattle.lex_semantics.specs.Spec.{Cut, Whole, Trail, Statement, Begin, More, End, Push, Pop, has_reject}
use Rattle.lex_semantics.specs.Rules.{Rules}
use Rattle.lex_semantics.specs.Machine.{Machine, walk, state_after}
use Rattle.lex_semantics.specs.Acting.{Ending}
use Rattle.lex_semantics.specs.Run.{Run}

-- The run over two pieces, the first of which ends with a newline, writes what the runs over each of them write, and
-- ends as the second one does.
abbrev pub ScansApart : Rules → Type 0
ScansApart R =
    (x y v w : List ℕ) (d e : Ending) → IsText x → IsText y → Run R (x ++ 10 ∷ []) v d → Run R y w e
    → Run R ((x ++ 10 ∷ []) ++ y) (v ++ w) e

-- the last byte of a match may be one of its text (flex, Patterns: trailing context)
abbrev pub may_keep_last : Cut → Bool
may_keep_last (Trail n) = nat_eq n 0
may_keep_last other = true

-- it ends the scan, or uses the stack of conditions (flex, Actions and Start Conditions)
abbrev pub is_unsteady : Statement → Bool
is_unsteady (End status) = true
is_unsteady (Push d) = true
is_unsteady Pop = true
is_unsteady other = false

abbrev pub is_begin : Statement → Bool
is_begin (Begin d) = true
is_begin other = false

-- it begins INITIAL
abbrev pub is_home : Statement → Bool
is_home (Begin d) = nat_eq d 0
is_home other = false

-- it begins another condition, or keeps the text for the next match
abbrev pub strays : Statement → Bool
strays (Begin d) = not (nat_eq d 0)
strays More = true
strays other = false

-- An action neither ends the scan nor uses the stack of conditions, and sets no condition where it has REJECT.
abbrev pub is_steady : List Statement → Bool
is_steady ss = not (list_any is_unsteady ss) && not (list_any is_begin ss && has_reject ss)

-- An action that takes a newline in condition c leaves the scan in INITIAL, with no text kept by yymore.
abbrev pub leaves_line : ℕ → List Statement → Bool
leaves_line c ss = (nat_eq c 0 || list_any is_home ss) && not (list_any strays ss)

-- after the newline that ends this text
abbrev pub after_line : Machine → ℕ → Bool → List ℕ → ℕ
after_line M c line w = state_after M c line (w ++ 10 ∷ [])

-- each rule that takes the newline after this text leaves the scan in INITIAL
abbrev pub EndsLineAfter : Machine → ℕ → Bool → List ℕ → Type 0
EndsLineAfter M c line w =
    (i : ℕ) → Among (M.accepts (after_line M c line w)) i → may_keep_last (M.cut i) ≡ true
    → leaves_line c (M.statements i) ≡ true

-- a newline alone is taken by some rule, and not by the default rule (POSIX, Actions in lex)
pub record TakesLine (M : Machine) (c : ℕ) (line : Bool) : Type 0 where
  pub rule : ℕ
  pub accepted : Among (M.accepts (after_line M c line [])) rule
  pub whole : M.cut rule ≡ Whole
  pub stays : has_reject (M.statements rule) ≡ false

-- each match of the rule is discarded, with all of its text (flex, Actions: an empty action)
abbrev pub Discards : Machine → ℕ → Type 0
Discards M i = (M.cut i ≡ Whole) × (M.statements i ≡ [])

-- so is each match of the rules that are accepted in this state or further on
abbrev pub AllDiscard : Machine → ℕ → Type 0
AllDiscard M s = (u : List ℕ) (i : ℕ) → IsText u → Among (M.accepts (walk M s u)) i → Discards M i

-- Where a match goes on from this state by this byte, it goes on as one that starts at a line in INITIAL.
abbrev pub StartsAgainBy : Machine → ℕ → ℕ → Type 0
StartsAgainBy M s b =
    (u : List ℕ) (i : ℕ) → IsText u → Among (M.accepts (walk M s (b ∷ u))) i
    → M.next s b ≡ M.next (M.start 0 true) b

-- A match is taken in the state after a newline in INITIAL. It is discarded, and so is each one that goes on there:
-- what it takes then a match takes that starts there.
pub record DiscardsLine (M : Machine) (c s : ℕ) : Type 0 where
  pub initial : c ≡ 0
  pub taken : (i : ℕ) × Among (M.accepts s) i
  pub discards : AllDiscard M s
  pub again : (b : ℕ) → b < 256 → StartsAgainBy M s b

-- no match goes on from the state after a newline, or each one there is discarded
abbrev pub EndsAt : Machine → ℕ → ℕ → Type 0
EndsAt M c s = (M.goes_on s ≡ false) ⊎ DiscardsLine M c s

-- In a condition no match goes on after a newline, but where it is discarded. And where a rule takes a newline the scan
-- is in INITIAL then.
pub record LinesEnd (M : Machine) (c : ℕ) : Type 0 where
  pub stops : (line : Bool) (w : List ℕ) → IsText w → EndsAt M c (after_line M c line w)
  pub ends : (line : Bool) (w : List ℕ) → IsText w → EndsLineAfter M c line w
  pub takes : (line : Bool) → 1 ≤ c → TakesLine M c line

-- Each line is scanned for itself.
pub record KeepsLines (M : Machine) : Type 0 where
  pub steady : (i : ℕ) → i < M.count → is_steady (M.statements i) ≡ true
  pub lines : (c : ℕ) → c < M.conditions → LinesEnd M c
  -- at the end of a piece nothing is written (flex, End-of-File Rules)
  pub silent : (M.ending 0).print ≡ []
