-- How much the turns ask of the source, when a scanner sees one byte at a time. (This project's; POSIX, lex, says only
-- which match is taken.)
use Rattle.std.specs.Prelude.{◌≡◌, ℕ, ◌+◌, ◌≤◌, ◌<◌, Bool, cond, List, length, take, drop, max, ◌⊎◌, ◌↔◌, Option, Some, None}
use Rattle.lex_semantics.specs.Text.{IsText, BeginsWith, at_line_start}
use Rattle.lex_semantics.specs.Rules.{Rules}
use Rattle.lex_semantics.specs.Acting.{Ending}
use Rattle.lex_semantics.specs.Run.{Place}

-- The source answers with each byte of the input, and then with its end. The turn at a place asks for answer i from
-- there: the first one, and each one after bytes that a longer match might begin with.
abbrev pub AsksAt : Rules → List ℕ → Place → ℕ → Type 0
AsksAt R x p i = (i ≡ 0) ⊎ R.live p.condition (at_line_start x p.at) (take i (drop p.at x))

-- the turn at a place asks for just the first r answers from there
abbrev pub Asks : Rules → List ℕ → Place → ℕ → Type 0
Asks R x p r = (i : ℕ) → (i < r) ↔ ((p.at + i ≤ length x) × AsksAt R x p i)

-- How many answers are asked for with the turn from a place, where it were so many before it. After the end of the scan
-- nothing is.
abbrev pub AsksFrom : Rules → List ℕ → Place → Option Ending → (before : ℕ) → ℕ → Type 0
AsksFrom R x p (Some e) before asked = asked ≡ before
AsksFrom R x p None before asked = (r : ℕ) × Asks R x p r × (asked ≡ max before (p.at + r))

-- how many answers a source has given: these bytes, and its end or not
abbrev pub answers : (given : List ℕ) → (at_end : Bool) → ℕ
answers given at_end = length given + cond at_end 1 0

-- An input is consistent with the bytes that the source gave: it is these bytes if the source has answered its
-- end, and else begins with them.
abbrev pub Consistent : (given : List ℕ) → (at_end : Bool) → List ℕ → Type 0
Consistent given at_end x = IsText x × cond at_end (x ≡ given) (BeginsWith x given)

-- this holds of each input that is consistent with them
abbrev pub OfEach : (given : List ℕ) → (at_end : Bool) → (List ℕ → Type 0) → Type 0
OfEach given at_end P = (x : List ℕ) → Consistent given at_end x → P x

-- A name that proofs have for the second part of what is consistent.
abbrev pub ExtendsGiven : (given : List ℕ) → (at_end : Bool) → List ℕ → Type 0
ExtendsGiven given at_end x = cond at_end (x ≡ given) (BeginsWith x given)
