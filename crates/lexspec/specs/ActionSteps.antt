-- The text of an action, byte by byte, as the code reads it.
use Rattle.std.specs.Prelude.{ℕ, zero, suc, ◌-◌, ◌&&◌, ◌||◌, ◌==◌, if◌then◌else◌, List, [], ◌∷◌, Option, Some, None}
use Rattle.lexspec_actions.specs.ByteSteps as Comments
use Rattle.lexspec_actions.specs.ByteSteps.{slash, line, after_byte}

-- where an action stands: in or outside comments of C, in a string, or after a backslash in one
pub data ActionPlace : Type 0 where
  code : Comments.BytePlace → ActionPlace
  string : ActionPlace
  escaped : ActionPlace

abbrev pub outside : ActionPlace
outside = code Comments.outside

abbrev pub with_byte : ℕ → Option (List ℕ × List ℕ) → Option (List ℕ × List ℕ)
with_byte c None = None
with_byte c (Some found) = Some (c ∷ found.0, found.1)

-- outside all, at a byte that opens no comment
abbrev pub next_place : ℕ → ActionPlace
next_place c = if c == 34 then string else code (after_byte Comments.outside c)

abbrev pub depth_after : ℕ → ℕ → ℕ
depth_after n c = if c == 123 then suc n else if c == 125 then n - 1 else n

-- the action up to the first newline outside strings, comments and n open braces, or to the end, and what follows that
-- newline
abbrev pub action_in : ActionPlace → ℕ → List ℕ → Option (List ℕ × List ℕ)
action_in (code Comments.outside) zero [] = Some ([], [])
action_in (code slash) zero [] = Some ([], [])
action_in (code line) zero [] = Some ([], [])
action_in p n [] = None
action_in (code Comments.outside) n (c ∷ t) =
    if c == 10 && n == 0 then Some ([], t) else with_byte c (action_in (next_place c) (depth_after n c) t)
action_in (code slash) n (c ∷ t) =
    if c == 42 || c == 47 then with_byte c (action_in (code (after_byte slash c)) n t)
    else if c == 10 && n == 0 then Some ([], t)
    else with_byte c (action_in (next_place c) (depth_after n c) t)
action_in (code line) n (c ∷ t) =
    if c == 10 && n == 0 then Some ([], t) else with_byte c (action_in (code (after_byte line c)) n t)
action_in (code p) n (c ∷ t) = with_byte c (action_in (code (after_byte p c)) n t)
action_in string n (c ∷ t) =
    if c == 10 then None
    else with_byte c (action_in (if c == 34 then outside else if c == 92 then escaped else string) n t)
action_in escaped n (c ∷ t) = if c == 10 then None else with_byte c (action_in string n t)
