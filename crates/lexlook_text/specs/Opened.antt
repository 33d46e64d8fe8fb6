-- Where what has no end was opened: a string, a comment or a brace of an action. (POSIX, lex, Actions in lex.)
use Rattle.std.specs.Prelude.{ℕ, ◌-◌, ◌==◌, ◌&&◌, ◌||◌, nat_le, Bool, true, false, not, if◌then◌else◌, List, [], ◌∷◌, length, Option, Some, None, codes}
use Rattle.std.specs.Option.{option_or}
use Rattle.lex_semantics.specs.Reading.{begins}
use Rattle.lexlook_text.specs.Pieces.{behind_pattern}
use Rattle.lexlook_text.specs.Scan.{ends_scan, is_code, past, place_behind, start_at}
use Rattle.lexlook_text.specs.declared.opened.Openings.{Openings}
use Rattle.lexlook_text.specs.declared.scan.Cursor.{Cursor}
use Rattle.lexlook_text.specs.declared.scan.Place.{Place}
use Rattle.lexlook_text.specs.declared.scan.Place.TheVariants.{Slash, Quoted, Escaped}
use Rattle.lexlook_text.specs.declared.scan.Spot.{Spot}

abbrev pub is_slash : Place → Bool
is_slash Slash = true
is_slash other = false

abbrev pub is_string : Place → Bool
is_string Quoted = true
is_string Escaped = true
is_string other = false

-- so many bytes that end with the one of a cursor
abbrev pub spot_up_to : Cursor → ℕ → Spot
spot_up_to c size = record { line = c.line; at = c.at - (size - 1); size = size }

-- what opens a string (34) or a comment (`/` and 42) with this byte
abbrev pub opened_by : Cursor → ℕ → Option Spot
opened_by c b =
    if b == 34 then Some (spot_up_to c 1) else if is_slash c.place && b == 42 then Some (spot_up_to c 2) else None

-- the string or comment that is open behind the byte
abbrev pub text_behind : Openings → ℕ → Option Spot
text_behind o b =
    if is_code o.cursor.place then opened_by o.cursor b
    else if is_code (place_behind o.cursor.place b) then None
    else o.text

-- the outermost brace (123, 125) that is open behind it
abbrev pub brace_behind : Openings → ℕ → Option Spot
brace_behind o b =
    if not (is_code o.cursor.place) then o.brace
    else if b == 123 && o.cursor.depth == 0 then Some (spot_up_to o.cursor 1)
    else if b == 125 && nat_le o.cursor.depth 1 then None
    else o.brace

abbrev pub opening_behind : Openings → ℕ → Openings
opening_behind o b = record { cursor = past o.cursor b; text = text_behind o b; brace = brace_behind o b }

-- a string ends with its line, and so does an action outside of braces
abbrev pub stops_at : Cursor → ℕ → Bool
stops_at c b = (b == 10 && is_string c.place) || ends_scan c b

-- where in the text what has no end was opened
abbrev pub opened_from : Openings → List ℕ → Option Spot
opened_from o [] = option_or o.text o.brace
opened_from o (b ∷ t) =
    if stops_at o.cursor b then option_or o.text o.brace else opened_from (opening_behind o b) t

-- the same of a line: a block or a comment that it begins with, or something in the action of its rule
abbrev pub unclosed_spot : ℕ × List ℕ → Option Spot
unclosed_spot l =
    if begins (codes "%{") l.1 || begins (codes "/*") l.1 then Some (record { line = l.0; at = 0; size = 2 })
    else let rest = behind_pattern 0 l.1 in
    opened_from (record { cursor = start_at l.0 (length l.1 - length rest); text = None; brace = None }) rest
