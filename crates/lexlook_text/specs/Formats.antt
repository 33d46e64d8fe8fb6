-- Where the format of a printf has what is not read: it has `%s` once, and `%%`. (POSIX, fprintf; what is read is this
-- project's.)
use Rattle.std.specs.Prelude.{ℕ, ◌-◌, ◌==◌, ◌&&◌, ◌||◌, Bool, true, false, not, if◌then◌else◌, List, [], ◌∷◌, length, Option, Some, None, codes}
use Rattle.lex_semantics.specs.ByteSets.{same_bytes}
use Rattle.lex_semantics.specs.Reading.{begins}
use Rattle.lexlook_text.specs.Known.{front_name}
use Rattle.lexlook_text.specs.Pieces.{behind_pattern}
use Rattle.lexlook_text.specs.Scan.{begins_name, ends_scan, past, start_at}
use Rattle.lexlook_text.specs.declared.formats.Formats.{Formats}
use Rattle.lexlook_text.specs.declared.scan.Place.{Place}
use Rattle.lexlook_text.specs.declared.scan.Place.TheVariants.{Quoted}
use Rattle.lexlook_text.specs.declared.scan.Spot.{Spot}

abbrev pub is_quoted : Place → Bool
is_quoted Quoted = true
is_quoted other = false

-- a `%` (37) that begins what is written in place of it and the next byte
abbrev pub begins_directive : Formats → ℕ → Bool
begins_directive f b = f.format && is_quoted f.cursor.place && b == 37 && not f.percent

-- such a `%` with this text behind it is not read
abbrev pub is_bad : Formats → ℕ → List ℕ → Bool
is_bad f b t = begins_directive f b && not (begins (codes "%") t || (begins (codes "s") t && not f.text))

-- strings behind the byte that begins the text are formats, if the last name before them is printf
abbrev pub is_format : Formats → ℕ → List ℕ → Bool
is_format f b text = if begins_name f.cursor b then same_bytes (front_name text) (codes "printf") else f.format

-- a `%s` stands in one before the text behind the byte
abbrev pub has_text : Formats → ℕ → List ℕ → Bool
has_text f b t = not (begins_name f.cursor b) && (f.text || (begins_directive f b && begins (codes "s") t))

-- where the scan stands behind a byte that has this text behind it
abbrev pub format_behind : Formats → ℕ → List ℕ → Formats
format_behind f b t = record {
  cursor = past f.cursor b;
  format = is_format f b (b ∷ t);
  text = has_text f b t;
  percent = begins_directive f b;
}

-- the first of a text
abbrev pub format_from : Formats → List ℕ → Option Spot
format_from f [] = None
format_from f (b ∷ t) =
    if ends_scan f.cursor b then None
    else if is_bad f b t then Some (record { line = f.cursor.line; at = f.cursor.at; size = 2 })
    else format_from (format_behind f b t) t

-- the same of the action of the rule that begins a line
abbrev pub format_spot : ℕ × List ℕ → Option Spot
format_spot l =
    let rest = behind_pattern 0 l.1 in
    format_from
    (record { cursor = start_at l.0 (length l.1 - length rest); format = false; text = false; percent = false }) rest
