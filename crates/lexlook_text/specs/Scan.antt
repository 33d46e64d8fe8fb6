-- The first name of a text that is not among some words, outside of strings and comments. (POSIX, lex, Rules in lex.)
use Rattle.std.specs.Prelude.{ℕ, suc, ◌-◌, ◌==◌, ◌&&◌, ◌||◌, Bool, true, false, not, if◌then◌else◌, List, [], ◌∷◌, length, Option, Some, None, is_none}
use Rattle.std.specs.Option.{option_or}
use Rattle.lex_semantics.specs.Reading.{goes_on_name, starts_name}
use Rattle.lexspec_lines.specs.DefinitionLines.{has_name}
use Rattle.lexspec_lines.specs.Lines.{words}
use Rattle.lexlook_text.specs.Known.{front_name}
use Rattle.lexlook_text.specs.declared.scan.Cursor.{Cursor}
use Rattle.lexlook_text.specs.declared.scan.Place.{Place}
use Rattle.lexlook_text.specs.declared.scan.Place.TheVariants.{Outside, Slash, Block, Star, LineEnd, Quoted, Escaped}
use Rattle.lexlook_text.specs.declared.scan.Spot.{Spot}

-- where the byte behind this one stands: a quote is 34, a star 42, a slash 47 and a backslash 92
abbrev pub place_behind : Place → ℕ → Place
place_behind Outside b = if b == 47 then Slash else if b == 34 then Quoted else Outside
place_behind Slash b = if b == 42 then Block else if b == 47 then LineEnd else if b == 34 then Quoted else Outside
place_behind Block b = if b == 42 then Star else Block
place_behind Star b = if b == 47 then Outside else if b == 42 then Star else Block
place_behind LineEnd b = if b == 10 then Outside else LineEnd
place_behind Quoted b = if b == 34 then Outside else if b == 92 then Escaped else Quoted
place_behind Escaped b = Quoted

abbrev pub is_code : Place → Bool
is_code Outside = true
is_code Slash = true
is_code other = false

-- a newline may end an action there
abbrev pub ends_there : Place → Bool
ends_there LineEnd = true
ends_there place = is_code place

abbrev pub start_at : ℕ → ℕ → Cursor
start_at line at = record { place = Outside; fresh = true; depth = 0; line = line; at = at }

-- how many braces are open behind the byte
abbrev pub depth_behind : Cursor → ℕ → ℕ
depth_behind c b =
    if not (is_code c.place) then c.depth
    else if b == 123 then suc c.depth
    else if b == 125 then c.depth - 1
    else c.depth

abbrev pub past : Cursor → ℕ → Cursor
past c b = record {
  place = place_behind c.place b;
  fresh = not (goes_on_name b);
  depth = depth_behind c b;
  line = if b == 10 then suc c.line else c.line;
  at = if b == 10 then 0 else suc c.at;
}

-- the scan ends with the line of the text, but in braces, in strings and in comments `/* .. */`
abbrev pub ends_scan : Cursor → ℕ → Bool
ends_scan c b = (b == 10) && (c.depth == 0) && ends_there c.place

abbrev pub begins_name : Cursor → ℕ → Bool
begins_name c b = is_code c.place && c.fresh && starts_name b

-- the name is among these words, or those
abbrev pub is_among : List ℕ × List ℕ → List ℕ → Bool
is_among known name = has_name (words known.0) name || has_name (words known.1) name

-- the name that begins the text, whose first byte is this, where it is not among these words
abbrev pub unknown_at : List ℕ × List ℕ → Cursor → ℕ → List ℕ → Option Spot
unknown_at known c b text =
    if not (begins_name c b) || is_among known (front_name text) then None
    else Some (record { line = c.line; at = c.at; size = length (front_name text) })

-- the one that is met, where no more are to be passed over
abbrev pub met_last : Option Spot → ℕ → Option Spot
met_last met n = if n == 0 then met else None

-- so many more are to be passed over behind it
abbrev pub others_behind : Option Spot → ℕ → ℕ
others_behind met n = if is_none met then n else n - 1

-- the first of a text, but for n before it
abbrev pub unknown_from : List ℕ × List ℕ → ℕ → Cursor → List ℕ → Option Spot
unknown_from known n c [] = None
unknown_from known n c (b ∷ t) =
    if ends_scan c b then None
    else let met = unknown_at known c b (b ∷ t) in
    option_or (met_last met n) (unknown_from known (others_behind met n) (past c b) t)
