-- A scan goes on by a byte, and by no more than one in each count.
use Rattle.std.proofs.Common.{◌≡◌, ◌∙◌, ℕ, suc, ◌-◌, ◌≤◌, ◌==◌, Bool, true, false, not, if◌then◌else◌, List, ◌∷◌, Option, Some, refl, sym, subst, arith}
use Rattle.std.specs.Option.{option_or}
use Rattle.lexlook_text.specs.Formats.{format_behind, format_from, is_bad}
use Rattle.lexlook_text.specs.Opened.{opened_from, opening_behind, stops_at}
use Rattle.lexlook_text.specs.Scan.{ends_scan, is_code, past}
use Rattle.lexlook_text.specs.declared.formats.Formats.{Formats}
use Rattle.lexlook_text.specs.declared.opened.Openings.{Openings}
use Rattle.lexlook_text.specs.declared.scan.Cursor.{Cursor}
use Rattle.lexlook_text.specs.declared.scan.Spot.{Spot}

deeper : (d : ℕ) (code opens closes : Bool) → (if not code then d else if opens then suc d else if closes then d - 1 else d) ≤ suc d
deeper d false opens closes = omega arith
deeper d true true closes = omega arith
deeper d true false true = omega arith
deeper d true false false = omega arith

further : (n : ℕ) (ends : Bool) → (if ends then suc n else n) ≤ suc n
further n true = omega arith
further n false = omega arith

along : (n : ℕ) (ends : Bool) → (if ends then 0 else suc n) ≤ suc n
along n true = omega arith
along n false = omega arith

pub depth_grows : (c : Cursor) (b : ℕ) → (past c b).depth ≤ suc c.depth
depth_grows c b = deeper c.depth (is_code c.place) (b == 123) (b == 125)

pub line_grows : (c : Cursor) (b : ℕ) → (past c b).line ≤ suc c.line
line_grows c b = further c.line (b == 10)

pub at_grows : (c : Cursor) (b : ℕ) → (past c b).at ≤ suc c.at
at_grows c b = along c.at (b == 10)

else_of : (b : Bool) (x y : Option Spot) → b ≡ false → (if b then x else y) ≡ y
else_of true x y e = absurd cc
else_of false x y e = refl

-- what is open behind a byte that does not stop the scan is what is open there
pub opened_on : (o : Openings) (b : ℕ) (t rest : List ℕ) → rest ≡ b ∷ t → stops_at o.cursor b ≡ false → opened_from o rest ≡ opened_from (opening_behind o b) t
opened_on o b t rest is goes =
    subst (λ (r : List ℕ). opened_from o r ≡ opened_from (opening_behind o b) t) (sym is)
    (else_of (stops_at o.cursor b) (option_or o.text o.brace) (opened_from (opening_behind o b) t) goes)

-- the first that is not read is behind one that is
pub formats_on : (f : Formats) (b : ℕ) (t rest : List ℕ) → rest ≡ b ∷ t → ends_scan f.cursor b ≡ false → is_bad f b t ≡ false → format_from f rest ≡ format_from (format_behind f b t) t
formats_on f b t rest is goes good =
    subst (λ (r : List ℕ). format_from f r ≡ format_from (format_behind f b t) t) (sym is)
    (else_of (ends_scan f.cursor b) _ _ goes ∙ else_of (is_bad f b t) _ _ good)
