-- Conditions in which the default rule copies a byte, where none is to be copied. (flex, Scanner Options: -s; that it
-- is told of each condition is this project's.)
use Rattle.std.specs.Prelude.{◌≡◌, ℕ, suc, ◌<◌, ◌==◌, ◌&&◌, ◌||◌, Bool, true, if◌then◌else◌, List, [], ◌∷◌, ◌++◌, length, Option, Some, None, slice_get, unwrap_or}
use Rattle.lex_semantics.specs.Spec.{Spec, Rule, Condition}
use Rattle.lexlook_specs.specs.Copied.{CopiesByte}
use Rattle.lexlook_specs.specs.Matches.{matches_of}
use Rattle.lexlook_text.specs.DeclaredNames.{declared_conditions, first_named}
use Rattle.lexspec_lines.specs.Lines.{without_returns}
use Rattle.lexlook_check.specs.Conditions.{is_entered}
use Rattle.lexlook_check.specs.Findings.{known_lines}
use Rattle.lexlook_check.specs.declared.findings.Finding.{Finding}
use Rattle.lexlook_check.specs.declared.findings.What.TheVariants.{Copied}

-- a match may be made in the condition with this number: it is INITIAL, which has the number 0, or some action enters
-- it
abbrev pub is_met : List Rule → ℕ → Bool
is_met rules n = n == 0 || is_entered rules n

-- the first byte that the default rule copies in it, if a match may be made there; `copied` has that byte of each
-- condition
abbrev pub met_byte : List Rule → List (Option ℕ) → ℕ → Option ℕ
met_byte rules copied n = if is_met rules n then unwrap_or (slice_get copied n) None else None

-- that this byte is copied, at the name of the condition, or of INITIAL, which no line declares, at line 0
abbrev pub copy_at : Option (ℕ × ℕ × List ℕ) → ℕ → Finding
copy_at None byte = record { line = 0; at = None; size = 1; what = Copied byte }
copy_at (Some p) byte = record { line = p.0; at = Some p.1; size = length p.2; what = Copied byte }

-- the same of a byte that may be none
abbrev pub copies_at : Option (ℕ × ℕ × List ℕ) → Option ℕ → List Finding
copies_at place None = []
copies_at place (Some byte) = copy_at place byte ∷ []

-- of these conditions, of which the first has the number n: each in which a match may be made and a byte is copied
abbrev pub copies_from : List Rule → List (Option ℕ) → List (ℕ × ℕ × List ℕ) → ℕ → List Condition → List Finding
copies_from rules copied places n [] = []
copies_from rules copied places n (k ∷ ks) =
    copies_at (first_named k.name places) (met_byte rules copied n) ++ copies_from rules copied places (suc n) ks

-- of all conditions of the specification that this text spells
abbrev pub copies_in : Spec → List (Option ℕ) → List ℕ → List Finding
copies_in S copied text =
    copies_from S.rules copied (declared_conditions (known_lines (without_returns text))) 0 S.conditions

-- the same where that is asked for, and no rule was left out as faulty: such a rule may enter a condition or keep a
-- byte
abbrev pub asked_copies : Bool → Bool → Spec → List (Option ℕ) → List ℕ → List Finding
asked_copies strict faultless S copied text = if strict && faultless then copies_in S copied text else []

-- the bytes of which is warned in exclusive conditions: none where each is told so
abbrev pub warned_bytes : Bool → List (Option ℕ) → List (Option ℕ)
warned_bytes strict copied = if strict then [] else copied

-- in no condition in which a match may be made the default rule copies a byte
abbrev pub CopiesNothing : Spec → Type 0
CopiesNothing S =
    (n b : ℕ) → n < length S.conditions → is_met S.rules n ≡ true → b < 256 → CopiesByte (matches_of S) n b → ⊥
