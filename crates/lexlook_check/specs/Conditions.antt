-- Conditions that nothing enters, that nothing leaves, and exclusive ones in which the default rule copies.
-- (flex, Start Conditions; that they are warned of is this project's, and of the default rule flex tells by -s.)
use Rattle.std.specs.Prelude.{ℕ, ◌==◌, ◌&&◌, Bool, true, false, not, if◌then◌else◌, List, [], ◌∷◌, ◌++◌, flat_map, map, length, slice_get, Option, Some, None, option_map, unwrap_or}
use Rattle.std.specs.List.{list_any}
use Rattle.std.specs.Option.{option_map_or}
use Rattle.lex_semantics.specs.Active.{serves}
use Rattle.lex_semantics.specs.Spec.{Spec, Rule, Condition, Statement, Begin, Push, Pop, End}
use Rattle.lexspec_actions.specs.Names.{number_from}
use Rattle.lexspec_lines.specs.Lines.{without_returns}
use Rattle.lexlook_text.specs.DeclaredNames.{declared_conditions}
use Rattle.lexlook_check.specs.Findings.{known_lines}
use Rattle.lexlook_check.specs.declared.notices.Notice.{Notice}
use Rattle.lexlook_check.specs.declared.notices.NoticeKind.{NoticeKind}
use Rattle.lexlook_check.specs.declared.notices.NoticeKind.TheVariants.{DefaultRule, NeverEntered, NeverLeft}

-- the statement enters the condition with this number
abbrev pub leads_in : ℕ → Statement → Bool
leads_in n (Begin m) = m == n
leads_in n (Push m) = m == n
leads_in n other = false

-- it leads out of this condition: into another, back to the one below on the stack, or to the end of the scan
abbrev pub leads_out : ℕ → Statement → Bool
leads_out n (Begin m) = not (m == n)
leads_out n (Push m) = not (m == n)
leads_out n Pop = true
leads_out n (End status) = true
leads_out n other = false

-- the action of some rule enters the condition
abbrev pub is_entered : List Rule → ℕ → Bool
is_entered rules n = list_any (λ r. list_any (leads_in n) r.statements) rules

-- the action of some rule that is active in this condition leads out of it
abbrev pub is_left : List Rule → ℕ → Option Condition → Bool
is_left rules n k = list_any (λ r. serves r.conditions n k && list_any (leads_out n) r.statements) rules

-- what is warned of of a condition, by whether some action enters it, and whether one leads out of it
abbrev pub notice_if : Bool → Bool → Option NoticeKind
notice_if entered left = if not entered then Some NeverEntered else if not left then Some NeverLeft else None

-- the same of the condition with this number
abbrev pub condition_notice : Spec → ℕ → Option NoticeKind
condition_notice S n = notice_if (is_entered S.rules n) (is_left S.rules n (slice_get S.conditions n))

abbrev pub is_exclusive : Option Condition → Bool
is_exclusive k = option_map_or (λ k. k.exclusive) k false

-- this byte is warned of in an exclusive condition that some action enters
abbrev pub copy_if : Bool → Bool → Option ℕ → Option NoticeKind
copy_if exclusive entered byte = if exclusive && entered then option_map DefaultRule byte else None

-- The default rule copies a byte in it, where it is exclusive and entered. `copied` has the first such byte of each
-- condition, by its number.
abbrev pub copied_notice : Spec → List (Option ℕ) → ℕ → Option NoticeKind
copied_notice S copied n =
    copy_if (is_exclusive (slice_get S.conditions n)) (is_entered S.rules n) (unwrap_or (slice_get copied n) None)

-- what is warned of of a condition at its name, which has this line and so many bytes of that before it
abbrev pub placed_notices : ℕ × ℕ × List ℕ → Option NoticeKind → List Notice
placed_notices p None = []
placed_notices p (Some kind) = record { line = p.0; at = p.1; size = length p.2; kind = kind } ∷ []

-- of the condition with this number, where there is one
abbrev pub numbered_notices : Spec → List (Option ℕ) → ℕ × ℕ × List ℕ → Option ℕ → List Notice
numbered_notices S copied p None = []
numbered_notices S copied p (Some n) =
    placed_notices p (condition_notice S n) ++ placed_notices p (copied_notice S copied n)

-- of the condition that is declared at this place
abbrev pub declared_notices : Spec → List (Option ℕ) → ℕ × ℕ × List ℕ → List Notice
declared_notices S copied p = numbered_notices S copied p (number_from 0 (map (λ k. k.name) S.conditions) p.2)

-- of all conditions of a specification, in the order in which this text declares them
abbrev pub condition_notices : Spec → List (Option ℕ) → List ℕ → List Notice
condition_notices S copied text =
    flat_map (declared_notices S copied) (declared_conditions (known_lines (without_returns text)))

-- the same where no rule was left out as faulty: such a rule may enter or leave a condition
abbrev pub faultless_notices : Bool → Spec → List (Option ℕ) → List ℕ → List Notice
faultless_notices faultless S copied text = if faultless then condition_notices S copied text else []
