-- `<<EOF>>` rules without a condition list that serve no condition, since each has one of its own. (flex, End-of-File
-- Rules: one without a list is for the conditions that have none. flex 2.6.4, as it was tried: docs/MANUAL.md,
-- Differences from lex and flex.)
use Rattle.std.specs.Prelude.{ℕ, ◌==◌, ◌&&◌, ◌||◌, Bool, true, false, not, if◌then◌else◌, List, [], ◌∷◌, flat_map, drop, Option, Some, None, codes}
use Rattle.std.specs.List.{list_all, list_any}
use Rattle.std.specs.Option.{option_map_or}
use Rattle.lex_semantics.specs.ByteSets.{same_bytes}
use Rattle.lex_semantics.specs.Reading.{begins}
use Rattle.lex_semantics.specs.Spec.{Condition}
use Rattle.lexspec_lines.specs.Runs.{split_before}
use Rattle.lexlook_check.specs.LineWalks.{behind_list}
use Rattle.lexlook_check.specs.declared.notices.Notice.{Notice}
use Rattle.lexlook_check.specs.declared.notices.NoticeKind.TheVariants.{IdleEnd}

-- the condition list of the `<<EOF>>` rule that begins the text, from its `<` to its `>` (62), where it has one
abbrev pub end_list : List ℕ → Option (List ℕ)
end_list text =
    if begins (codes "<") text && not (begins (codes "<<") text) && begins (codes "<<EOF>>") (behind_list text)
    then Some (split_before (λ b. b == 62 || b == 10) (drop 1 text)).0
    else None

-- the name stands between two commas (44) of a list, or its ends; `fresh` where one of these stands before it
abbrev pub is_listed : List ℕ → Bool → List ℕ → Bool
is_listed name fresh [] = false
is_listed name fresh (c ∷ t) =
    (fresh && same_bytes (split_before (λ b. b == 44) (c ∷ t)).0 name) || is_listed name (c == 44) t

-- the list has the condition: all, by `*`, or its name
abbrev pub lists : List ℕ → List ℕ → Bool
lists name list = same_bytes list (codes "*") || is_listed name true list

-- an `<<EOF>>` rule at one of these lines lists the condition
abbrev pub has_own : List (ℕ × List ℕ) → List ℕ → Bool
has_own lines name = list_any (λ l. option_map_or (lists name) (end_list l.1) false) lines

-- so it is with each of these conditions
abbrev pub have_own : List (ℕ × List ℕ) → List Condition → Bool
have_own lines conditions = list_all (λ k. has_own lines k.name) conditions

-- the `<<EOF>>` of a rule without a list, which begins a line, where no condition is left for it
abbrev pub idle_notices : Bool → ℕ × List ℕ → List Notice
idle_notices own l =
    if own && begins (codes "<<EOF>>") l.1 then record { line = l.0; at = 0; size = 7; kind = IdleEnd } ∷ [] else []

-- of a text with these lines and conditions
abbrev pub idle_ends : List (ℕ × List ℕ) → List Condition → List Notice
idle_ends lines conditions = flat_map (idle_notices (have_own lines conditions)) lines
