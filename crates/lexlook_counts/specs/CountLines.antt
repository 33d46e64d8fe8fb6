-- The lines in which counts are told: in columns, or as JSON. (This project's; JSON: RFC 8259.)
use Rattle.std.specs.Prelude.{ℕ, ◌+◌, ◌-◌, max, fold, ◌==◌, ◌&&◌, Bool, if◌then◌else◌, List, [], ◌∷◌, ◌++◌, length, take, codes, decimal, flat_map, slice_index, slice_index_or, Option, Some, None, unwrap_or}
use Rattle.std.specs.List.{concat, range_with_len}
use Rattle.lexlook_counts.specs.Counts.{capped}
use Rattle.lexlook_counts.specs.GivenUp.{given_where}
use Rattle.lexlook_counts.specs.declared.counting.Counted.{Counted}
use Rattle.lexlook_counts.specs.declared.lines.CountForm.{CountForm}
use Rattle.lexlook_counts.specs.declared.lines.CountForm.TheVariants as forms
use Rattle.lexlook_counts.specs.declared.lines.LineKind.{LineKind}
use Rattle.lexlook_counts.specs.declared.lines.LineKind.TheVariants as kinds
use Rattle.lexlook_counts.specs.declared.lines.Subject.{Subject}
use Rattle.lexlook_counts.specs.declared.lines.Subject.TheVariants.{AllRules, DefaultRule, Line}
use Rattle.lexlook_counts.specs.declared.tally.RuleCount.{RuleCount}
use Rattle.lexlook_counts.specs.declared.tally.Tally.{Tally}

-- a number at the right of a column of 12 places, and a blank
abbrev pub column : ℕ → List ℕ
column n = concat (take (12 - length (decimal n)) (codes "            ") ∷ decimal n ∷ codes " " ∷ [])

-- of which rule a line is: the one at this line of the file, the default rule, or all of them
abbrev pub counted_subject : LineKind → Subject → List ℕ
counted_subject kinds.Json (Line line) = codes "\"line\":" ++ decimal line
counted_subject kinds.Json DefaultRule = codes "\"rule\":\"default\""
counted_subject kinds.Json AllRules = codes "\"rule\":\"all\""
counted_subject kind (Line line) = codes "line " ++ decimal line
counted_subject kind DefaultRule = codes "default rule"
counted_subject kind AllRules = codes "all"

-- how many bytes were looked at behind texts, and how often the rule was given up, where some rule has REJECT
abbrev pub last_columns : ℕ → Option ℕ → List ℕ
last_columns beyond None = column beyond
last_columns beyond (Some given_up) = column beyond ++ column given_up

-- the line of the counts of a rule
abbrev pub count_columns : Subject → RuleCount → Option ℕ → List ℕ
count_columns s c given_up = concat (
    column c.matches ∷ column c.bytes ∷ column c.longest ∷ last_columns c.beyond given_up
    ∷ counted_subject kinds.Matched s ∷ codes "\n" ∷ [])

-- no match of a rule was taken or given up
abbrev pub never_tried : RuleCount → Option ℕ → Bool
never_tried c given_up = c.matches == 0 && unwrap_or given_up 0 == 0

-- the line of a rule that has matched or was given up, and of one that did not
abbrev pub matched_line : Subject → RuleCount → Option ℕ → List ℕ
matched_line s c given_up = if never_tried c given_up then [] else count_columns s c given_up

abbrev pub never_line : Subject → RuleCount → Option ℕ → List ℕ
never_line s c given_up =
    if never_tried c given_up then counted_subject kinds.Never s ++ codes ": never\n" else []

-- a name of JSON with what stands before it, and a number
abbrev pub json_field : List ℕ → ℕ → List ℕ
json_field front n = front ++ decimal n

-- the last fields of the line of a rule
abbrev pub json_last : ℕ → Option ℕ → List ℕ
json_last beyond None = json_field (codes ",\"beyond\":") beyond
json_last beyond (Some given_up) =
    json_field (codes ",\"beyond\":") beyond ++ json_field (codes ",\"given_up\":") given_up

-- the line of a rule as JSON
abbrev pub json_line : Subject → RuleCount → Option ℕ → List ℕ
json_line s c given_up = concat (
    codes "{" ∷ counted_subject kinds.Json s
    ∷ json_field (codes ",\"matches\":") c.matches
    ∷ json_field (codes ",\"bytes\":") c.bytes
    ∷ json_field (codes ",\"longest\":") c.longest
    ∷ (json_last c.beyond given_up ++ codes "}\n") ∷ [])

abbrev pub kind_line : LineKind → Subject → RuleCount → Option ℕ → List ℕ
kind_line kinds.Matched s c given_up = matched_line s c given_up
kind_line kinds.Never s c given_up = never_line s c given_up
kind_line kinds.Json s c given_up = json_line s c given_up

-- the counts of the rule of this number
abbrev pub count_at : List RuleCount → ℕ → RuleCount
count_at counts i = slice_index_or counts i (record { matches = 0; bytes = 0; longest = 0; beyond = 0 })

-- the counts of two rules together, each up to the greatest number
abbrev pub together : RuleCount → RuleCount → RuleCount
together a b = record {
  matches = capped (a.matches + b.matches);
  bytes = capped (a.bytes + b.bytes);
  longest = max a.longest b.longest;
  beyond = capped (a.beyond + b.beyond);
}

-- the counts of all rules together, and how often they were given up in all
abbrev pub all_counts : Tally → RuleCount
all_counts t = fold together t.default_rule t.rules.items

abbrev pub all_given_up : List ℕ → ℕ
all_given_up counts = fold (λ a n. capped (a + n)) 0 counts

-- The line of all rules stands where the lines of those are that have matched, and among those of JSON.
abbrev pub all_line : LineKind → Bool → Counted → List ℕ
all_line kinds.Matched rejecting c =
    count_columns AllRules (all_counts c.tally) (given_where rejecting (all_given_up c.given_up.items))
all_line kinds.Never rejecting c = []
all_line kinds.Json rejecting c =
    json_line AllRules (all_counts c.tally) (given_where rejecting (all_given_up c.given_up.items))

-- the lines of one kind: of the rules at these lines of the file, in their order, then of the default rule, which is
-- never given up, and of all
abbrev pub numbered_lines : LineKind → Bool → List ℕ → Counted → List ℕ
numbered_lines kind rejecting lines c =
    flat_map (λ i. kind_line kind (Line (slice_index lines i)) (count_at c.tally.rules.items i)
    (given_where rejecting (slice_index c.given_up.items i))) (range_with_len 0 (length lines))

abbrev pub kind_lines : LineKind → Bool → List ℕ → Counted → List ℕ
kind_lines kind rejecting lines c =
    numbered_lines kind rejecting lines c
    ++ kind_line kind DefaultRule c.tally.default_rule (given_where rejecting 0) ++ all_line kind rejecting c

-- the line of a condition
abbrev pub turn_line : CountForm → List ℕ → ℕ → List ℕ
turn_line forms.Columns name turns = concat (column turns ∷ name ∷ codes "\n" ∷ [])
turn_line forms.Json name turns =
    concat (codes "{\"condition\":\"" ∷ name ∷ json_field (codes "\",\"turns\":") turns ∷ codes "}\n" ∷ [])

abbrev pub condition_lines : CountForm → List (List ℕ) → List ℕ → List ℕ
condition_lines form names turns =
    flat_map (λ c. turn_line form (slice_index_or names c []) (slice_index turns c)) (range_with_len 0 (length names))

-- the line of the condition in which the end of the input was met
abbrev pub ended_line : CountForm → List (List ℕ) → Option ℕ → List ℕ
ended_line form names None = []
ended_line forms.Columns names (Some c) = concat (codes "end: " ∷ slice_index_or names c [] ∷ codes "\n" ∷ [])
ended_line forms.Json names (Some c) = concat (codes "{\"end\":\"" ∷ slice_index_or names c [] ∷ codes "\"}\n" ∷ [])

-- what stands above the columns of rules
abbrev pub rule_heads : Bool → List ℕ
rule_heads rejecting =
    if rejecting then codes "     matches        bytes      longest       beyond     given up\n"
    else codes "     matches        bytes      longest       beyond\n"

-- All lines, where some rule has REJECT or none. In columns those of rules that have not matched or been given up come
-- behind those of the others.
abbrev pub count_lines : CountForm → Bool → List ℕ → List (List ℕ) → Counted → List ℕ
count_lines forms.Columns rejecting lines names c = concat (
    rule_heads rejecting
    ∷ kind_lines kinds.Matched rejecting lines c
    ∷ kind_lines kinds.Never rejecting lines c
    ∷ codes "       turns\n"
    ∷ condition_lines forms.Columns names c.tally.turns.items
    ∷ [])
count_lines forms.Json rejecting lines names c =
    kind_lines kinds.Json rejecting lines c ++ condition_lines forms.Json names c.tally.turns.items
