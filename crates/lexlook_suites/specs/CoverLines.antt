-- The lines that tell what the matches of an input go through. (This project's.)
use Rattle.std.specs.Prelude.{ℕ, ◌<◌, ◌==◌, if◌then◌else◌, List, [], ◌∷◌, Option, Some, None, IfSome, codes, decimal, slice_index}
use Rattle.std.specs.List.{concat, flat_map, range_with_len}
use Rattle.lex_semantics.specs.Text.{Among}
use Rattle.lexlook_specs.specs.declared.words.finding.ShownText.{ShownText}
use Rattle.lexlook_suites.specs.Shown.{text_and_start}
use Rattle.lexlook_suites.specs.Shares.{share_of, share_of_all}
use Rattle.lexlook_suites.specs.declared.covering.Cover.{Cover}
use Rattle.lexlook_suites.specs.declared.edges.Edge.{Edge}
use Rattle.lexlook_suites.specs.declared.edges.Part.{Part}
use Rattle.lexlook_suites.specs.declared.lines.Subject.{Subject}
use Rattle.lexlook_suites.specs.declared.lines.Subject.TheVariants.{All, Line, NoRule}
use Rattle.lexlook_suites.specs.declared.shares.Share.{Share}
use Rattle.lexlook_suites.specs.declared.texts.Missed.{Missed}

-- of what a line tells: of all states and edges, of those of the rule at this line of the file, or of those where no
-- rule matches
abbrev pub share_subject : Subject → List ℕ
share_subject All = codes "all: "
share_subject (Line line) = concat (codes "line " ∷ decimal line ∷ codes ": " ∷ [])
share_subject NoRule = codes "no rule: "

-- how many of how many
abbrev pub share_words : Share → List ℕ → List ℕ
share_words s what = concat (decimal s.walked ∷ codes " of " ∷ decimal s.all ∷ what ∷ [])

abbrev pub share_line : Subject → Share → Share → List ℕ
share_line subject states edges = concat (
    share_subject subject ∷ share_words states (codes " states, ") ∷ share_words edges (codes " edges\n") ∷ [])

-- a line for each of n rules, in the order of the file
abbrev pub rule_shares : List ℕ → ℕ → List Part → List Part → List ℕ
rule_shares lines n states edges =
    flat_map (λ i. share_line (Line (slice_index lines i)) (share_of states i) (share_of edges i))
    (range_with_len 0 n)

-- a line of all, one for each rule, and one of what is of no rule
abbrev pub shares_lines : List ℕ → ℕ → List Part → List Part → List ℕ
shares_lines lines n states edges = concat (
    share_line All (share_of_all states) (share_of_all edges)
    ∷ rule_shares lines n states edges
    ∷ share_line NoRule (share_of states n) (share_of edges n)
    ∷ [])

-- the edge from a state to a state that no match goes through, and the first text that leads over it, if there is one
abbrev pub edge_line : List (List ℕ) → Edge → Option ShownText → List ℕ
edge_line names e None = []
edge_line names e (Some s) = concat (
    codes "not walked: " ∷ decimal e.state ∷ codes " -> " ∷ decimal e.target ∷ text_and_start names s ∷ [])

abbrev pub missed_line : List (List ℕ) → Missed → List ℕ
missed_line names m = edge_line names m.edge m.text

abbrev pub missed_lines : List (List ℕ) → List Missed → List ℕ
missed_lines names ms = flat_map (missed_line names) ms

-- how many edges more there are than lines
abbrev pub more_line : ℕ → List ℕ
more_line n = if n == 0 then [] else concat (codes "not walked: " ∷ decimal n ∷ codes " more\n" ∷ [])

-- each text is of one of so many conditions, which have names
abbrev pub HasName : ℕ → List Missed → Type 0
HasName n ms = (m : Missed) → Among ms m → IfSome m.text (λ s. s.condition < n)

-- all lines
abbrev pub cover_lines : List (List ℕ) → List ℕ → ℕ → Cover → List ℕ
cover_lines names lines n c = concat (
    shares_lines lines n c.states.items c.edges.items ∷ missed_lines names c.missed.items ∷ more_line c.more ∷ [])
