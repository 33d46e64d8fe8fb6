-- The picture of an automaton, in the language DOT of Graphviz. (This project's.)
use Rattle.std.specs.Prelude.{ℕ, zero, suc, ◌-◌, ◌==◌, nat_le, Bool, true, false, ◌||◌, ◌&&◌, if◌then◌else◌, List, [], ◌∷◌, ◌++◌, length, slice_index, slice_index_or, codes, decimal}
use Rattle.std.specs.List.{concat, range_with_len, flat_map}
use Rattle.lex_io.specs.Octal.{octal}
use Rattle.lexauto_dfa.specs.Automata.{states_of, start_of, next_of, accepts_of}
use Rattle.lexauto_dfa.specs.declared.dfa.Dfa.{Dfa}
use Rattle.lexlook_specs.specs.Classes.{all_bytes, class_of}

-- in a quoted text of DOT a quote and a backslash stand behind a backslash
abbrev pub quoted_byte : ℕ → List ℕ
quoted_byte b = if (b == 34) || (b == 92) then 92 ∷ b ∷ [] else b ∷ []

abbrev pub quoted : List ℕ → List ℕ
quoted text = flat_map quoted_byte text

-- a byte in a quoted string of a pattern (POSIX, Table of Escape Sequences; flex, Patterns)
abbrev pub in_quotes : ℕ → List ℕ
in_quotes b =
    if b == 9 then codes "\\t"
    else if b == 10 then codes "\\n"
    else if nat_le 32 b && nat_le b 126 then quoted_byte b
    else octal b

-- a start: a node with the condition's name, and an arrow from it, unless the state is the dead one
abbrev pub arrow : List ℕ → ℕ → List ℕ
arrow node s = if s == 0 then [] else concat (node ∷ codes " -> " ∷ decimal s ∷ codes ";\n" ∷ [])

abbrev pub entry : List ℕ → ℕ → List ℕ
entry node s = concat (node ∷ codes " [shape=plaintext];\n" ∷ arrow node s ∷ [])

-- the node of a condition; at the start of a line `^` stands behind its name, as in a pattern
abbrev pub node_of : List ℕ → Bool → List ℕ
node_of name false = concat (codes "  \"<" ∷ quoted name ∷ codes ">\"" ∷ [])
node_of name true = concat (codes "  \"<" ∷ quoted name ∷ codes ">^\"" ∷ [])

-- the starts of a condition: that at the start of a line is left out where it is the same state
abbrev pub starts : List ℕ → ℕ → ℕ → List ℕ
starts name s at_line_start = entry (node_of name false) s
    ++ (if at_line_start == s then [] else entry (node_of name true) at_line_start)

-- the line in the file of a rule that a state accepts
abbrev pub rule_label : List ℕ → ℕ → List ℕ
rule_label lines i = codes "\\nline " ++ decimal (slice_index lines i)

-- a state that accepts rules: its number with their lines, in two circles
abbrev pub accepting_line : List ℕ → ℕ → List ℕ → List ℕ
accepting_line lines s rules = concat (
    codes "  " ∷ decimal s ∷ codes " [shape=doublecircle, label=\"" ∷ decimal s ∷ flat_map (rule_label lines) rules
    ∷ codes "\"];\n" ∷ [])

-- a state, by the rules that it accepts
abbrev pub node_line : List ℕ → ℕ → List ℕ → List ℕ
node_line lines s [] = concat (codes "  " ∷ decimal s ∷ codes ";\n" ∷ [])
node_line lines s (i ∷ is) = accepting_line lines s (i ∷ is)

abbrev pub edge : ℕ → ℕ → (ℕ → Bool) → List ℕ
edge s t set = concat (
    codes "  " ∷ decimal s ∷ codes " -> " ∷ decimal t ∷ codes " [label=\"" ∷ quoted (class_of set) ∷ codes "\"];\n"
    ∷ [])

-- one of the first n bytes leads to the state
abbrev pub leads_below : (ℕ → ℕ) → ℕ → ℕ → Bool
leads_below go t zero = false
leads_below go t (suc n) = (go n == t) || leads_below go t n

-- The edge that stands at a byte: at the first that leads to a state, the edge of all bytes that lead there. State 0 is
-- the dead one, to which there are no edges.
abbrev pub edge_at : ℕ → (ℕ → ℕ) → ℕ → List ℕ
edge_at s go b = if (go b == 0) || leads_below go (go b) b then [] else edge s (go b) (λ c. go c == go b)

unfoldable pub edges : ℕ → (ℕ → ℕ) → List ℕ
edges s go = flat_map (edge_at s go) all_bytes

-- the starts of the condition with the number
abbrev pub starts_of : Dfa → List (List ℕ) → ℕ → List ℕ
starts_of d names c = starts (slice_index_or names c []) (start_of d c false) (start_of d c true)

-- a state with its edges
abbrev pub state_lines : Dfa → List ℕ → ℕ → List ℕ
state_lines d lines s = node_line lines s (accepts_of d s) ++ edges s (next_of d s)

abbrev pub head : List ℕ
head = codes "digraph lex {\n  rankdir=LR;\n  node [shape=circle];\n"

-- the starts of each condition
abbrev pub all_starts : Dfa → List (List ℕ) → List ℕ
all_starts d names = flat_map (starts_of d names) (range_with_len 0 (length names))

-- each state but the dead one
abbrev pub all_states : Dfa → List ℕ → List ℕ
all_states d lines = flat_map (state_lines d lines) (range_with_len 1 (states_of d - 1))

-- the picture of an automaton, with the names of its conditions and the lines of its rules
abbrev pub picture : Dfa → List (List ℕ) → List ℕ → List ℕ
picture d names lines = head ++ (all_starts d names ++ (all_states d lines ++ codes "}\n"))
