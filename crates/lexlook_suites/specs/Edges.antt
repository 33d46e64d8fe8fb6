-- The states and the edges of an automaton, as `lexlook picture` draws them, with marks. (This project's.)
use Rattle.std.specs.Prelude.{ℕ, zero, suc, ◌+◌, ◌-◌, ◌*◌, ◌==◌, Bool, false, ◌&&◌, ◌||◌, if◌then◌else◌, List, [], ◌∷◌, map, slice_index_or}
use Rattle.std.specs.List.{range_with_len, flat_map}
use Rattle.lex_semantics.specs.Text.{flag}
use Rattle.lexauto_dfa.specs.Parts.{accepts, next, states}
use Rattle.lexauto_dfa.specs.declared.dfa.Parts.{Parts}
use Rattle.lexlook_specs.specs.Classes.{all_bytes}
use Rattle.lexlook_specs.specs.Pictures.{leads_below}
use Rattle.lexlook_suites.specs.declared.edges.Edge.{Edge}
use Rattle.lexlook_suites.specs.declared.edges.Part.{Part}
use Rattle.lexlook_suites.specs.declared.marks.Marks.{Marks}

-- the rule that matches at a state, of n: the first that it accepts, and n if it accepts none
abbrev pub rule_at : Parts → ℕ → ℕ → ℕ
rule_at p n s = slice_index_or (accepts p s) 0 n

-- one of the first n bytes that are marked leads to the state
abbrev pub goes_below : (ℕ → Bool) → (ℕ → ℕ) → ℕ → ℕ → Bool
goes_below marked go t zero = false
goes_below marked go t (suc n) = (marked n && (go n == t)) || goes_below marked go t n

-- one of the bytes that are marked leads to the state
unfoldable pub goes_to : (ℕ → Bool) → (ℕ → ℕ) → ℕ → Bool
goes_to marked go t = goes_below marked go t 256

-- a match goes on from the state by this byte
abbrev pub marked_by : Marks → ℕ → ℕ → Bool
marked_by m s b = flag m.bytes.items (256 * s + b)

-- The edge that stands at a byte: at the first that leads to a state, the edge of all bytes that lead there. It is
-- walked if a match goes by one of them, and it is of the rule that matches where it leads.
abbrev pub marked_edge : Parts → Marks → ℕ → ℕ → ℕ → List Edge
marked_edge p m n s b =
    let go = next p s in
    if (go b == 0) || leads_below go (go b) b then []
    else record {
      state = s;
      byte = b;
      target = go b;
      part = record { rule = rule_at p n (go b); walked = goes_to (marked_by m s) go (go b) };
    } ∷ []

abbrev pub edges_from : Parts → Marks → ℕ → ℕ → List Edge
edges_from p m n s = flat_map (marked_edge p m n s) all_bytes

-- the edges of each state but the dead one, and these states
abbrev pub all_edges : Parts → Marks → ℕ → List Edge
all_edges p m n = flat_map (edges_from p m n) (range_with_len 1 (states p - 1))

abbrev pub state_parts : Parts → Marks → ℕ → List Part
state_parts p m n =
    map (λ s. record { rule = rule_at p n s; walked = flag m.states.items s }) (range_with_len 1 (states p - 1))
