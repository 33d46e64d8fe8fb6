-- The position automaton of a rule, and of all the rules of a specification. (This project's.)
use Rattle.std.specs.Prelude.{ℕ, suc, ◌+◌, Bool, true, false, List, [], ◌∷◌, Option, Some, None, slice_get}
use Rattle.lex_semantics.specs.Tree.{Tree}
use Rattle.lex_semantics.specs.Positions.{positions}
use Rattle.lex_semantics.specs.Subsets.{positions_of_rule}
use Rattle.lex_semantics.specs.Spec.{Spec, Rule}
use Rattle.lex_semantics.specs.Active.{active}
use Rattle.lexauto_positions.specs.PositionAutomaton.{Quad, fail, skip, cat, alt, quad}

-- the same without the empty reading
abbrev pub nonempty : Quad → Quad
nonempty x = record { null = ⊥; first = x.first; last = x.last; follow = x.follow; letter = x.letter }

abbrev pub trail_quad : Option Tree → ℕ → Quad
trail_quad None base = skip
trail_quad (Some t) base = quad t base

abbrev pub rule_quad : Rule → ℕ → Quad
rule_quad r base = cat (nonempty (quad r.head base)) (trail_quad r.trail (base + positions r.head))

abbrev pub gated : Bool → Quad → Quad
gated true x = x
gated false x = fail

-- the automata of the rules side by side; `on` are the active ones, counted from i
abbrev pub active_quad : (ℕ → Bool) → ℕ → ℕ → List Rule → Quad
active_quad on i base [] = fail
active_quad on i base (r ∷ rules) =
    alt (gated (on i) (rule_quad r base)) (active_quad on (suc i) (base + positions_of_rule r) rules)

-- Moves don't depend on which rules are active: from a position of an active rule they are those of all rules.
abbrev pub every : ℕ → Bool
every i = true

-- whether a rule is there and active
abbrev pub is_on : Spec → ℕ → Bool → Option Rule → Bool
is_on S c line_start None = false
is_on S c line_start (Some r) = active S c line_start r

abbrev pub is_active : Spec → ℕ → Bool → ℕ → Bool
is_active S c line_start i = is_on S c line_start (slice_get S.rules i)

-- the automaton of the active rules, and of all of them
abbrev pub active_automaton : Spec → ℕ → Bool → Quad
active_automaton S c line_start = active_quad (is_active S c line_start) 0 0 S.rules

abbrev pub automaton : Spec → Quad
automaton S = active_quad every 0 0 S.rules
