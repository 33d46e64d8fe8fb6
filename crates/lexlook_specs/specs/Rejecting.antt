-- A specification in which each action is REJECT: its automaton tells all the rules that fit. (This project's.)
use Rattle.std.specs.Prelude.{[], ◌∷◌, map}
use Rattle.lex_semantics.specs.Spec.{Spec, Rule, Reject}

abbrev pub rejecting_rule : Rule → Rule
rejecting_rule r = record r { statements = Reject ∷ [] }

abbrev pub rejecting : Spec → Spec
rejecting S = record { conditions = S.conditions; rules = map rejecting_rule S.rules }
