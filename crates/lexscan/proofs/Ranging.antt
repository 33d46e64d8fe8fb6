-- The conditions stay in range.
use Rattle.std.proofs.Common.{ℕ, List, [], inl, inr, Ok, sym, subst}
use Rattle.lex_semantics.specs.Machine.{Machine, rules_of_machine}
use Rattle.lex_semantics.specs.MachineLaws.{MachineLaws}
use Rattle.lex_semantics.proofs.Table.{Below}
use Rattle.lexscan_window.specs.declared.state.State.{State}
use Rattle.lexscan.specs.declared.turn.Turn.{Turn}
use Rattle.lexscan_window.specs.Acts.{acting_of}
use Rattle.lexscan_matching.specs.Descends.{matches_of, ending_of}
use Rattle.lexscan.specs.TurnSteps.{TurnStep}
use Rattle.lexscan.proofs.Outcomes.{perform_below}
use Rattle.std.proofs.Common.{take, drop}

pub conditions_below : {S K : Type 0} (M : Machine) (laws : MachineLaws M) (gave : S → List ℕ → S → Type 0) (wrote : K → List ℕ → K → Type 0) (s s' : S) (t t' : K) (old new : State) (turn : Turn) →
    TurnStep M gave wrote s s' t t' old new (Ok turn) → Below M.conditions old.place.condition old.acting.stack → Below M.conditions new.place.condition new.acting.stack
conditions_below M laws gave wrote s s' t t' old new turn (inl m) lt =
    subst (λ cs. Below M.conditions new.place.condition cs) (sym m.acted.left.stack)
    (subst (λ c. Below M.conditions c m.acted.acting.stack) (sym m.acted.left.condition)
    (perform_below (rules_of_machine M) laws.legal (take old.place.at m.mid.window.bytes) (drop old.place.at m.mid.window.bytes) (matches_of M m.mid.window.bytes old.place.at m.path) [] old.place.condition old.acting.stack
    (record (acting_of m.mid.window.bytes m.acted.acting m.acted.performed.out) { ended = ending_of m.acted.ended }) lt (m.acted.performed.acts [])))
conditions_below M laws gave wrote s s' t t' old new turn (inr m) lt =
    subst (λ cs. Below M.conditions new.place.condition cs) (sym m.left.stack) (subst (λ c. Below M.conditions c old.acting.stack) (sym m.left.condition) lt)
