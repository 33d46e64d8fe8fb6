-- An automaton for a specification, which so accepts rules of it, is a machine.
use mathlib.Core.Logic.{∥∥₁_elim}
use Rattle.std.proofs.Common.{◌≡◌, ℕ, ◌<◌, Bool, List, length, sym, ap, subst, ◌∙◌, arith, inl, inr}
use Rattle.std.specs.Coded.{le_prop}
use Rattle.std.proofs.lemmas.Bool.{cases_eq}
use Rattle.std.proofs.lemmas.Option.{slice_get_within}
use Rattle.lex_semantics.specs.Text.{Among}
use Rattle.lex_semantics.specs.Spec.{Spec}
use Rattle.lex_semantics.specs.Sound.{IsSound}
use Rattle.lex_semantics.specs.Reports.{HasFit}
use Rattle.lex_semantics.specs.Machine.{state_after}
use Rattle.lex_semantics.specs.MachineLaws.{MachineLaws}
use Rattle.lex_semantics.specs.TableFor.{TableFor}
use Rattle.lexauto_dfa.specs.Parts.{states, conditions, start, accepts, IsReachedIn}
use Rattle.lexauto_dfa.specs.Invariant.{IsAutomaton}
use Rattle.lexauto_dfa.specs.Automata.{machine_in}
use Rattle.lexauto_dfa.specs.declared.dfa.Parts.{Parts}
use Rattle.lexauto_dfa.proofs.Machinery.{walk_after, sound_machine_laws}

there : (S : Spec) (c : ℕ) (line_start : Bool) (w : List ℕ) (i : ℕ) → HasFit S c line_start w i → i < length S.rules
there S c line_start w i (k, fit) = slice_get_within S.rules i fit.rule fit.at

module _ (p : Parts) (a : IsAutomaton p) (S : Spec) (sound : IsSound S) (count : conditions p ≡ length S.conditions) (table : TableFor (machine_in p S) S) where
  reached : (s i : ℕ) → Among (accepts p s) i → IsReachedIn p s → i < length S.rules
  reached s i among (c, line_start, w, low, text, e) =
      let known : c < length S.conditions = omega (arith, low, count) in
      let same : state_after (machine_in p S) c line_start w ≡ s = walk_after p S (start p c line_start) w ∙ e in
      there S c line_start w i ((table.accepts c line_start w i known text).0 (subst (λ (t : ℕ). Among (accepts p t) i) (sym same) among)).0

  known_rule : (s i : ℕ) → s < states p → Among (accepts p s) i → i < length S.rules
  known_rule s i h among = elim (cases_eq s 0) [
    | inl e ↦ absurd (subst (λ (l : List ℕ). Among l i) (ap (λ (t : ℕ). accepts p t) e ∙ a.dead_accepts) among)
    | inr n ↦ ∥∥₁_elim (a.reached s h n) le_prop (reached s i among)
  ]

  pub fitting_laws : MachineLaws (machine_in p S)
  fitting_laws = sound_machine_laws p a S sound known_rule
