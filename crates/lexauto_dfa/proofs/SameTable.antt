-- Automata that accept alike are machines and tables for the same specifications.
use Rattle.std.proofs.Common.{◌≡◌, ℕ, ◌<◌, Bool, List, ap, sym, subst, ◌∙◌}
use Rattle.lex_semantics.specs.Text.{IsText, Among, Ascending}
use Rattle.lex_semantics.specs.Spec.{Spec}
use Rattle.lex_semantics.specs.Machine.{walk}
use Rattle.lex_semantics.specs.MachineLaws.{MachineLaws}
use Rattle.lex_semantics.specs.TableFor.{TableFor}
use Rattle.lexauto_dfa.specs.Invariant.{IsAutomaton}
use Rattle.lexauto_dfa.specs.Parts.{states, start, accepts, goes_on}
use Rattle.lexauto_dfa.specs.Automata.{machine_in}
use Rattle.lexauto_dfa.specs.declared.dfa.Parts.{Parts}
use Rattle.lexauto_dfa.proofs.Machinery.{walk_after, machine_laws}
use Rattle.lexauto_dfa.specs.Least.{AcceptsAs, GoesOnAs}

module _ (p q : Parts) (S : Spec) where
  pub laws_again : IsAutomaton q → ((k : ℕ) → k < states q → (x : ℕ) × (x < states p) × (accepts q k ≡ accepts p x)) → MachineLaws (machine_in p S) → MachineLaws (machine_in q S)
  laws_again b member laws = machine_laws q b S laws.some_condition
      (λ k i h among. (let (x, low, e) = member k h in laws.in_range x i (subst (λ (l : List ℕ). Among l i) e among)))
      laws.legal

  module _ (same : AcceptsAs p q) (flags : GoesOnAs p q) where
    rules_same : (c : ℕ) (line_start : Bool) (w : List ℕ) → IsText w → accepts q (walk (machine_in q S) (start q c line_start) w) ≡ accepts p (walk (machine_in p S) (start p c line_start) w)
    rules_same c line_start w text =
        ap (λ (s : ℕ). accepts q s) (walk_after q S (start q c line_start) w) ∙ sym (same c line_start w text) ∙ ap (λ (s : ℕ). accepts p s) (sym (walk_after p S (start p c line_start) w))

    flags_same : (c : ℕ) (line_start : Bool) (w : List ℕ) → IsText w → goes_on q (walk (machine_in q S) (start q c line_start) w) ≡ goes_on p (walk (machine_in p S) (start p c line_start) w)
    flags_same c line_start w text =
        ap (λ (s : ℕ). goes_on q s) (walk_after q S (start q c line_start) w) ∙ sym (flags c line_start w text) ∙ ap (λ (s : ℕ). goes_on p s) (sym (walk_after p S (start p c line_start) w))

    pub table_again : TableFor (machine_in p S) S → TableFor (machine_in q S) S
    table_again t = record {
      conditions = t.conditions;
      count = t.count;
      ascending = λ c line_start w low text. subst Ascending (sym (rules_same c line_start w text)) (t.ascending c line_start w low text);
      accepts = λ c line_start w i low text. (
        λ among. (t.accepts c line_start w i low text).0 (subst (λ (l : List ℕ). Among l i) (rules_same c line_start w text) among),
        λ fits. subst (λ (l : List ℕ). Among l i) (sym (rules_same c line_start w text)) ((t.accepts c line_start w i low text).1 fits),
      );
      goes_on = λ c line_start w low text. (
        λ g. (t.goes_on c line_start w low text).0 (sym (flags_same c line_start w text) ∙ g),
        λ live. flags_same c line_start w text ∙ (t.goes_on c line_start w low text).1 live,
      );
      cut = t.cut;
      statements = t.statements;
      ending = t.ending;
    }
