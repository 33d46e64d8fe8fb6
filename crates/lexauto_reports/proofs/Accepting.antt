-- The rules that an automaton for a specification accepts.
use Rattle.std.proofs.Math.Logic.{∥∥₁_elim}
use Rattle.std.proofs.Props.{props}
use Rattle.std.proofs.Common.{◌≡◌, ◌↔◌, ◌<◌, ◌≤◌, ℕ, zero, suc, Bool, true, List, [], ◌∷◌, length, inl, inr, sym, ap, subst, ◌∙◌, arith}
use Rattle.std.specs.Prelude.{nat_le, ◌&&◌, slice_get, Some}
use Rattle.std.proofs.lemmas.Bool.{cases_lt, and_parts, leb-true}
use Rattle.std.proofs.lemmas.List.{length-map}
use Rattle.lex_semantics.specs.Text.{Among}
use Rattle.lex_semantics.specs.Spec.{Spec, Rule}
use Rattle.lex_semantics.specs.Reports.{Useless}
use Rattle.lex_semantics.specs.Machine.{state_after}
use Rattle.lex_semantics.specs.TableFor.{TableFor}
use Rattle.lex_semantics.specs.TableLaws.{IsAccepted}
use Rattle.lex_semantics.proofs.TableReports.{useless_is}
use Rattle.lexauto_dfa.specs.Parts.{conditions, states, start, lists_in, accepts, IsReachedIn}
use Rattle.lexauto_dfa.specs.Automata.{machine_in}
use Rattle.lexauto_dfa.specs.Invariant.{IsAutomaton}
use Rattle.lexauto_dfa.specs.declared.dfa.Parts.{Parts}
use Rattle.lexauto_dfa.proofs.Machinery.{past_end, walk_after}

rule_known : (rules : List Rule) (i : ℕ) (r : Rule) → slice_get rules i ≡ Some r → i < length rules
rule_known [] i r e = absurd cc
rule_known (q ∷ rules) zero r e = omega arith
rule_known (q ∷ rules) (suc i) r e = let h = rule_known rules i r e in omega (arith, h)

-- a test of a specification bounds its rules
pub few_rules : (c r : ℕ) (a b : Bool) → (nat_le 1 c && nat_le c 255 && nat_le r 4096 && a && b) ≡ true → r ≤ 4096
few_rules c r a b e =
    let one = and_parts (nat_le 1 c && nat_le c 255 && nat_le r 4096 && a) b e in
    let two = and_parts (nat_le 1 c && nat_le c 255 && nat_le r 4096) a one.0 in
    leb-true r 4096 (and_parts (nat_le 1 c && nat_le c 255) (nat_le r 4096) two.0).1

module _ (p : Parts) (automaton : IsAutomaton p) (S : Spec) (count : conditions p ≡ length S.conditions) (table : TableFor (machine_in p S) S) where
  -- a state that accepts a rule is reached
  reached : (s i : ℕ) → s < states p → Among (accepts p s) i → ∥ IsReachedIn p s ∥₁
  reached s i h a = automaton.reached s h (λ zero_is. subst (λ l. Among l i) (ap (accepts p) zero_is ∙ automaton.dead_accepts) a)

  accepted_at : (s i : ℕ) → Among (accepts p s) i → IsReachedIn p s → IsAccepted (machine_in p S) S i
  accepted_at s i a (c, line_start, w, known, text, is) = (
    c,
    line_start,
    w,
    omega (arith, known, count),
    text,
    subst (λ t. Among (accepts p t) i) (sym (walk_after p S (start p c line_start) w ∙ is)) a,
  )

  among_known : (s i : ℕ) → Among (accepts p s) i → s < states p
  among_known s i h = elim (cases_lt s (states p)) [
    | inl y ↦ y
    | inr n ↦ absurd (subst (λ l. Among l i) (past_end (lists_in p) s [] (omega (arith, n, automaton.lists, length-map p.accepts.items (λ v. v.value.items)))) h)
  ]

  is_known : (i : ℕ) → IsAccepted (machine_in p S) S i → i < length S.rules
  is_known i (c, line_start, w, cond, text, a) = (let fit = ((table.accepts c line_start w i cond text).0 a).0.1 in rule_known S.rules i fit.rule fit.at)

  -- the rules that are accepted are rules of the specification
  pub rules_known : (s i : ℕ) → s < states p → Among (accepts p s) i → i < length S.rules
  rules_known s i h a = ∥∥₁_elim (reached s i h a) (search props) (λ r. is_known i (accepted_at s i a r))

  never : (i : ℕ) → ((s : ℕ) → s < states p → Among (accepts p s) i → ⊥) → IsAccepted (machine_in p S) S i → ⊥
  never i none (c, line_start, w, cond, text, a) = none (state_after (machine_in p S) c line_start w) (among_known _ i a) a

  -- a rule that no state accepts is useless, and no other
  pub useless_by_none : (i : ℕ) → ((i < length S.rules) × (((s : ℕ) × (s < states p) × Among (accepts p s) i) → ⊥)) ↔ Useless S i
  useless_by_none i = (to, from)
    where
      to : (i < length S.rules) × (((s : ℕ) × (s < states p) × Among (accepts p s) i) → ⊥) → Useless S i
      to (lt, none) = (useless_is (machine_in p S) S table i lt).1 (never i (λ s known a. none (s, known, a)))

      accepted_not : Useless S i → ((s : ℕ) × (s < states p) × Among (accepts p s) i) → ⊥
      accepted_not u f = ∥∥₁_elim (reached f.0 i f.1 f.2) (λ a b. absurd a) (λ r. (useless_is (machine_in p S) S table i u.0).0 u (accepted_at f.0 i f.2 r))

      from : Useless S i → (i < length S.rules) × (((s : ℕ) × (s < states p) × Among (accepts p s) i) → ⊥)
      from u = (u.0, accepted_not u)
