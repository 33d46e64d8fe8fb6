-- The states of an automaton's machine are those of the automaton.
use Rattle.std.proofs.Common.{◌≡◌, ℕ, ◌+◌, ◌*◌, ◌<◌, Bool, true, false, [], length, sym, subst, arith, inl, inr}
use Rattle.std.specs.Prelude.{slice_index, nat_lt}
use Rattle.std.proofs.lemmas.Bool.{cases_lt, cond-true, lt-ltb}
use Rattle.std.proofs.lemmas.List.{length-map}
use Rattle.lex_semantics.specs.Text.{Among}
use Rattle.lex_semantics.specs.Spec.{Spec}
use Rattle.lex_semantics.specs.MachineLaws.{StaysBelow}
use Rattle.lexauto_dfa.specs.Parts.{conditions, states, start, next, lists_in, accepts}
use Rattle.lexauto_dfa.specs.Invariant.{IsAutomaton}
use Rattle.lexauto_dfa.specs.Automata.{machine_in}
use Rattle.lexauto_dfa.specs.declared.dfa.Parts.{Parts}
use Rattle.lexauto_dfa.proofs.Machinery.{past_end}

module _ (p : Parts) (a : IsAutomaton p) (S : Spec) (count : conditions p ≡ length S.conditions) where
  starts : (c : ℕ) (line_start : Bool) → c < length S.conditions → start p c line_start < states p
  starts c true h = a.lines_known c (omega (arith, h, count, a.lines))
  starts c false h = a.starts_known c (omega (arith, h, count))

  nexts : (s b : ℕ) → s < states p → b < 256 → next p s b < states p
  nexts s b hs hb =
      subst (λ n. n < states p)
      (sym (cond-true (nat_lt b 256) (slice_index p.next.items (s * 256 + b)) 0 (lt-ltb b 256 hb)))
      (a.next_known (s * 256 + b) (omega (arith, hs, hb, a.rows)))

  accepted : (s i : ℕ) → Among (accepts p s) i → s < states p
  accepted s i h = elim (cases_lt s (states p)) [
    | inl y ↦ y
    | inr n ↦ absurd
        (subst (λ l. Among l i)
        (past_end (lists_in p) s [] (omega (arith, n, a.lists, length-map p.accepts.items (λ v. v.value.items)))) h)
  ]

  pub below : StaysBelow (machine_in p S) (states p)
  below = record { dead = a.some; start = starts; next = nexts; accepts = accepted }
